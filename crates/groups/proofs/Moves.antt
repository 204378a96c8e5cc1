-- A group comes to another: the loop over the heads, and what it makes of the merge.
use Prim.Native.Nat.{ℕ, zero, suc, ◌+◌, ◌<◌, ◌≤◌}
use mathlib.Core.Path.{◌≡◌, refl, sym, ap, ◌∙◌}
use mathlib.Core.Bool.{Bool, true, false}
use mathlib.Core.List.{List, [], ◌∷◌, map}
use native.Mathlib.Omega.{arith}
use native.Mathlib.Decide.{ℕ_discrete}
use lib.ListN.{length}
use lib.Seq.{get_or-set_same, get_or-set_other}
use lib.Dec.{eqb}
use borrow.Author.Tests.{eq-eqb, ne_eqb}
use Rattle.base.specs.Each.{each_from}
use Rattle.base.specs.Pick.{pick}
use Rattle.base.proofs.Each.{each_same}
use Rattle.rules.specs.Limits.{max_states, work_size}
use Rattle.rules.specs.Merge.{head_of, join_groups}
use Rattle.room.specs.Areas.{Room, view, put_head, with_heads}
use Rattle.room.specs.Bounds.{LongEnough}
use Rattle.room.proofs.Lengths.{view_lengths}
use Rattle.marks.specs.Marks.{walked_in}
use Rattle.states.specs.StatesIn.{entry_in, state_in, states_in}
use Rattle.groups.specs.MergeIn.{origin_in, head_in, merge_in}
use Rattle.groups.specs.Groups.{moved, moved_in, Regrouped}
use Rattle.groups.proofs.Merged.{head_at, merge_parts}

-- ---- one head
module _ (v : Room) (h from to k : ℕ) (is : h ≡ head_in v k) where
  pub head_stays : (h ≡ from → ⊥) → v ≡ moved_in from to k v
  unfolding moved_in
  head_stays ne = let e : eqb (head_in v k) from ≡ false = ne_eqb (head_in v k) from (λ z. ne (is ∙ z)) in rw e

  pub head_moves : (q : Room) → h ≡ from → q ≡ put_head k to v → q ≡ moved_in from to k v
  unfolding moved_in
  head_moves q e put = let b : eqb (head_in v k) from ≡ true = eq-eqb (head_in v k) from (sym is ∙ e) in rw b put

module _ (from to k : ℕ) (w : List ℕ) where
  moved_there : LongEnough w → k < max_states → head_in (moved_in from to k (view w)) k ≡ moved from to (head_in (view w) k)
  unfolding moved_in
  moved_there fits low = by_test (eqb (head_in (view w) k) from)
    where
      by_test : (b : Bool) → head_in (pick b (put_head k to (view w)) (view w)) k ≡ pick b to (head_in (view w) k)
      by_test true = get_or-set_same (view w).heads k to 0 (omega (arith, (view_lengths w fits).heads_length))
      by_test false = refl

  moved_elsewhere : (j : ℕ) → (j ≡ k → ⊥) → head_in (moved_in from to k (view w)) j ≡ head_in (view w) j
  unfolding moved_in
  moved_elsewhere j ne = by_test (eqb (head_in (view w) k) from)
    where
      by_test : (b : Bool) → head_in (pick b (put_head k to (view w)) (view w)) j ≡ head_in (view w) j
      by_test true = get_or-set_other (view w).heads k j to 0 ne
      by_test false = refl

  moved_others : with_heads [] (moved_in from to k (view w)) ≡ with_heads [] (view w)
  unfolding moved_in
  moved_others = by_test (eqb (head_in (view w) k) from)
    where
      by_test : (b : Bool) → with_heads [] (pick b (put_head k to (view w)) (view w)) ≡ with_heads [] (view w)
      by_test true = refl
      by_test false = refl

-- ---- the loop: the states before n were moved, and the others were not
pub record MovedUpto (from to n : ℕ) (v q : Room) : Type 0 where
  pub others : with_heads [] q ≡ with_heads [] v
  pub moves : (k : ℕ) → k < n → head_in q k ≡ moved from to (head_in v k)
  pub stays : (k : ℕ) → n ≤ k → head_in q k ≡ head_in v k

pub moved_none : (from to : ℕ) (v : Room) → MovedUpto from to 0 v v
moved_none from to v = record { others = refl; moves = λ k h. absurd (omega arith); stays = λ k h. refl }

pub moved_more : (from to n : ℕ) (v : Room) (w : List ℕ) (q : Room) (m count : ℕ) → MovedUpto from to n v (view w) → work_size ≤ m → length w ≡ m → n < count → count ≤ max_states → q ≡ moved_in from to n (view w)
    → MovedUpto from to (n + 1) v q
moved_more from to n v w q m count upto fits same h low moves = record {
  others = ap (with_heads []) moves ∙ moved_others from to n w ∙ upto.others;
  moves = λ k l. elim (ℕ_discrete k n) [
    | yes e ↦ rw e (ap (λ (r : Room). head_in r n) moves ∙ moved_there from to n w (omega arith) (omega arith) ∙ ap (moved from to) (upto.stays n (omega arith)))
    | no ne ↦ ap (λ (r : Room). head_in r k) moves ∙ moved_elsewhere from to n w k ne ∙ upto.moves k (omega arith)
  ];
  stays = λ k l. ap (λ (r : Room). head_in r k) moves ∙ moved_elsewhere from to n w k (λ e. omega arith) ∙ upto.stays k (omega arith);
}

-- ---- the merge after it
pub map_each : {A B : Type 0} (f : A → B) (h : ℕ → A) (i n : ℕ) → map f (each_from h i n) ≡ each_from (λ k. f (h k)) i n
unfolding each_from
map_each f h i zero = refl
map_each f h i (suc n) = ap (λ l. f (h i) ∷ l) (map_each f h (suc i) n)

module _ (from to n count : ℕ) (v q : Room) (upto : MovedUpto from to n v q) (over : count ≤ n) where
  heads_moved : each_from (head_in q) 0 count ≡ map (λ head. pick (eqb head from) to head) (each_from (head_in v) 0 count)
  heads_moved = rw (map_each (λ head. pick (eqb head from) to head) (head_in v) 0 count) (each_same _ _ 0 count (λ k a b. upto.moves k (omega arith)))

  same_but_heads : {A : Type 0} (f : Room → A) → f (with_heads [] q) ≡ f (with_heads [] v)
  same_but_heads f = ap f upto.others

  states_stay : states_in q count ≡ states_in v count
  unfolding states_in state_in entry_in
  states_stay = same_but_heads (λ r. states_in r count)

  walked_stay : walked_in q ≡ walked_in v
  unfolding walked_in
  walked_stay = same_but_heads walked_in

  pub moved_all : (s t : ℕ) → s < count → t < count → to ≡ head_in v s → from ≡ head_in v t → Regrouped s t count v q
  unfolding join_groups merge_in
  moved_all s t h l e d = record { others = upto.others; merge = merge_parts q count (join_groups s t (merge_in v count)) states_stay (same_but_heads (λ r. each_from (origin_in r) 0 count)) heads_are walked_stay }
    where
      heads_are : each_from (head_in q) 0 count ≡ map (λ head. pick (eqb head (head_of (merge_in v count) t)) (head_of (merge_in v count) s) head) (each_from (head_in v) 0 count)
      heads_are = rw (head_at v count t l, head_at v count s h, ← e, ← d) heads_moved
