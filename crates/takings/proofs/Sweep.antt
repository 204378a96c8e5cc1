-- The entries of a state, one after the other, take their columns.
use Prim.Native.Nat.{ℕ, ◌+◌, ◌<◌, ◌≤◌}
use mathlib.Core.Path.{◌≡◌, refl, sym, ap, ◌∙◌}
use mathlib.Core.Bool.{Bool, true, false}
use mathlib.Core.List.{List, []}
use native.Mathlib.Omega.{arith}
use native.Mathlib.Decide.{ℕ_discrete, dec_le}
use lib.ListN.{length}
use lib.Dec.{ltb}
use borrow.Author.Tests.{lt-ltb, le-ltb, ltb-true}
use Rattle.std.specs.Prelude.{Option, Some, None}
use Rattle.base.specs.Lists.{place_of}
use Rattle.base.specs.Loops.{place_below}
use Rattle.base.specs.Pick.{pick}
use Rattle.base.proofs.Each.{each_at, each_same}
use Rattle.rules.specs.Limits.{max_entries, work_size}
use Rattle.rules.specs.Lanes.{is_reduce, column_of}
use Rattle.rules.specs.Merge.{take_column}
use Rattle.room.specs.Areas.{Room, view, with_sets}
use Rattle.room.specs.Bounds.{LongEnough, IsEntry}
use Rattle.room.specs.Slots.{entry_slot}
use Rattle.room.proofs.Lengths.{Lengths, view_lengths}
use Rattle.lookahead.specs.Sets.{load_set, set_at, put_set}
use Rattle.lookahead.proofs.Slots.{load_other, length_stored_set}
use Rattle.context_set.specs.Columns.{columns_at}
use Rattle.states.specs.StatesIn.{entry_in, first_of, PlaceOf}
use Rattle.states.proofs.Changes.{slot_there, slot_elsewhere}
use Rattle.lane_table.specs.Actions.{actions_in}
use Rattle.takings.specs.Takes.{column_at, taken_at, Taken}
use Rattle.takings.proofs.Places.{actions_length, below_some, below_none}

-- ---- one entry
module _ (v : Room) (width at k i : ℕ) (item : i ≡ (entry_in v k).item) (r : Option ℕ) (found : r ≡ place_below width (place_of (is_reduce i) (actions_in v width))) where
  column_found : r ≡ place_below width (column_at v width k)
  unfolding column_at
  column_found = rw (← item) found

  pub take_none : r ≡ None → v ≡ taken_at width at k v
  unfolding taken_at
  take_none e = rw (le-ltb (column_at v width k) width (below_none width (column_at v width k) (sym column_found ∙ e)))

  module _ (c : ℕ) (is : r ≡ Some c) where
    there : (column_at v width k ≡ c) × (column_at v width k < width)
    there = below_some width (column_at v width k) c (sym column_found ∙ is)

    column_low : c < width
    column_low = omega (arith, there.0, there.1)

    pub take_one : (q : Room) (slot : ℕ) → slot ≡ entry_slot k → q ≡ put_set slot (set_at v (at + c)) v → q ≡ taken_at width at k v
    unfolding taken_at
    take_one q slot at-k put = rw (there.0, lt-ltb c width column_low, ← at-k) put

module _ (width at k : ℕ) (v : Room) where
  abbrev put : Room
  put = put_set (entry_slot k) (set_at v (at + column_at v width k)) v

  column_read : column_at v width k < width → column_of (columns_at v at width) (column_at v width k) ≡ set_at v (at + column_at v width k)
  unfolding column_of
  column_read h = each_at (load_set v.sets) at width (column_at v width k) 0 h

  take_there : Lengths v → IsEntry k → entry_in (taken_at width at k v) k ≡ take_column (actions_in v width) (columns_at v at width) (entry_in v k)
  unfolding taken_at take_column column_at
  take_there sized low = rw (actions_length v width) (by_test (ltb (column_at v width k) width) refl)
    where
      by_test : (b : Bool) → ltb (column_at v width k) width ≡ b
          → entry_in (pick b put v) k ≡ record { item = (entry_in v k).item; next = (entry_in v k).next; set = pick b (column_of (columns_at v at width) (column_at v width k)) (entry_in v k).set }
      by_test true e = rw (column_read (ltb-true _ _ e)) (slot_there v put k _ refl sized low)
      by_test false e = refl

  take_other : (j : ℕ) → (j ≡ k → ⊥) → entry_in (taken_at width at k v) j ≡ entry_in v j
  unfolding taken_at
  take_other j ne = by_test (ltb (column_at v width k) width)
    where
      by_test : (b : Bool) → entry_in (pick b put v) j ≡ entry_in v j
      by_test true = slot_elsewhere v put k _ refl j ne
      by_test false = refl

  take_others : with_sets [] (taken_at width at k v) ≡ with_sets [] v
  unfolding taken_at
  take_others = by_test (ltb (column_at v width k) width)
    where
      by_test : (b : Bool) → with_sets [] (pick b put v) ≡ with_sets [] v
      by_test true = refl
      by_test false = refl

  take_words : length (taken_at width at k v).sets ≡ length v.sets
  unfolding taken_at
  take_words = by_test (ltb (column_at v width k) width)
    where
      by_test : (b : Bool) → length (pick b put v).sets ≡ length v.sets
      by_test true = length_stored_set v.sets _ _
      by_test false = refl

  take_slots : (slot : ℕ) → (slot ≡ entry_slot k → ⊥) → set_at (taken_at width at k v) slot ≡ set_at v slot
  unfolding taken_at
  take_slots slot ne = by_test (ltb (column_at v width k) width)
    where
      by_test : (b : Bool) → set_at (pick b put v) slot ≡ set_at v slot
      by_test true = load_other v.sets (entry_slot k) (set_at v (at + column_at v width k)) slot ne
      by_test false = refl

-- ---- the entries from `first` to n
pub record TakenUpto (width at first n : ℕ) (v q : Room) : Type 0 where
  pub others : with_sets [] q ≡ with_sets [] v
  pub words : length q.sets ≡ length v.sets
  pub slots_before : (slot : ℕ) → slot < entry_slot 0 → set_at q slot ≡ set_at v slot
  pub slots_behind : (slot : ℕ) → entry_slot max_entries ≤ slot → set_at q slot ≡ set_at v slot
  pub inside : (k : ℕ) → first ≤ k → k < n → entry_in q k ≡ take_column (actions_in v width) (columns_at v at width) (entry_in v k)
  pub before : (k : ℕ) → k < first → entry_in q k ≡ entry_in v k
  pub behind : (k : ℕ) → n ≤ k → entry_in q k ≡ entry_in v k

pub taken_none : (width at first : ℕ) (v : Room) → TakenUpto width at first first v v
taken_none width at first v = record {
  others = refl;
  words = refl;
  slots_before = λ slot h. refl;
  slots_behind = λ slot h. refl;
  inside = λ k h l. absurd (omega arith);
  before = λ k h. refl;
  behind = λ k h. refl;
}

module _ (width at first n : ℕ) (v : Room) (w : List ℕ) (q : Room) (upto : TakenUpto width at first n v (view w)) (fits : LongEnough w) (low : at + width ≤ entry_slot 0) (place : IsEntry n) (take : q ≡ taken_at width at n (view w)) where
  actions_stay : actions_in (view w) width ≡ actions_in v width
  unfolding actions_in
  actions_stay = ap (λ (r : Room). actions_in r width) upto.others

  columns_stay : columns_at (view w) at width ≡ columns_at v at width
  columns_stay = each_same (load_set (view w).sets) (load_set v.sets) at width (λ slot h g. upto.slots_before slot (omega arith))

  taken_one : first ≤ n → TakenUpto width at first (n + 1) v q
  taken_one from = record {
    others = ap (with_sets []) take ∙ take_others width at n (view w) ∙ upto.others;
    words = ap (λ (r : Room). length r.sets) take ∙ take_words width at n (view w) ∙ upto.words;
    slots_before = λ slot h. ap (λ (r : Room). set_at r slot) take ∙ take_slots width at n (view w) slot (λ e. omega arith) ∙ upto.slots_before slot h;
    slots_behind = λ slot h. ap (λ (r : Room). set_at r slot) take ∙ take_slots width at n (view w) slot (λ e. omega arith) ∙ upto.slots_behind slot h;
    inside = λ k a b. elim (ℕ_discrete k n) [
      | yes e ↦ rw e (ap (λ (r : Room). entry_in r n) take ∙ take_there width at n (view w) (view_lengths w fits) place ∙ rw (actions_stay, columns_stay, upto.behind n (omega arith)))
      | no ne ↦ ap (λ (r : Room). entry_in r k) take ∙ take_other width at n (view w) k ne ∙ upto.inside k a (omega arith)
    ];
    before = λ k a. ap (λ (r : Room). entry_in r k) take ∙ take_other width at n (view w) k (λ e. omega arith) ∙ upto.before k a;
    behind = λ k a. ap (λ (r : Room). entry_in r k) take ∙ take_other width at n (view w) k (λ e. omega arith) ∙ upto.behind k (omega arith);
  }

pub taken_more : (width at first n end m : ℕ) (v : Room) (w : List ℕ) (q : Room) → TakenUpto width at first n v (view w) → work_size ≤ m → length w ≡ m → at + width ≤ entry_slot 0 → first ≤ n → n < end → end ≤ max_entries
    → q ≡ taken_at width at n (view w) → TakenUpto width at first (n + 1) v q
taken_more width at first n end m v w q upto fits same low from h bound take = taken_one width at first n v w q upto (omega arith) low (omega arith) take from

module _ (width at s first end n : ℕ) (v q : Room) (is-first : first ≡ first_of v s) (is_end : end ≡ first_of v (s + 1)) (upto : TakenUpto width at first n v q) where
  pub taken_all : n ≤ end → end ≤ n → Taken width at s v q
  taken_all h l = record {
    others = upto.others;
    words = upto.words;
    slots_before = upto.slots_before;
    slots_behind = upto.slots_behind;
    inside = λ k p. upto.inside k (rw is-first p.from) (lower k p.to);
    outside = λ k out. elim (dec_le first k) [
      | yes a ↦ upto.behind k (upper k a out)
      | no a ↦ upto.before k (omega arith)
    ];
  }
    where
      lower : (k : ℕ) → k < first_of v (s + 1) → k < n
      lower k p = omega (arith, is_end)

      upper : (k : ℕ) → first ≤ k → (PlaceOf v s k → ⊥) → n ≤ k
      upper k a out = elim (dec_le end k) [ yes b ↦ omega arith | no b ↦ absurd (out (record { from = rw (← is-first) a; to = omega (arith, is_end) })) ]
