-- The loops over columns.
use Prim.Native.Nat.{ℕ, zero, suc, ◌+◌, ◌-◌, ◌<◌, ◌≤◌}
use mathlib.Core.Path.{◌≡◌, refl, sym, ap, ap₂, ◌∙◌}
use mathlib.Core.Bool.{Bool, true, false, not}
use mathlib.Core.List.{List, [], ◌∷◌}
use native.Mathlib.Omega.{arith}
use native.Mathlib.Decide.{ℕ_discrete}
use lib.ListN.{length, replicate}
use borrow.Author.Tests.{not-true, not-false}
use Rattle.base.specs.Each.{each_from}
use Rattle.base.specs.Lists.{each_of}
use Rattle.base.proofs.Each.{each_same, each_one}
use Rattle.base.proofs.EachLeft.{each_none, each_more}
use Rattle.rules.specs.Limits.{work_size}
use Rattle.rules.specs.Tokens.{TokenSet, join, disjoint}
use Rattle.rules.specs.Lanes.{join_columns, pairwise_disjoint}
use Rattle.room.specs.Areas.{Room, view, with_sets}
use Rattle.room.specs.Bounds.{LongEnough, slot_count}
use Rattle.room.proofs.Lengths.{view_lengths}
use Rattle.lookahead.specs.Sets.{load_set, set_at, put_set}
use Rattle.lookahead.proofs.Slots.{put_there, put_elsewhere, length_stored_set}
use Rattle.context_set.specs.Columns.{columns_at, columns_up_to, columns_joined, OnlyColumns, Columned}

-- ---- columns by their slots
all_empty : (f : ℕ → TokenSet) (i n : ℕ) → ((k : ℕ) → i ≤ k → k < i + n → f k ≡ 0) → each_from f i n ≡ replicate n 0
all_empty f i n same = each_same f (λ k. 0) i n same ∙ each_one (λ k. 0) i n 0 (λ k. refl)

columns_joined_lem : (p f h : ℕ → TokenSet) (i j n : ℕ) → ((k : ℕ) → k < n → p (i + k) ≡ join (f (i + k)) (h (j + k))) → each_from p i n ≡ join_columns (each_from f i n) (each_from h j n)
unfolding each_from join_columns
columns_joined_lem p f h i j zero same = refl
columns_joined_lem p f h i j (suc n) same = ap₂ ◌∷◌ (first (same 0 (omega arith))) (columns_joined_lem p f h (suc i) (suc j) n (λ k l. later k (same (suc k) (omega arith))))
  where
    first : p (i + 0) ≡ join (f (i + 0)) (h (j + 0)) → p i ≡ join (f i) (h j)
    first e = let a : i + 0 ≡ i = omega arith in let b : j + 0 ≡ j = omega arith in rw (a, b) at e

    later : (k : ℕ) → p (i + suc k) ≡ join (f (i + suc k)) (h (j + suc k)) → p (suc i + k) ≡ join (f (suc i + k)) (h (suc j + k))
    later k e = let a : suc i + k ≡ i + suc k = omega arith in let b : suc j + k ≡ j + suc k = omega arith in rw (a, b) e

-- ---- a loop that changes the columns one by one
-- the first n columns from `at` on are what `value` says
pub record Upto (value : ℕ → TokenSet) (at n : ℕ) (v q : Room) : Type 0 where
  pub only : OnlyColumns at n v q
  pub there : (k : ℕ) → k < n → set_at q (at + k) ≡ value k

only_none : (at : ℕ) (v : Room) → OnlyColumns at 0 v v
only_none at v = record { others = refl; words = refl; before = λ slot h. refl; behind = λ slot h. refl }

upto_none : (value : ℕ → TokenSet) (at : ℕ) (v : Room) → Upto value at 0 v v
upto_none value at v = record { only = only_none at v; there = λ k h. absurd (omega arith) }

upto_more : (value : ℕ → TokenSet) (at n : ℕ) (v : Room) (w : List ℕ) (q : Room) (tokens : TokenSet) → Upto value at n v (view w) → LongEnough w → at + n < slot_count → q ≡ put_set (at + n) tokens (view w) → tokens ≡ value n → Upto value at (n + 1) v q
upto_more value at n v w q tokens upto fits low put is = record {
  only = record {
    others = ap (with_sets []) put ∙ upto.only.others;
    words = ap (λ (r : Room). length r.sets) put ∙ length_stored_set (view w).sets (at + n) tokens ∙ upto.only.words;
    before = λ slot h. put_elsewhere (view w) q (at + n) tokens put slot (λ e. omega arith) ∙ upto.only.before slot h;
    behind = λ slot h. put_elsewhere (view w) q (at + n) tokens put slot (λ e. omega arith) ∙ upto.only.behind slot (omega arith);
  };
  there = λ k h. elim (ℕ_discrete k n) [
    | yes e ↦ ap (λ (j : ℕ). set_at q (at + j)) e ∙ put_there (view w) q (at + n) tokens put (omega (arith, (view_lengths w fits).sets_length)) ∙ is ∙ ap value (sym e)
    | no ne ↦ put_elsewhere (view w) q (at + n) tokens put (at + k) (λ e. ne (omega arith)) ∙ upto.there k (omega arith)
  ];
}

-- ---- clearing
abbrev nothing : ℕ → TokenSet
nothing k = 0

pub clear_begins : (at : ℕ) (v : Room) → Upto (λ k. 0) at 0 v v
clear_begins at v = upto_none nothing at v

pub clear_turns : (at n : ℕ) (v : Room) (w : List ℕ) (q : Room) (m l : ℕ) → Upto (λ k. 0) at n v (view w) → work_size ≤ m → length w ≡ m → n < l → at + l ≤ slot_count → q ≡ put_set (at + n) 0 (view w) → Upto (λ k. 0) at (n + 1) v q
clear_turns at n v w q m l upto fits same h low put = upto_more nothing at n v w q 0 upto (omega arith) (omega arith) put refl

pub clear_ends : (at n width : ℕ) (v q : Room) → Upto (λ k. 0) at n v q → n ≤ width → width ≤ n → Columned at width (replicate width 0) v q
clear_ends at n width v q upto h g =
    let e : n ≡ width = omega arith in
    let there : Upto nothing at width v q = rw e at upto in
    record { only = there.only; are = all_empty (load_set q.sets) at width (λ k a b. empty there k a b) }
  where
    empty : Upto nothing at width v q → (k : ℕ) → at ≤ k → k < at + width → load_set q.sets k ≡ 0
    empty there k a b = let z : at + (k - at) ≡ k = omega arith in rw z at (there.there (k - at) (omega arith))

-- ---- joining
-- column k of both
unfoldable pub both_at : ℕ → ℕ → Room → ℕ → TokenSet
both_at into from v k = join (set_at v (into + k)) (set_at v (from + k))

both_is : (into from : ℕ) (v : Room) (k : ℕ) → join (set_at v (into + k)) (set_at v (from + k)) ≡ both_at into from v k
unfolding both_at
both_is into from v k = refl

module _ (into from : ℕ) (v : Room) where
  pub join_begins : Upto (both_at into from v) into 0 v v
  join_begins = upto_none (both_at into from v) into v

  pub join_turns : (n : ℕ) (w : List ℕ) (q : Room) (m l : ℕ) → Upto (both_at into from v) into n v (view w) → work_size ≤ m → length w ≡ m → n < l → into + l ≤ from → from + l ≤ slot_count
      → q ≡ put_set (into + n) (join (set_at (view w) (into + n)) (set_at (view w) (from + n))) (view w) → Upto (both_at into from v) into (n + 1) v q
  join_turns n w q m l upto fits same h apart low put =
      upto_more (both_at into from v) into n v w q _ upto (omega arith) (omega arith) put
      (ap₂ join (upto.only.behind (into + n) (omega arith)) (upto.only.behind (from + n) (omega arith)) ∙ both_is into from v n)

  pub join_ends : (n width : ℕ) (q : Room) → Upto (both_at into from v) into n v q → n ≤ width → width ≤ n
      → Columned into width (columns_joined into from width v) v q
  unfolding both_at
  join_ends n width q upto h g =
      let e : n ≡ width = omega arith in
      let there : Upto (both_at into from v) into width v q = rw e at upto in
      record { only = there.only; are = columns_joined_lem (load_set q.sets) (load_set v.sets) (load_set v.sets) into from width there.there }

-- ---- pairwise
pub pairs_start : (r : Room) (at width : ℕ) → pairwise_disjoint (columns_up_to r at (at + width)) ≡ pairwise_disjoint (columns_at r at width)
pairs_start r at width = let z : at + width - at ≡ width = omega arith in rw z

-- the columns from one on, by whether it shares no token with those behind it
module _ (r : Room) (end slot : ℕ) where
  pub pairs_fail : slot < end → each_of (disjoint (set_at r slot)) (columns_up_to r (slot + 1) end) ≡ false → pairwise_disjoint (columns_up_to r slot end) ≡ false
  unfolding pairwise_disjoint
  pairs_fail h e = rw (each_more (load_set r.sets) end slot h, e)

  pub pairs_turn : slot < end → each_of (disjoint (set_at r slot)) (columns_up_to r (slot + 1) end) ≡ true → pairwise_disjoint (columns_up_to r slot end) ≡ pairwise_disjoint (columns_up_to r (slot + 1) end)
  unfolding pairwise_disjoint
  pairs_turn h e = rw (each_more (load_set r.sets) end slot h, e)

  pub pairs_end : end ≤ slot → pairwise_disjoint (columns_up_to r slot end) ≡ true
  unfolding pairwise_disjoint
  pairs_end h = rw (each_none (load_set r.sets) end slot h)
