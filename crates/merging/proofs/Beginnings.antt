-- The beginning of a merge: the loop that makes each state a group of its own, and what a merge asks then.
use Prim.Native.Nat.{ℕ, zero, suc, ◌+◌, ◌<◌, ◌≤◌}
use mathlib.Core.Path.{◌≡◌, refl, sym, ap, ap₂, ◌∙◌}
use mathlib.Core.List.{List, [], ◌∷◌}
use native.Mathlib.Omega.{arith}
use native.Mathlib.Decide.{ℕ_discrete}
use lib.ListN.{length}
use lib.Seq.{get_or-set_same, get_or-set_other}
use Rattle.base.specs.Each.{each_from}
use Rattle.base.specs.Lists.{numbers_from, up_to}
use Rattle.base.proofs.Lists.{numbers_at}
use Rattle.rules.specs.Limits.{max_states}
use Rattle.rules.specs.Merge.{Merge, origin_of, merge_begun}
use Rattle.room.specs.Areas.{Room, view, put_origin, put_head, with_origins, with_heads}
use Rattle.room.specs.Bounds.{LongEnough}
use Rattle.room.proofs.Lengths.{view_lengths}
use Rattle.lookahead.specs.Sets.{set_at}
use Rattle.marks.specs.Marks.{walked_in, walked_cleared}
use Rattle.marks.proofs.Changes.{walked_none}
use Rattle.states.specs.StatesIn.{entry_in, state_in, states_in}
use Rattle.states.proofs.Places.{placed_same}
use Rattle.states.proofs.States.{states_length}
use Rattle.lane.specs.declared.Lanes.{Lanes}
use Rattle.groups.specs.MergeIn.{origin_in, head_in}
use Rattle.groups.proofs.Merged.{origin_at, merge_parts}
use Rattle.construct.specs.Merges.{elsewhere, OnlyMerge, Mergeable}
use Rattle.merging.specs.Begins.{begun_at, beside_merge, Begun}
use Rattle.merging.specs.Visits.{Resolvable}

-- ---- one state
pub state_begun : (s : ℕ) (v p q : Room) → p ≡ put_origin s s v → q ≡ put_head s s p → q ≡ begun_at s v
unfolding begun_at
state_begun s v p q put then = then ∙ ap (put_head s s) put

-- ---- the loop: the states before n are groups of their own
abbrev apart : Room → Room
apart r = with_heads [] (with_origins [] r)

pub record BegunUpto (n : ℕ) (v q : Room) : Type 0 where
  pub others : apart q ≡ apart v
  pub origins : (k : ℕ) → k < n → origin_in q k ≡ k
  pub heads : (k : ℕ) → k < n → head_in q k ≡ k

pub begun_none : (v : Room) → BegunUpto 0 v v
begun_none v = record { others = refl; origins = λ k h. absurd (omega arith); heads = λ k h. absurd (omega arith) }

pub begun_more : (n count : ℕ) (v : Room) (w : List ℕ) (q : Room) → BegunUpto n v (view w) → LongEnough w → n < count → count ≤ max_states → q ≡ begun_at n (view w) → BegunUpto (n + 1) v q
unfolding begun_at
begun_more n count v w q upto fits h low begun = record {
  others = ap apart begun ∙ upto.others;
  origins = λ k l. elim (ℕ_discrete k n) [
    | yes e ↦ rw (begun, e) (get_or-set_same (view w).origins n n 0 (omega (arith, (view_lengths w fits).origins_length)))
    | no ne ↦ ap (λ (r : Room). origin_in r k) begun ∙ get_or-set_other (view w).origins n k n 0 ne ∙ upto.origins k (omega arith)
  ];
  heads = λ k l. elim (ℕ_discrete k n) [
    | yes e ↦ rw (begun, e) (get_or-set_same (view w).heads n n 0 (omega (arith, (view_lengths w fits).heads_length)))
    | no ne ↦ ap (λ (r : Room). head_in r k) begun ∙ get_or-set_other (view w).heads n k n 0 ne ∙ upto.heads k (omega arith)
  ];
}

-- ---- the whole
numbers_each : (f : ℕ → ℕ) (i n : ℕ) → ((k : ℕ) → k < i + n → f k ≡ k) → each_from f i n ≡ numbers_from i n
unfolding each_from numbers_from
numbers_each f i zero same = refl
numbers_each f i (suc n) same = ap₂ ◌∷◌ (same i (omega arith)) (numbers_each f (suc i) n (λ k h. same k (omega arith)))

module _ (count n : ℕ) (w : List ℕ) (u q : Room) (fits : LongEnough w) (cleared : u ≡ walked_cleared (view w)) (upto : BegunUpto n u q) (over : count ≤ n) where
  beside : beside_merge q ≡ beside_merge (view w)
  beside = ap beside_merge upto.others ∙ ap beside_merge cleared

  states_stay : states_in q count ≡ states_in (view w) count
  unfolding states_in state_in entry_in
  states_stay = ap (λ (r : Room). states_in r count) beside

  none_walked : walked_in q ≡ 0
  unfolding walked_in
  none_walked = ap walked_in upto.others ∙ walked_none (view w) u (view_lengths w fits) cleared

  pub begun_all : Begun count (view w) q
  unfolding merge_begun up_to
  begun_all = record {
    others = beside;
    merge =
        merge_parts q count (merge_begun (states_in (view w) count)) states_stay (rw (states_length (view w) count) (numbers_each (origin_in q) 0 count (λ k h. upto.origins k (omega arith))))
        (rw (states_length (view w) count) (numbers_each (head_in q) 0 count (λ k h. upto.heads k (omega arith)))) none_walked;
  }

-- ---- what a merge asks then
module _ (count : ℕ) (v q : Room) (begun : Begun count v q) where
  own_original : (s : ℕ) → s < count → origin_in q s ≡ s
  unfolding origin_of merge_begun up_to
  own_original s h =
      sym (origin_at q count s h) ∙ ap (λ (m : Merge). origin_of m s) begun.merge ∙ numbers_at 0 (length (states_in v count)) s s (omega (arith, states_length v count)) ∙ omega arith

  item_stays : (k : ℕ) → (entry_in q k).item ≡ (entry_in v k).item
  unfolding entry_in
  item_stays k = ap (λ (r : Room). (entry_in r k).item) begun.others

  pub begun_only : OnlyMerge v q
  begun_only = record {
    others = ap elsewhere begun.others;
    firsts = λ slot h. ap (λ (r : Room). set_at r slot) begun.others;
    cells = λ slot h. ap (λ (r : Room). set_at r slot) begun.others;
  }

pub begun_ready : (bytes : List ℕ) (lanes : Lanes) (s : ℕ) (v q : Room) → Resolvable bytes lanes s v → Begun lanes.states v q → Mergeable bytes lanes lanes.states q
begun_ready bytes lanes s v q asked begun = record {
  clean = asked.clean;
  counted = asked.counted;
  placed = placed_same _ lanes.states v q asked.placed (ap (λ (r : Room). r.first_entries) begun.others) (λ k h. item_stays lanes.states v q begun k);
  grouped = record { few = asked.placed.few; narrow = asked.narrow; rows = omega arith; originals = λ k h. rw (own_original lanes.states v q begun k h) h };
}
