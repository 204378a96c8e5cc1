-- What stays while least sets are collected, and where the entry at hand lies.
use Prim.Native.Nat.{ℕ, ◌+◌, ◌-◌, ◌<◌, ◌≤◌}
use mathlib.Core.Path.{◌≡◌, ap, ◌∙◌}
use mathlib.Core.List.{List}
use native.Mathlib.Omega.{arith}
use lib.ListN.{length}
use Rattle.base.proofs.Each.{each_same}
use Rattle.rules.specs.Limits.{max_states}
use Rattle.rules.specs.Records.{records}
use Rattle.rules.specs.Grammar.{nonterminal_count}
use Rattle.room.specs.Areas.{Room}
use Rattle.room.specs.Bounds.{IsEntry}
use Rattle.room.specs.Slots.{entry_slot}
use Rattle.lookahead.specs.Sets.{load_set}
use Rattle.grammar.proofs.Coded.{nonterminal_count_below}
use Rattle.states.specs.StatesIn.{entry_in, first_of, states_in, Placed}
use Rattle.states.proofs.States.{first_same, entry_same}
use Rattle.states.proofs.Places.{end_within, placed_same, states_same}
use Rattle.least_steps.specs.Least.{OnlyLeast}
use Rattle.least_steps.proofs.Entries.{same_items}
use Rattle.least_sets.specs.Steps.{Ready}

-- ---- what is asked stays
module _ (bytes : List ℕ) (count : ℕ) (v : Room) (ready : Ready bytes count v) where
  module _ (q : Room) (only : OnlyLeast v q) where
    pub ready_only : Ready bytes count q
    ready_only = record {
      clean = ready.clean;
      placed = placed_same (length (records bytes)) count v q ready.placed (ap (λ (r : Room). r.first_entries) only.others) (λ k h. same_items v q k (ap (λ (r : Room). r.entries) only.others));
      firsts =
          let m = nonterminal_count_below (records bytes) ready.clean in
          each_same (load_set q.sets) (load_set v.sets) 0 (nonterminal_count (records bytes)) (λ a h g. only.slots a (omega arith)) ∙ ready.firsts;
    }

  -- ---- the entry at hand
  module _ (s : ℕ) (state : s < count) where
    pub few_states : s < max_states
    few_states = omega (arith, ready.placed.few)

    module _ (k : ℕ) (entry : first_of v s + k < first_of v (s + 1)) where
      pub place_area : IsEntry (first_of v s + k)
      place_area = omega (arith, (ready.placed.each s state).bounded)

      module _ (at : ℕ) (is : at ≡ first_of v s + k) where
        pub at_area : IsEntry at
        at_area = omega (arith, place_area)

        pub at_recorded : (entry_in v at).item < length (records bytes)
        at_recorded = (ready.placed.each s state).recorded at (omega arith) (omega arith)

    -- ---- how many entries a state has
    pub size_fits : (first end : ℕ) → first ≡ first_of v s → end ≡ first_of v (s + 1) → first ≤ end
    size_fits first end p q = omega (arith, (ready.placed.each s state).ordered)

-- ---- entry k of state s, and entry k of as many as the state had at first
pub entry_only : (v q : Room) (s k : ℕ) → OnlyLeast v q → first_of v s + k < first_of v (s + 1) → first_of q s + k < first_of q (s + 1)
entry_only v q s k only h =
    let firsts : q.first_entries ≡ v.first_entries = ap (λ (r : Room). r.first_entries) only.others in
    omega (arith, first_same v q firsts s, first_same v q firsts (s + 1))

pub entry_left : (v q : Room) (s k size : ℕ) → OnlyLeast v q → size ≡ first_of v (s + 1) - first_of v s → k < size → first_of q s + k < first_of q (s + 1)
entry_left v q s k size only is h = entry_only v q s k only (omega arith)

-- ---- the states stay
pub only_states : (record_count count : ℕ) (v q : Room) → Placed record_count count v → OnlyLeast v q → states_in q count ≡ states_in v count
only_states record_count count v q placed only =
    states_same record_count count v q placed (ap (λ (r : Room). r.first_entries) only.others)
    (λ k h. entry_same v q k (ap (λ (r : Room). r.entries) only.others) (only.slots (entry_slot k) (omega (arith, end_within record_count count v placed))))
