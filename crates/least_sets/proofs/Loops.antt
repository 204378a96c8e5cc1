-- The loops over the entries of a state and over the states, where they begin.
use Prim.Native.Nat.{ℕ, ◌+◌, ◌-◌, ◌<◌}
use mathlib.Core.Path.{◌≡◌, sym}
use mathlib.Core.Bool.{false, not, ◌||◌}
use mathlib.Core.List.{[]}
use native.Mathlib.Nat.{sub-zero}
use lib.ListN.{length, get_or}
use Rattle.base.specs.Loops.{fold_from, any_from}
use Rattle.base.proofs.EachLeft.{each_length}
use Rattle.rules.specs.Records.{Grammar}
use Rattle.rules.specs.First.{Sets}
use Rattle.rules.specs.FinalCheck.{settle_entry, settle_state, least_settled, least_round}
use Rattle.room.specs.Areas.{Room}
use Rattle.states.specs.StatesIn.{first_of}
use Rattle.least_steps.specs.Least.{least_entry, least_state, least_in}
use Rattle.least_steps.proofs.Entries.{least_at}
use Rattle.least_sets.specs.Steps.{settled_at, state_settled}
use Rattle.least_sets.proofs.Rests.{state_fold, state_lacking, round_fold, round_lacking}

module _ (g : Grammar) (sets : Sets) (r : Room) (count : ℕ) where
  -- the entries of state s
  module _ (s first end : ℕ) (state : s < count) (from : first ≡ first_of r s) (to : end ≡ first_of r (s + 1)) where
    size_is : end - first ≡ length (get_or (least_in r count) s [])
    unfolding least_state
    size_is = rw (least_at r count s state, from, to) (sym (each_length (least_entry r) (first_of r s) (first_of r (s + 1) - first_of r s)))

    pub state_begins : fold_from (settle_entry g sets s) (end - first - 0) 0 (least_in r count) ≡ settle_state g sets s (least_in r count)
    state_begins = rw sub-zero (state_fold g sets s (end - first) (least_in r count) size_is)

    pub state_lacks : (false || any_from (λ k. not (settled_at g sets s k (least_in r count))) (end - first - 0) 0) ≡ not (state_settled g sets s (least_in r count))
    state_lacks = rw sub-zero (state_lacking g sets s (end - first) (least_in r count) size_is)

  pub round_begins : fold_from (settle_state g sets) (count - 0) 0 (least_in r count) ≡ least_round g sets count (least_in r count)
  round_begins = rw sub-zero (round_fold g sets count (least_in r count))

  pub round_lacks : (false || any_from (λ s. not (state_settled g sets s (least_in r count))) (count - 0) 0) ≡ not (least_settled g sets count (least_in r count))
  round_lacks = rw sub-zero (round_lacking g sets count (least_in r count))
