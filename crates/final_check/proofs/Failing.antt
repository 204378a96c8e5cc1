-- A state that fails, and the lowest one as the code names it.
use Prim.Native.Nat.{ℕ, ◌<◌}
use mathlib.Core.Path.{ap, ◌≡◌}
use mathlib.Core.Bool.{Bool, true, false, not, ◌||◌}
use mathlib.Core.List.{List}
use lib.ListN.{length}
use lib.Dec.{eqb}
use Rattle.std.specs.Prelude.{Option, Some, None, nat_lt}
use Rattle.std.specs.Option.{MatchOption, IsSomeAnd}
use Rattle.base.specs.Pick.{pick}
use Rattle.base.specs.Loops.{first_from, place_below}
use Rattle.rules.specs.declared.StateIndex.{StateIndex}
use Rattle.rules.specs.Records.{Grammar, records}
use Rattle.rules.specs.First.{first_sets}
use Rattle.rules.specs.States.{conflicts_at}
use Rattle.rules.specs.FinalCheck.{lacks, fails_at, least_sets, first_failing}
use Rattle.room.specs.Areas.{Room}
use Rattle.states.specs.StatesIn.{state_in, states_in}
use Rattle.states.proofs.States.{states_length, state_at}
use Rattle.least_steps.specs.Least.{least_state, least_in, OnlyLeast}
use Rattle.least_steps.proofs.Entries.{least_at}
use Rattle.least_sets.specs.Steps.{Ready}
use Rattle.least_sets.proofs.Frames.{only_states}
use Rattle.final_check.specs.Fails.{state_below}

-- ---- state s
module _ (g : Grammar) (r : Room) (count s : ℕ) (h : s < count) where
  fails_as : fails_at g (states_in r count) (least_in r count) s ≡ (lacks g (state_in r s) (least_state r s) || not (eqb (conflicts_at g (state_in r s)) 0))
  unfolding fails_at
  fails_as = rw (state_at r count s h, least_at r count s h)

  module _ (b : Bool) (says : b ≡ lacks g (state_in r s) (least_state r s)) where
    pub fails_lacking : b ≡ true → b ≡ fails_at g (states_in r count) (least_in r count) s
    fails_lacking z = rw (fails_as, ← says, z)

    pub fails_conflict : (c : Bool) → b ≡ false → c ≡ not (eqb (conflicts_at g (state_in r s)) 0) → c ≡ fails_at g (states_in r count) (least_in r count) s
    fails_conflict c z e = rw (fails_as, ← says, z) e

-- ---- the lowest state, as the code names it
pub named : (found : Option ℕ) (state : Option StateIndex) (count s : ℕ) → found ≡ place_below count s → MatchOption found (state ≡ None) (λ x. IsSomeAnd state (λ y. y.0 ≡ x)) → state ≡ state_below count s
named found state count s e maps = by (nat_lt s count) e maps
  where
    some_is : (o : Option StateIndex) (x : ℕ) → IsSomeAnd o (λ y. y.0 ≡ x) → o ≡ Some (record { 0 = x })
    some_is None x h = absurd h
    some_is (Some y) x h = ap (λ (n : ℕ). Some (record { 0 = n })) h

    by : (b : Bool) → found ≡ pick b (Some s) None → MatchOption found (state ≡ None) (λ x. IsSomeAnd state (λ y. y.0 ≡ x)) → state ≡ pick b (Some (record { 0 = s })) None
    by true f m = some_is state s (rw f at m)
    by false f m = rw f at m

-- ---- by the least sets of the states
pub fails_found : (bytes : List ℕ) (count : ℕ) (a : Option StateIndex) (v q : Room) → Ready bytes count v → OnlyLeast v q
    → least_in q count ≡ least_sets (records bytes) (first_sets (records bytes)) (states_in v count)
    → a ≡ state_below count (first_from (fails_at (records bytes) (states_in q count) (least_in q count)) count 0) → a ≡ state_below count (first_failing (records bytes) (first_sets (records bytes)) (states_in v count))
unfolding first_failing
fails_found bytes count a v q ready only found e =
    rw (← found, states_length v count, ← only_states (length (records bytes)) count v q ready.placed only) e
