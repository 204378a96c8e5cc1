-- Entry k of state s hands on its least set, to its moved dot and to the items behind its dot.
use Prim.Native.Nat.{ℕ, ◌+◌, ◌-◌, ◌<◌}
use mathlib.Core.Path.{◌≡◌, sym, ap, ◌∙◌}
use mathlib.Core.Bool.{Bool, true, false, not}
use mathlib.Core.List.{List}
use native.Mathlib.Omega.{arith}
use lib.Dec.{eqb}
use borrow.Author.Tests.{not-true, not-false}
use Rattle.base.proofs.Each.{each_at}
use Rattle.rules.specs.Records.{records}
use Rattle.rules.specs.First.{first_sets}
use Rattle.rules.specs.States.{State, closes}
use Rattle.rules.specs.FinalCheck.{have_at, give_at, moves, is_behind_dot, entry_at, closing, entry_moved, entry_closed, move_entry, close_entry}
use Rattle.room.specs.Areas.{Room}
use Rattle.states.specs.StatesIn.{first_of}
use Rattle.first.specs.Firsts.{firsts_in}
use Rattle.least_steps.specs.Least.{least_entry, least_state, least_in}
use Rattle.least_steps.proofs.Entries.{least_at}
use Rattle.least_sets.specs.Steps.{Ready}

module _ (bytes : List ℕ) (count s k at-k : ℕ) (r : Room) (state : s < count) (entry : first_of r s + k < first_of r (s + 1)) (place : at-k ≡ first_of r s + k) where
  entry_at_lem : entry_at (least_in r count) s k ≡ least_entry r at-k
  unfolding entry_at least_state
  entry_at_lem =
      rw (least_at r count s state)
      (each_at (least_entry r) (first_of r s) (first_of r (s + 1) - first_of r s) k (record { item = 0; next = 0; set = 0 }) (omega arith) ∙ ap (least_entry r) (sym place))

  module _ (b : Bool) (says : b ≡ moves (records bytes) (least_entry r at-k)) where
    pub unmoved : not b ≡ true → least_in r count ≡ move_entry (records bytes) (first_sets (records bytes)) s k (least_in r count)
    unfolding move_entry
    unmoved z = rw (entry_at_lem, ← says, not-true b z)

    pub unmoved_says : not b ≡ true → false ≡ not (entry_moved (records bytes) (first_sets (records bytes)) (least_in r count) (entry_at (least_in r count) s k))
    unfolding entry_moved
    unmoved_says z = rw (entry_at_lem, ← says, not-true b z)

    pub moved : (l : List State) → not b ≡ false → l ≡ give_at (least_entry r at-k).next (eqb ((least_entry r at-k).item + 1)) (least_entry r at-k).set (least_in r count)
        → l ≡ move_entry (records bytes) (first_sets (records bytes)) s k (least_in r count)
    unfolding move_entry
    moved l z e = rw (entry_at_lem, ← says, not-false b z) e

    pub moved_says : (c : Bool) → not b ≡ false → c ≡ not (have_at (least_in r count) (least_entry r at-k).next (eqb ((least_entry r at-k).item + 1)) (least_entry r at-k).set)
        → c ≡ not (entry_moved (records bytes) (first_sets (records bytes)) (least_in r count) (entry_at (least_in r count) s k))
    unfolding entry_moved
    moved_says c z e = rw (entry_at_lem, ← says, not-false b z) e

  module _ (b : Bool) (says : b ≡ closes (records bytes) (least_entry r at-k).item (least_entry r at-k).set) where
    pub unclosed : not b ≡ true → least_in r count ≡ close_entry (records bytes) (first_sets (records bytes)) s k (least_in r count)
    unfolding close_entry
    unclosed z = rw (entry_at_lem, ← says, not-true b z)

    pub unclosed_says : not b ≡ true → false ≡ not (entry_closed (records bytes) (first_sets (records bytes)) (least_in r count) s (entry_at (least_in r count) s k))
    unfolding entry_closed
    unclosed_says z = rw (entry_at_lem, ← says, not-true b z)

    module _ (ready : Ready bytes count r) (z : not b ≡ false) where
      pub closed : (l : List State) → l ≡ give_at s (is_behind_dot (records bytes) (least_entry r at-k).item) (closing (records bytes) (firsts_in (records bytes) r) (least_entry r at-k)) (least_in r count)
          → l ≡ close_entry (records bytes) (first_sets (records bytes)) s k (least_in r count)
      unfolding close_entry
      closed l e = rw (entry_at_lem, ← says, not-false b z, ← ready.firsts) e

      pub closed_says : (c : Bool) → c ≡ not (have_at (least_in r count) s (is_behind_dot (records bytes) (least_entry r at-k).item) (closing (records bytes) (firsts_in (records bytes) r) (least_entry r at-k)))
          → c ≡ not (entry_closed (records bytes) (first_sets (records bytes)) (least_in r count) s (entry_at (least_in r count) s k))
      unfolding entry_closed
      closed_says c e = rw (entry_at_lem, ← says, not-false b z, ← ready.firsts) e
