-- The test of the items that are given tokens, and one entry by it.
use Prim.Native.Nat.{ℕ}
use mathlib.Core.Path.{◌≡◌, sym, ap, ◌∙◌}
use mathlib.Core.Bool.{Bool, true, false, not}
use borrow.Author.Tests.{not-true, not-false}
use Rattle.base.specs.Pick.{pick}
use Rattle.rules.specs.Records.{Grammar}
use Rattle.room.specs.Areas.{Room}
use Rattle.room.specs.Slots.{hand_slot}
use Rattle.lookahead.specs.Sets.{join_set, lacks_some}
use Rattle.states.specs.StatesIn.{entry_in}
use Rattle.least_steps.specs.declared.give.Receivers.{Receivers}
use Rattle.least_steps.specs.Least.{least_slot}
use Rattle.least_steps.specs.Giving.{is_given}

-- ---- the entry at place k
module _ (g : Grammar) (to : Receivers) (k i : ℕ) (b : Bool) (r : Room) (is : i ≡ (entry_in r k).item) (says : b ≡ is_given g to i) where
  known : (c : Bool) → b ≡ c → is_given g to (entry_in r k).item ≡ c
  known c e = sym (says ∙ ap (is_given g to) is) ∙ e

  pub passed_room : not b ≡ true → r ≡ pick (is_given g to (entry_in r k).item) (join_set (least_slot k) hand_slot r) r
  passed_room z = rw (known false (not-true b z))

  pub passed_says : not b ≡ true → false ≡ pick (is_given g to (entry_in r k).item) (lacks_some (least_slot k) hand_slot r) false
  passed_says z = rw (known false (not-true b z))

  module _ (into from : ℕ) (z : not b ≡ false) (own : into ≡ least_slot k) (hand : from ≡ hand_slot) where
    pub joined_room : (q : Room) → q ≡ join_set into from r → q ≡ pick (is_given g to (entry_in r k).item) (join_set (least_slot k) hand_slot r) r
    joined_room q e = rw (known true (not-false b z), ← own, ← hand) e

    pub joined_says : (new : Bool) → new ≡ lacks_some into from r → new ≡ pick (is_given g to (entry_in r k).item) (lacks_some (least_slot k) hand_slot r) false
    joined_says new e = rw (known true (not-false b z), ← own, ← hand) e
