-- No second answer meets the promise of a visit, or of visits: two answers that say the same of the states are equal.
use Prim.Native.Nat.{ℕ}
use mathlib.Core.Path.{◌≡◌, refl, sym, ap, ◌∙◌}
use mathlib.Core.List.{List}
use lib.ListN.{length}
use Rattle.std.specs.Prelude.{Result, Ok, Err}
use Rattle.rules.specs.declared.BuildRefusal.{BuildRefusal}
use Rattle.rules.specs.States.{State, Outcome, done, refused}
use Rattle.room.specs.Areas.{Room}
use Rattle.states.proofs.States.{states_length}
use Rattle.merging.specs.Visits.{states_after}

-- the answer that says it
answer_by : Outcome (List State) → Result ℕ BuildRefusal
answer_by (done states) = Ok (length states)
answer_by (refused why) = Err why

answer_back : (r : Result ℕ BuildRefusal) (q : Room) → answer_by (states_after r q) ≡ r
unfolding states_after answer_by
answer_back (Ok count) q = ap Ok (states_length q count)
answer_back (Err why) q = refl

-- whatever else each left in its room
pub visit_one : (after : Outcome (List State)) (r s : Result ℕ BuildRefusal) (q u : Room) → states_after r q ≡ after → states_after s u ≡ after → r ≡ s
visit_one after r s q u one other = sym (answer_back r q) ∙ ap answer_by (one ∙ sym other) ∙ answer_back s u
