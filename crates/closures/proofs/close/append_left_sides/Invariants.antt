-- `closures::close::append_left_sides` meets its contract. The loop's invariant: the entries that are left, appended to the room at hand, give the room of them all.
-- The measure is what is left of the records.
use Rattle.closures.proofs.Present.{PresentLeft}
use Rattle.closures.proofs.close.append_left_sides.Given as goal

abbrev pub invariant-loop-i : goal.invariant-loop-i
invariant-loop-i l = PresentLeft l.g l.end l.count l.initial.work l.work l.to l.i
