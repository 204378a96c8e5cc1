-- `visits::resolve_all` meets its contract. The loop's invariant: what is left of the visits gives the outcome of all of them. The measure is what is left of the numbers that states can have.
use Prim.Native.Nat.{◌-◌}
use mathlib.Core.Path.{◌≡◌}
use lib.ListN.{length}
use Rattle.rules.specs.Limits.{max_states}
use Rattle.room.specs.Areas.{view}
use Rattle.room.specs.Bounds.{LongEnough}
use Rattle.visits.proofs.Visiting.{Going}
use Rattle.visits.proofs.resolve_all.Given as goal

abbrev pub invariant-loop-next : goal.invariant-loop-next
invariant-loop-next l =
    LongEnough l.work × (length l.work ≡ length l.initial.work) × Going l.g l.n l.states l.count l.next (view l.initial.work) (view l.work)

abbrev pub decreases-loop-next : goal.decreases-loop-next
decreases-loop-next l = max_states - l.next
