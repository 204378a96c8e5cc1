-- `state_graph::link_states` meets its contract. The loop's invariant: the states before p are linked. The measure is what is left of them.
use Prim.Native.Nat.{◌≤◌}
use mathlib.Core.Path.{◌≡◌}
use lib.ListN.{length}
use Rattle.rules.specs.Records.{records}
use Rattle.room.specs.Areas.{view}
use Rattle.states.specs.StatesIn.{Placed}
use Rattle.state_graph.specs.Links.{OnlyLinks, Linked}
use Rattle.state_graph.proofs.link_states.Given as goal

abbrev pub invariant-loop-p : goal.invariant-loop-p
invariant-loop-p l =
    (l.p ≤ l.count) × (length l.work ≡ length l.initial.work) × Placed (length (records l.g)) l.count (view l.work) × OnlyLinks (view l.initial.work) (view l.work) × Linked l.g l.p (view l.work)
