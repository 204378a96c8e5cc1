-- `state_graph::clear_graph` meets its contract. The loop's invariant: nothing but links has changed. The measure is what is left of the states.
use Prim.Native.Nat.{◌≤◌}
use mathlib.Core.Path.{◌≡◌}
use lib.ListN.{length}
use Rattle.room.specs.Areas.{view}
use Rattle.state_graph.specs.Links.{OnlyLinks}
use Rattle.state_graph.proofs.clear_graph.Given as goal

abbrev pub invariant-loop-s : goal.invariant-loop-s
invariant-loop-s l = (l.s ≤ l.count) × (length l.work ≡ length l.initial.work) × OnlyLinks (view l.initial.work) (view l.work)
