-- `state_graph::link_state` meets its contract. The loop's invariant: the entries before place k are seen in the links. The measure is what is left of them.
use Prim.Native.Nat.{◌≤◌}
use mathlib.Core.Path.{◌≡◌}
use lib.ListN.{length}
use Rattle.room.specs.Areas.{view}
use Rattle.state_graph.proofs.Linking.{Linking}
use Rattle.state_graph.proofs.link_state.Given as goal

abbrev pub invariant-loop-k : goal.invariant-loop-k
invariant-loop-k l = (l.first ≤ l.k) × (length l.work ≡ length l.initial.work) × Linking l.g l.p.0 l.first l.k (view l.initial.work) (view l.work)
