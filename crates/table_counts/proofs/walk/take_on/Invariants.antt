-- `table_counts::walk::take_on` meets its contract. The loop's invariant: what is left to hand on gives the room and the number. The measure is what is left of the entries.
use Prim.Native.Nat.{◌≤◌}
use Rattle.table_counts.specs.Records.{in_turn, on_entry, on_token}
use Rattle.table_counts.proofs.Walks.{Left}
use Rattle.table_counts.proofs.walk.take_on.Given as goal

abbrev pub invariant-loop-k : goal.invariant-loop-k
invariant-loop-k g l =
    (l.first ≤ l.k) × (l.k ≤ l.end)
    × Left g.S.Sink.taken g.S.Sink.holds (in_turn (on_entry l.g l.work l.state.0 l.t) l.k l.end) l.to l.room (on_token l.g l.work l.state.0 l.t) l.at l.initial.room
