-- `table_counts::walk::take_reductions` meets its contract. The loop's invariant: what is left to hand on gives the room and the number. The measure is what is left of the tokens.
use Prim.Native.Nat.{◌+◌, ◌≤◌}
use Rattle.table_counts.specs.Records.{in_turn, on_token}
use Rattle.table_counts.proofs.Walks.{Left}
use Rattle.table_counts.proofs.walk.take_reductions.Given as goal

abbrev pub invariant-loop-t : goal.invariant-loop-t
invariant-loop-t g l =
    (l.t ≤ l.tokens)
    × Left g.S.Sink.taken g.S.Sink.holds (in_turn (on_token l.g l.work l.state.0) l.t l.tokens) l.to l.room (in_turn (on_token l.g l.work l.state.0) 0 (l.n + 1)) l.at l.initial.room
