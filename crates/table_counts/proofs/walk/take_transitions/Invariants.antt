-- `table_counts::walk::take_transitions` meets its contract. The loop's invariant: what is left to hand on gives the room and the number. The measure is what is left of the symbols.
use Prim.Native.Nat.{◌≤◌}
use Rattle.table_counts.specs.Records.{in_turn, over_symbol}
use Rattle.table_counts.specs.Sides.{side_number}
use Rattle.table_counts.specs.Targets.{to_target}
use Rattle.table_counts.proofs.Walks.{Left}
use Rattle.table_counts.proofs.walk.take_transitions.Given as goal

abbrev pub invariant-loop-x : goal.invariant-loop-x
invariant-loop-x g l =
    (l.x ≤ l.symbols)
    × Left g.S.Sink.taken g.S.Sink.holds (in_turn (to_target l.state.0 (side_number l.side) l.targets) l.x l.symbols) l.to l.room (in_turn (over_symbol l.g l.work l.state.0 (side_number l.side)) 0 l.symbols) l.at l.initial.room
