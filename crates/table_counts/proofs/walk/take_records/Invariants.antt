-- `table_counts::walk::take_records` meets its contract. The loop's invariant: what is left to hand on gives the room. The measure is what is left of the states.
use Prim.Native.Nat.{◌≤◌}
use Rattle.rules.specs.Limits.{max_nonterminals}
use Rattle.rules.specs.Records.{records}
use Rattle.rules.specs.Table.{table_of}
use Rattle.room.specs.Areas.{view}
use Rattle.room.specs.Bounds.{FewTerminals}
use Rattle.states.specs.StatesIn.{states_in}
use Rattle.table_counts.specs.Records.{in_turn, of_state}
use Rattle.table_counts.proofs.Walks.{Left}
use Rattle.table_counts.proofs.walk.take_records.Given as goal

abbrev pub invariant-loop-s : goal.invariant-loop-s
invariant-loop-s g l =
    (l.s ≤ l.count) × FewTerminals l.n × (l.m ≤ max_nonterminals)
    × Left g.S.Sink.taken g.S.Sink.holds (in_turn (of_state l.g l.work) l.s l.count) l.at l.room (table_of (records l.g) (states_in (view l.work) l.count)) 0 l.initial.room
