-- What two bytes hold: the numbers of a table record, and those of every record of a table within limits such as document 01's.
use Rattle.std.specs.Prelude.{◌<◌, ◌≤◌}
use Rattle.rules.specs.Limits.{Limits}
use Rattle.rules.specs.Table.{TableRecord}

pub record RecordFits (r : TableRecord) : Type 0 where
  pub state : r.state < 65536
  pub symbol : r.symbol < 65536
  pub target : r.target < 65536

pub record LimitsFit (l : Limits) : Type 0 where
  pub states : l.states ≤ 65536
  pub terminals : l.terminals < 65536
  pub nonterminals : l.nonterminals ≤ 65536
  pub productions : l.productions ≤ 65536
