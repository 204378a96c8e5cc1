use borrow.Author.Rules.{rules}
use Rattle.table_counts.proofs.Entries.{entry_readable}
use Rattle.table_counts.proofs.Targets.{gather_start, gather_turn, gather_end}
use Rattle.table_counts.proofs.transitions.gather.Goals as goal

pub loop-k-init : goal.loop-k-init
loop-k-init c = search (rules, gather_start)

pub gather_entry-requires : goal.gather_entry-requires
gather_entry-requires c = search (rules, entry_readable)

pub loop-k-preserved : goal.loop-k-preserved
loop-k-preserved c = search (rules, gather_turn)

pub returns : goal.returns
returns c = search (rules, gather_end)
