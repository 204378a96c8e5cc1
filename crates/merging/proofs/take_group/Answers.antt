-- `merging::take_group` meets its contract.
use Rattle.merging.proofs.Takers.{gathered_encloses, group_takes}
use Rattle.groups.proofs.Tested.{rowed}
use borrow.Author.Rules.{rules}
use Rattle.merging.proofs.take_group.Goals as goal

pub group_columns-requires : goal.group_columns-requires
group_columns-requires c = search (rules, rowed)

pub take_columns-requires : goal.take_columns-requires
take_columns-requires c = search (rules, gathered_encloses)

pub returns : goal.returns
returns c = search (rules, group_takes)
