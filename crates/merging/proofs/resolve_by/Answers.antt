-- `merging::resolve_by` meets its contract.
use Rattle.merging.proofs.Visiting.{joined_encloses, joined_asked, resolved_at_once, resolved_by_rows}
use borrow.Author.Rules.{rules}
use Rattle.merging.proofs.resolve_by.Goals as goal

pub take_columns-requires : goal.take_columns-requires
take_columns-requires c = search (rules, joined_encloses)

pub returns-then-columns_disjoint : goal.returns-then-columns_disjoint
returns-then-columns_disjoint c = search (rules, resolved_at_once)

pub merge_rows-requires : goal.merge_rows-requires
merge_rows-requires c = search (rules, joined_asked)

pub returns : goal.returns
returns c = search (rules, resolved_by_rows)
