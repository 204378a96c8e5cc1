-- `groups::can_join` meets its contract.
use Rattle.groups.proofs.Members.{columns_none, rowed_kept}
use Rattle.groups.proofs.Tested.{rowed, one_group, groups_tested}
use borrow.Author.Rules.{rules}
use Rattle.groups.proofs.can_join.Goals as goal

pub returns-then-one-other-clause-value : goal.returns-then-one-other-clause-value
returns-then-one-other-clause-value c = search (rules, one_group)

pub returns-then-one-other-clause-only_closure : goal.returns-then-one-other-clause-only_closure
returns-then-one-other-clause-only_closure c = search (rules, columns_none)

pub group_columns-requires : goal.group_columns-requires
group_columns-requires c = search (rules, rowed)

pub group_columns-requires-2 : goal.group_columns-requires-2
group_columns-requires-2 c = (rowed_kept _ _ _ _ _ c.group_columns.ensures.only (rowed _ _ _ c.requires.0), search rules, search rules, search rules)

pub returns : goal.returns
returns c = let tested = groups_tested _ _ _ _ _ _ _ c.requires.0 c.requires.2 c.requires.3 c.head-one.ensures c.head-other.ensures _ _
    c.closure_slot-at.ensures c.closure_slot-beside.ensures _ _ _ c.if-one-other.false
    c.group_columns.ensures c.group_columns-2.ensures c.join_columns.ensures _ c.columns_disjoint.ensures in
    record { value = tested.0; only_closure = tested.1 }
