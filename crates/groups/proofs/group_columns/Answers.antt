use Rattle.groups.proofs.Members.{rowed_kept, rowed_at, columns_none, gather_only, gather_turn, gather_ends}
use mathlib.Core.Path.{refl}
use borrow.Author.Rules.{rules}
use Rattle.groups.proofs.group_columns.Goals as goal

pub loop-s-init : goal.loop-s-init
loop-s-init c = (search rules, search rules, search (rules, rowed_kept), search (rules, columns_none), refl)

pub join_member-requires-clause-long_enough : goal.join_member-requires-clause-long_enough
join_member-requires-clause-long_enough c = search (rules, rowed_at)

pub join_member-requires-clause-state_bound : goal.join_member-requires-clause-state_bound
join_member-requires-clause-state_bound c = search (rules, rowed_at)

pub loop-s-preserved : goal.loop-s-preserved
loop-s-preserved c = (search rules, search rules, search (rules, rowed_kept), search (rules, gather_only), search (rules, gather_turn))

pub returns : goal.returns
returns c = search (rules, gather_ends)
