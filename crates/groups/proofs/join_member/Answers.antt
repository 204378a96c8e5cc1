-- `groups::join_member` meets its contract.
use Rattle.groups.proofs.Members.{member_none, member_joined}
use borrow.Author.Rules.{rules}
use Rattle.groups.proofs.join_member.Goals as goal

pub returns-then-head-group : goal.returns-then-head-group
returns-then-head-group c = search (rules, member_none)

pub returns : goal.returns
returns c = search (rules, member_joined)
