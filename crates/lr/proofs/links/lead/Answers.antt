use borrow.Author.Rules.{rules}
use Rattle.lr.proofs.Leading.{lead_begins, lead_place, lead_item, lead_turns, lead_ends}
use Rattle.lr.proofs.links.lead.Goals as goal

pub loop-k-init : goal.loop-k-init
loop-k-init c = search (rules, lead_begins)

pub lead_at-requires : goal.lead_at-requires
lead_at-requires c = (search rules, search (rules, lead_place), search rules, search (rules, lead_item))

pub loop-k-preserved : goal.loop-k-preserved
loop-k-preserved c = search (rules, lead_turns)

pub returns : goal.returns
returns c = search (rules, lead_ends)
