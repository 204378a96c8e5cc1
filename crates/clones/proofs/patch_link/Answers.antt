-- `clones::patch_link` meets its contract.
use Rattle.clones.proofs.Links.{link_ended, link_elsewhere, link_patched_lem}
use Rattle.clones.proofs.Links.{item_read}
use borrow.Author.Rules.{rules}
use Rattle.clones.proofs.patch_link.Goals as goal

pub at_end-requires : goal.at_end-requires
at_end-requires c = search (rules, item_read)

pub returns-then-at_end : goal.returns-then-at_end
returns-then-at_end c = search (rules, link_ended)

pub returns-then-next-successor : goal.returns-then-next-successor
returns-then-next-successor c = link_elsewhere _ _ _ _ _ _ c.item-i.ensures _ c.at_end.ensures _ c.next.ensures c.if-at_end.false c.if-next-successor.true

pub returns : goal.returns
returns c = search (rules, link_patched_lem)
