use Rattle.clones.proofs.Links.{patched_none, patched_fits, patched_more, patched_all}
use borrow.Author.Rules.{rules}
use Rattle.clones.proofs.patch_links.Goals as goal

pub loop-k-init : goal.loop-k-init
loop-k-init c = (search rules, search rules, search rules, search (rules, patched_none))

pub patch_link-requires : goal.patch_link-requires
patch_link-requires c = search (rules, patched_fits)

pub loop-k-preserved : goal.loop-k-preserved
loop-k-preserved c = (
  search rules,
  search rules,
  search rules,
  patched_more _ _ _ _ _ _ _ _ _ _ c.loop-k.invariant.3 c.requires.0 c.loop-k.invariant.2 c.loop-k.invariant.0 c.loop-k-test.true
      (rw c.end_entry-end.ensures c.requires.2.bounded) c.requires.3 c.patch_link.ensures,
)

pub returns : goal.returns
returns c = search (rules, patched_all)
