-- `lr::kernels::has_kernel` meets its contract.
use mathlib.Core.Path.{ap₂, ◌∙◌}
use borrow.Author.Rules.{rules}
use Rattle.lr.specs.Kernels.{symbol_by}
use Rattle.lr.proofs.Symbols.{same_named, other_named}
use Rattle.lr.proofs.Parents.{symbol_differs, parent_below, parent_within, own_run, other_run, kernels_compared}
use Rattle.lr.proofs.kernels.has_kernel.Goals as goal

pub first_entry-other-requires : goal.first_entry-other-requires
first_entry-other-requires c = search (rules, parent_within)

pub end_entry-last-requires : goal.end_entry-last-requires
end_entry-last-requires c = search (rules, parent_below)

pub same_kernel-requires : goal.same_kernel-requires
same_kernel-requires c = (search rules, search (rules, own_run), other_run _ _ _ _ _ _ c.requires c.get.ensures _ c.unpack-parent.ensures.state _ _ c.first_entry-other.ensures c.end_entry-last.ensures)

pub returns-then-ne : goal.returns-then-ne
returns-then-ne c = symbol_differs _ _ _ _ _ _ c.requires c.get.ensures _ (c.symbol_by.ensures ∙ ap₂ symbol_by c.unpack-parent.ensures.kind c.unpack-parent.ensures.symbol) (other_named _ _ _ c.ne.ensures c.if-ne.true)

pub returns : goal.returns
returns c = kernels_compared _ _ _ _ _ _ c.requires c.get.ensures _ c.unpack-parent.ensures.state _ _ _ _ c.first_entry-first.ensures c.end_entry-end.ensures c.first_entry-other.ensures c.end_entry-last.ensures
    _ _ (c.symbol_by.ensures ∙ ap₂ symbol_by c.unpack-parent.ensures.kind c.unpack-parent.ensures.symbol) (same_named _ _ _ c.ne.ensures c.if-ne.false) c.same_kernel.ensures
