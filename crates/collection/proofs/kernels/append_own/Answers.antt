-- `collection::kernels::append_own` meets its contract.
use borrow.Author.Rules.{rules}
use Rattle.collection.proofs.Next.{parent_below, parent_within, parent_run, run_before, next_place, own_appended}
use Rattle.collection.proofs.kernels.append_own.Goals as goal

pub first_entry-first-requires : goal.first_entry-first-requires
first_entry-first-requires c = search (rules, parent_within)

pub end_entry-last-requires : goal.end_entry-last-requires
end_entry-last-requires c = search (rules, parent_below)

pub append_kernel-requires-clause-long_enough : goal.append_kernel-requires-clause-long_enough
append_kernel-requires-clause-long_enough c = let run = parent_run _ _ _ c.requires.0 c.requires.1 _ _ c.get.ensures c.unpack-parent.ensures.state _ _ c.first_entry-first.ensures c.end_entry-last.ensures in
    (search rules, search rules, search (rules, run_before), search (rules, next_place))

pub append_kernel-requires-clause-placed_run : goal.append_kernel-requires-clause-placed_run
append_kernel-requires-clause-placed_run c = let run = parent_run _ _ _ c.requires.0 c.requires.1 _ _ c.get.ensures c.unpack-parent.ensures.state _ _ c.first_entry-first.ensures c.end_entry-last.ensures in
    run

pub returns : goal.returns
returns c = search (rules, own_appended)
