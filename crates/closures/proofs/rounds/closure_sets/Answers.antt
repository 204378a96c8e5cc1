-- `closures::rounds::closure_sets` meets its contract.
use borrow.Author.Rules.{rules}
use Rattle.closures.proofs.Frames.{closable_kept}
use Rattle.closures.proofs.Kernels.{cleared_run, few_nonterminals, closure_found}
use Rattle.closures.proofs.rounds.closure_sets.Goals as goal

pub close_kernel-requires : goal.close_kernel-requires
close_kernel-requires c = search (rules, closable_kept, cleared_run)

pub rounds-requires : goal.rounds-requires
rounds-requires c = (closable_kept _ _ _ _ c.requires.closable.0 (search rules), search (rules, few_nonterminals))

pub returns : goal.returns
returns c = closure_found _ _ _ _ _ _ _ _ c.requires.closable.0 c.requires.closable.1 _ _ _ _ c.requires.n_value.0 c.requires.n_value.1 c.clear_closures.ensures c.close_kernel.ensures c.rounds.ensures (search rules) c.hand_slot-hand.ensures c.clear_set.ensures
