-- `collection::expand::expand_next` meets its contract.
use native.Mathlib.Omega.{arith}
use borrow.Author.Rules.{rules}
use Rattle.std.proofs.lemmas.Result.{err_from_is_err_and}
use Rattle.collection.proofs.Expanding.{next_parented, was_some, was_none, expansion_refused, closed_parented, expansion_goes}
use Rattle.collection.proofs.expand.expand_next.Goals as goal

pub close_next-requires : goal.close_next-requires
close_next-requires c = search (rules, next_parented)

pub returns-in_err-ok_or : goal.returns-in_err-ok_or
returns-in_err-ok_or c = let p = err_from_is_err_and c.from_residual.result c.from_residual.ensures.1 in
    let none = was_none _ _ _ c.ok_or.ensures.value _ c.in_err-ok_or.was in rw (p.1, p.2, none.1) (search (rules, expansion_refused, none.0))

pub add_transitions-requires-clause-parented : goal.add_transitions-requires-clause-parented
add_transitions-requires-clause-parented c = let fit = was_some _ _ _ c.ok_or.ensures.value _ c.in_ok-ok_or.was in
    (search (rules, closed_parented, fit), omega (arith, c.requires.1.few), search rules, c.requires.0.counted.few_terminals, c.requires.0.counted.few_nonterminals)

pub add_transitions-requires-clause-n_value : goal.add_transitions-requires-clause-n_value
add_transitions-requires-clause-n_value c = (c.requires.0.counted.terminals, c.requires.0.counted.nonterminals)

pub returns : goal.returns
returns c = let fit = was_some _ _ _ c.ok_or.ensures.value _ c.in_ok-ok_or.was in search (rules, expansion_goes, fit)
