use borrow.Author.Rules.{rules}
use Rattle.std.proofs.lemmas.Result.{err_from_is_err_and}
use Rattle.lr.proofs.Turning.{over_begins, nonterminals_end, nonterminal_turns, nonterminal_stops, terminals_end, terminal_turns, terminal_stops}
use Rattle.lr.proofs.transitions.add_transitions.Goals as goal

pub loop-a-init : goal.loop-a-init
loop-a-init c = search (rules, over_begins)

pub loop-a-preserved : goal.loop-a-preserved
loop-a-preserved c = search (rules, nonterminal_turns, c.in_ok-states.was)

pub returns-in_err-states : goal.returns-in_err-states
returns-in_err-states c = let p = err_from_is_err_and c.from_residual.result c.from_residual.ensures.1 in rw (p.1, p.2) (search (rules, nonterminal_stops, c.in_err-states.was))

pub loop-t-init : goal.loop-t-init
loop-t-init c = search (rules, nonterminals_end)

pub loop-t-preserved : goal.loop-t-preserved
loop-t-preserved c = search (rules, terminal_turns, c.in_ok-states-2.was)

pub returns-in_err-states-2 : goal.returns-in_err-states-2
returns-in_err-states-2 c = let p = err_from_is_err_and c.from_residual-in_err-states-2.result c.from_residual-in_err-states-2.ensures.1 in rw (p.1, p.2) (search (rules, terminal_stops, c.in_err-states-2.was))

pub returns : goal.returns
returns c = search (rules, terminals_end)
