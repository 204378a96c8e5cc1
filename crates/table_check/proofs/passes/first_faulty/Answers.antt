use borrow.Author.Rules.{rules}
use Rattle.table_check.proofs.Passing.{pass_starts, pass_turn, pass_ends, pass_stops, fault_shown}
use Rattle.table_check.proofs.passes.first_faulty.Goals as goal

pub loop-i-init : goal.loop-i-init
loop-i-init c = search (rules, pass_starts)

pub lowest_up_to-requires : goal.lowest_up_to-requires
lowest_up_to-requires c = search (rules, fault_shown)

pub returns-then-faulty_so_far : goal.returns-then-faulty_so_far
returns-then-faulty_so_far c = search (rules, pass_stops)

pub loop-i-preserved : goal.loop-i-preserved
loop-i-preserved c = search (rules, pass_turn)

pub returns : goal.returns
returns c = search (rules, pass_ends)
