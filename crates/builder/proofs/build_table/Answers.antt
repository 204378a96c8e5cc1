-- `builder::build_table` meets its contract.
use borrow.Author.Rules.{rules}
use native.Mathlib.Omega.{arith}
use Rattle.grammar.proofs.Coded.{coded_faultless}
use Rattle.builder.proofs.Building.{none_written, states_placed, states_written, rest_kept}
use Rattle.builder.proofs.Calling.{known_coded, no_grammar, coded_given, numbers_counted, collectable}
use Rattle.builder.proofs.build_table.Goals as goal

pub first_sets-requires : goal.first_sets-requires
first_sets-requires c = search (rules, known_coded, coded_faultless, numbers_counted)

pub construct_states-requires : goal.construct_states-requires
construct_states-requires c =
    let coded = known_coded c.args.g.now c.check_grammar.result c.check_grammar.ensures c.in_ok-check_grammar.was in
    search (rules, coded, collectable)

pub write_states-requires-clause-faultless : goal.write_states-requires-clause-faultless
write_states-requires-clause-faultless c = (search (rules, known_coded, coded_faultless), search rules, search rules)

pub write_states-requires-clause-long_enough : goal.write_states-requires-clause-long_enough
write_states-requires-clause-long_enough c = (omega (arith, c.construct_states.auto, c.first_sets.auto, c.requires), states_placed _ _ _ _ _ c.construct_states.ensures _ c.in-Ok.is)

pub returns-in_err-check_grammar-clause-gives : goal.returns-in_err-check_grammar-clause-gives
returns-in_err-check_grammar-clause-gives c = search (rules, no_grammar)

pub returns-in-Err-clause-gives : goal.returns-in-Err-clause-gives
returns-in-Err-clause-gives c =
    coded_given c.args.mode c.args.g.now c.args.table.now c.check_grammar.result c.check_grammar.ensures c.in_ok-check_grammar.was _ _
    (none_written _ _ _ _ _ c.construct_states.ensures c.args.table.now _ c.in-Err.is)

pub returns-in-Err-clause-work_unchanged : goal.returns-in-Err-clause-work_unchanged
returns-in-Err-clause-work_unchanged c = search (rules, none_written, rest_kept)

pub returns-in-Ok-clause-gives : goal.returns-in-Ok-clause-gives
returns-in-Ok-clause-gives c =
    coded_given c.args.mode c.args.g.now c.args.table.now c.check_grammar.result c.check_grammar.ensures c.in_ok-check_grammar.was _ _
    (states_written _ _ _ _ _ c.construct_states.ensures c.args.table.now _ c.in-Ok.is _ _ c.write_states.ensures)

pub returns-in-Ok-clause-work_unchanged : goal.returns-in-Ok-clause-work_unchanged
returns-in-Ok-clause-work_unchanged c = search (rules, states_written, rest_kept)
