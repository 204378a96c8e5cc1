-- `grammar_check::check_grammar` meets its contract.
use native.Mathlib.Omega.{arith}
use borrow.Author.Rules.{rules}
use Rattle.base.proofs.Below.{placed, unplaced}
use Rattle.rules.proofs.Laws.{length_records}
use Rattle.grammar_check.proofs.Answers.{length_refused, record_refused, no_faults, from_six_lem}
use Rattle.grammar_check.proofs.check_grammar.Goals as goal

pub returns-then-bad_length : goal.returns-then-bad_length
returns-then-bad_length c = search (rules, length_refused)

pub fault_at-requires : goal.fault_at-requires
fault_at-requires c =
    let p = placed _ _ _ c.first_fault.ensures _ c.in-Some.is in
    omega (arith, length_records c.args.g.now, p.1)

pub returns-in-Some : goal.returns-in-Some
returns-in-Some c =
    let p = placed _ _ _ c.first_fault.ensures _ c.in-Some.is in
    search (rules, record_refused, p.0, p.1)

pub check_symbols-requires : goal.check_symbols-requires
check_symbols-requires c =
    let none = unplaced _ _ _ c.first_fault.ensures c.in_default.not-Some in
    search (rules, no_faults, none)

pub returns : goal.returns
returns c =
    let none = unplaced _ _ _ c.first_fault.ensures c.in_default.not-Some in
    search (rules, from_six_lem, none)
