-- `grammar_check::check_symbols` meets its contract.
use native.Mathlib.Omega.{arith}
use borrow.Author.Rules.{rules}
use Rattle.base.proofs.Below.{placed, unplaced}
use Rattle.rules.proofs.Laws.{length_records}
use Rattle.grammar_check.proofs.Answers.{start_again, no_production, no_string, coded}
use Rattle.grammar_check.proofs.check_symbols.Goals as goal

pub production-production-requires : goal.production-production-requires
production-production-requires c =
    let p = placed _ _ _ c.first_start.ensures _ c.in-Some.is in
    omega (arith, length_records c.args.g.now, p.1)

pub returns-in-Some : goal.returns-in-Some
returns-in-Some c =
    let p = placed _ _ _ c.first_start.ensures _ c.in-Some.is in
    search (rules, start_again, p.0, p.1)

pub returns-in-Some-first_without : goal.returns-in-Some-first_without
returns-in-Some-first_without c =
    let p = placed _ _ _ c.first_without.ensures _ c.in-Some-first_without.is in
    let none = unplaced _ _ _ c.first_start.ensures c.in_default.not-Some in
    search (rules, no_production, p.0, p.1, none)

pub returns-in-Some-first_barren : goal.returns-in-Some-first_barren
returns-in-Some-first_barren c =
    let p = placed _ _ _ c.first_barren.ensures _ c.in-Some-first_barren.is in
    let none = unplaced _ _ _ c.first_start.ensures c.in_default.not-Some in
    let all = unplaced _ _ _ c.first_without.ensures c.in_default-first_without.not-Some in
    search (rules, no_string, p.0, p.1, none, all)

pub returns : goal.returns
returns c =
    let none = unplaced _ _ _ c.first_start.ensures c.in_default.not-Some in
    let all = unplaced _ _ _ c.first_without.ensures c.in_default-first_without.not-Some in
    let each = unplaced _ _ _ c.first_barren.ensures c.in_default-first_barren.not-Some in
    search (rules, coded, none, all, each)
