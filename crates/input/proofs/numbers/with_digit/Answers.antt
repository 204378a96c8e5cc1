-- `input::numbers::with_digit` meets its contract.
use Rattle.std.proofs.Common.{rules, ◌∙◌}
use Rattle.input.proofs.Digits.{product_too_large, digit_more}
use Rattle.input.proofs.numbers.with_digit.Goals as goal

pub returns-in_err-checked_mul : goal.returns-in_err-checked_mul
returns-in_err-checked_mul c = c.from_residual.ensures ∙ product_too_large c.args.n c.args.byte c.if-not-is_ascii_digit.ensures.cases c.in_err-checked_mul.ensures

pub returns : goal.returns
returns c =
    digit_more c.args.n c.args.byte c.if-not-is_ascii_digit.ensures.cases c.checked_add.result _ _ c.in_ok-checked_mul.ensures.1 (search rules) c.checked_add.ensures
