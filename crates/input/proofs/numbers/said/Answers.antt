-- `input::numbers::said` meets its contract: what is left of the word gives the same number.
use Rattle.std.proofs.Common.{rules, refl, ◌∙◌}
use Rattle.input.proofs.Digits.{no_digits, digits_start, digits_turn, digits_fail, digits_end}
use Rattle.input.proofs.numbers.said.Goals as goal

pub returns-then-is_empty : goal.returns-then-is_empty
returns-then-is_empty c = search (rules, no_digits)

pub loop-byte-init : goal.loop-byte-init
loop-byte-init c = search (rules, digits_start)

pub returns-in_err-n : goal.returns-in_err-n
returns-in_err-n c = c.from_residual.ensures ∙ digits_fail c.args.word.now c.loop-byte.byte-index c.loop-byte.n _ _ c.loop-byte-test.true c.loop-byte.invariant c.in_err-n.ensures refl

pub loop-byte-preserved : goal.loop-byte-preserved
loop-byte-preserved c = digits_turn c.args.word.now c.loop-byte.byte-index c.loop-byte.n _ _ c.loop-byte-test.true c.loop-byte.invariant c.in_ok-n.ensures c.in_ok-n.n refl

pub returns : goal.returns
returns c = digits_end c.args.word.now c.loop-byte.byte-index c.loop-byte.n _ c.loop-byte-test.false c.loop-byte.invariant
