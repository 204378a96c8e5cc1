-- What is left of the word gives the same number.
use Rattle.std.proofs.Common.{drop, ◌≡◌, Some}
use Rattle.base.specs.Lists.{fold_over}
use Rattle.input.specs.Numbers.{another, number_said}
use Rattle.input.proofs.numbers.said.Given as goal

abbrev pub invariant-loop-byte : goal.invariant-loop-byte
invariant-loop-byte l = fold_over another (drop l.byte-index l.word) (Some l.n) ≡ number_said l.word
