-- `grammar_numbers::productions::left_side_of` meets its contract.
use borrow.Author.Rules.{rules}
use native.Mathlib.Omega.{arith}
use Rattle.rules.specs.Records.{records}
use Rattle.grammar_numbers.proofs.Halving.{comes_before, before_is, before_in_front, left_side_halved}
use Rattle.grammar_numbers.proofs.productions.left_side_of.Goals as goal

pub returns : goal.returns
returns c =
    let bytes = c.args.g.now in
    let p = c.args.p in
    let size = c.record_count-n.ensures.0 in
    let found = c.partition_point.ensures.point (comes_before (records bytes) p)
    (λ i b h k. search (rules, before_is))
    (before_in_front bytes c.requires p _ size) in
    (left_side_halved bytes c.requires p _ size _ c.partition_point.ensures.within found, omega arith)
