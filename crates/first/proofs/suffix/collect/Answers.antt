use borrow.Author.Rules.{rules}
use Rattle.first.proofs.Collects.{slot_fits, collect_start, collect_ends, collect_stop, collect_on, collect_over}
use mathlib.Core.Path.{ap}
use mathlib.Core.Bool.{not}
use Rattle.first.proofs.suffix.collect.Goals as goal

pub loop-k-init : goal.loop-k-init
loop-k-init c = search (rules, collect_start)

pub returns-then-at_start : goal.returns-then-at_start
returns-then-at_start c = search (rules, collect_ends)

pub returns-then-not-join_symbol : goal.returns-then-not-join_symbol
returns-then-not-join_symbol c = search (rules, collect_stop)

pub loop-k-preserved : goal.loop-k-preserved
loop-k-preserved c = let fits = slot_fits _ _ _ c.requires.long_enough.0 c.loop-k.invariant.1 c.requires.long_enough.2 in
    (search rules, search rules, collect_on _ _ _ _ _ _ _ c.loop-k.invariant.2 _ c.record_count-count.ensures.0 _ c.at_start.ensures c.loop-k-test.true c.requires.in_range.1 c.requires.long_enough.1 c.if-at_start.false _ _ c.join_symbol.ensures.value c.join_symbol.ensures.work_after fits (ap not c.if-not-join_symbol.false))

pub returns : goal.returns
returns c = search (rules, collect_over)
