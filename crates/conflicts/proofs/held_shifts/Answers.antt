-- `conflicts::held_shifts` meets its contract.
use mathlib.Core.Path.{refl}
use native.Mathlib.Omega.{arith}
use borrow.Author.Rules.{rules}
use borrow.Author.Tests.{tests}
use Rattle.std.proofs.lemmas.Iterator.{YieldsList-from_range}
use Rattle.std.proofs.lemmas.Iterator.Consumers.{YieldsList-from_filter, YieldsList-at, count_from_yields_List}
use Rattle.rules.specs.Records.{records}
use Rattle.room.specs.Areas.{view}
use Rattle.conflicts.specs.Counts.{is_held_in}
use Rattle.conflicts.proofs.Turns.{held_counted}
use Rattle.conflicts.proofs.held_shifts.Goals as goal

pub returns : goal.returns
returns c =
    held_counted (records c.args.g.now) (view c.args.work.now) c.args.n c.args.first c.args.end c.args.k _ c.requires.3
    (count_from_yields_List _ _ c.count.ensures.ran
    (YieldsList-from_filter _ (is_held_in (records c.args.g.now) (view c.args.work.now) c.args.first c.args.end c.args.k) (YieldsList-at c.filter.ensures.source (YieldsList-from_range 0 c.args.n c.args.n refl (omega arith))) c.filter.ensures.closure (λ x b q k. search (rules, tests))))
