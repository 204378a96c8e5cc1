-- `conflicts::meeting` meets its contract.
use mathlib.Core.Path.{refl}
use borrow.Author.Rules.{rules}
use borrow.Author.Tests.{tests}
use Rattle.std.proofs.lemmas.Iterator.{YieldsList-from_range}
use Rattle.std.proofs.lemmas.Iterator.Consumers.{YieldsList-from_filter, YieldsList-at, count_from_yields_List}
use Rattle.rules.specs.Records.{records}
use Rattle.room.specs.Areas.{view}
use Rattle.conflicts.specs.Counts.{meets_in}
use Rattle.conflicts.proofs.Turns.{meeting_counted}
use Rattle.conflicts.proofs.meeting.Goals as goal

pub returns : goal.returns
returns c =
    meeting_counted (records c.args.g.now) (view c.args.work.now) c.args.k c.args.end _ c.requires.0.1.bounded
    (count_from_yields_List _ _ c.count.ensures.ran
    (YieldsList-from_filter _ (meets_in (records c.args.g.now) (view c.args.work.now) c.args.k) (YieldsList-at c.filter.ensures.source (YieldsList-from_range _ c.args.end _ refl refl)) c.filter.ensures.closure (λ x b q k. search (rules, tests))))
