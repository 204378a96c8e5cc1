-- `closures::items::hand_on` meets its contract.
use borrow.Author.Rules.{rules}
use Rattle.closures.proofs.Handing.{handed_first1, handed_copy}
use Rattle.closures.proofs.Modes.{by_canonical, by_lane}
use Rattle.closures.proofs.items.hand_on.Goals as goal

pub returns-in-Canonical : goal.returns-in-Canonical
returns-in-Canonical c = search (rules, handed_first1, by_canonical)

pub returns-in-Lane : goal.returns-in-Lane
returns-in-Lane c = search (rules, handed_copy, by_lane)
