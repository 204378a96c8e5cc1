-- `closures::close::close` meets its contract.
use borrow.Author.Rules.{rules}
use Rattle.closures.proofs.Alone.{closed_alone}
use Rattle.closures.proofs.Frames.{closable_kept}
use Rattle.closures.proofs.Written.{closed}
use Rattle.closures.proofs.close.close.Goals as goal

pub returns-then-not-some_closes : goal.returns-then-not-some_closes
returns-then-not-some_closes c = search (rules, closed_alone)

pub append_left_sides-requires : goal.append_left_sides-requires
append_left_sides-requires c = search (rules, closable_kept)

pub returns : goal.returns
returns c = search (rules, closed)
