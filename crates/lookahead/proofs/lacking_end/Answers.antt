-- `lookahead::lacking_end` meets its contract.
use borrow.Author.Rules.{rules}
use Rattle.lookahead.proofs.Lacking.{none_lacking, some_lacking}
use Rattle.lookahead.proofs.lacking_end.Goals as goal

pub returns-then-word_within : goal.returns-then-word_within
returns-then-word_within c = (search rules, search (rules, none_lacking))

pub returns : goal.returns
returns c = (search rules, search (rules, some_lacking))
