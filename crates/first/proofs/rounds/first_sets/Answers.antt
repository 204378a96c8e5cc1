-- `first::rounds::first_sets` meets its contract.
use borrow.Author.Rules.{rules}
use Rattle.first.proofs.Clears.{none_yet}
use Rattle.first.proofs.Frames.{firsts_found}
use Rattle.first.proofs.rounds.first_sets.Goals as goal

pub rounds-requires-clause-faultless : goal.rounds-requires-clause-faultless
rounds-requires-clause-faultless c = search (rules, none_yet)

pub rounds-requires-clause-long_enough : goal.rounds-requires-clause-long_enough
rounds-requires-clause-long_enough c = search (rules, none_yet)

pub returns : goal.returns
returns c = search (rules, firsts_found)
