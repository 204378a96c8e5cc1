-- `first::rounds::add_first` meets its contract.
use borrow.Author.Rules.{rules}
use Rattle.grammar.proofs.Coded.{symbol_read}
use Rattle.first.proofs.Collects.{first_slot_low}
use Rattle.first.proofs.Frames.{first_added_lem, only_added, first_new}
use Rattle.first.proofs.rounds.add_first.Goals as goal

pub first_slot-own-requires : goal.first_slot-own-requires
first_slot-own-requires c = search (rules, symbol_read)

pub join_into-requires : goal.join_into-requires
join_into-requires c = search (rules, first_slot_low)

pub returns-clause-work_after : goal.returns-clause-work_after
returns-clause-work_after c = search (rules, first_added_lem)

pub returns-clause-only_firsts : goal.returns-clause-only_firsts
returns-clause-only_firsts c = search (rules, only_added)

pub returns-clause-value : goal.returns-clause-value
returns-clause-value c = search (rules, first_new)
