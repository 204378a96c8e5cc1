-- `record::search::find` meets its contract.
use borrow.Author.Rules.{rules}
use Rattle.rules.specs.Table.{table_record, table_records}
use Rattle.rules.specs.Drive.{table_at, ascends}
use Rattle.record.proofs.Places.{earlier_in_front, asked_past, asked_there}
use Rattle.record.specs.Search.{first_reaching, reaches}
use Rattle.record.proofs.search.find.Goals as goal
use Rattle.record.proofs.search.find.Goals.{then-at-n, else-at-n}

pub returns-clause-place : goal.returns-clause-place
unfolding first_reaching reaches
returns-clause-place c =
    let rs = table_records c.args.t.now in
    let key = c.args.key in
    let w = table_record key.state key.kind key.symbol 0 in
    let ascending = c.requires.1 in
    let found = c.partition_point-at.ensures.point (λ i. ascends (table_at rs i) w) (λ i b h k. search rules) (earlier_in_front rs c.args.n w ascending) in
    elim c.if-at-n.branch [
      | then-at-n taken ↦ search (rules, asked_there, found, taken.then_some-is)
      | else-at-n taken ↦ search (rules, asked_past, found, taken.then_some-is)
    ]
