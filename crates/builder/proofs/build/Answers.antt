-- `builder::build` meets its contract.
use borrow.Author.Rules.{rules}
use Rattle.builder.proofs.Calling.{short_room, table_built}
use Rattle.builder.proofs.build.Goals as goal

pub returns-then-work-lt-WORK : goal.returns-then-work-lt-WORK
returns-then-work-lt-WORK c =
    search (rules, short_room c.args.mode c.args.g.now c.args.table.now c.args.work.now c.in_ok-mode.mode c.in_ok-mode.ensures)

pub returns : goal.returns
returns c = search (rules, table_built c.args.mode c.args.g.now c.args.table.now c.args.work.now c.in_ok-mode.mode c.in_ok-mode.ensures)
