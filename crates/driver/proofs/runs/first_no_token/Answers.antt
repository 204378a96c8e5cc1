-- `driver::runs::first_no_token` meets its contract.
use borrow.Author.Rules.{rules}
use borrow.Author.Tests.{tests}
use Rattle.base.proofs.Chains.{first_over_range}
use Rattle.driver.specs.Results.{no_token}
use Rattle.driver.proofs.Tokens.{first_token}
use Rattle.driver.proofs.runs.first_no_token.Goals as goal

pub returns : goal.returns
returns c =
    let found = first_over_range (no_token c.terminal_count-n.result c.args.tokens.now) _ _ _ _ c.find.ensures.ran (search rules) (λ x q b k. search (rules, tests)) in
    search (rules, first_token, found)
