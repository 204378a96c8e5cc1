-- `productive::with` meets its contract.
use Rattle.rules.specs.Tokens.{join, single}
use Rattle.base.proofs.Words.{one_shifted}
use Rattle.productive.proofs.with.Goals as goal

pub returns : goal.returns
unfolding join single
returns c = rw (one_shifted c.args.a c.requires)
