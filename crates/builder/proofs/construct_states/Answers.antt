-- `builder::construct_states` meets its contract.
use borrow.Author.Rules.{rules}
use Rattle.builder.proofs.Checking.{lane_mode, canonical_mode, constructs_as, constructs_canonical}
use Rattle.builder.proofs.construct_states.Goals as goal

pub returns-in-Lane : goal.returns-in-Lane
returns-in-Lane c = search (rules, constructs_as, lane_mode)

pub returns-in-Canonical : goal.returns-in-Canonical
returns-in-Canonical c = search (rules, constructs_canonical, canonical_mode)
