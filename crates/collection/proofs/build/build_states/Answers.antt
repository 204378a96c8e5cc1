-- `collection::build::build_states` meets its contract.
use borrow.Author.Rules.{rules}
use Rattle.collection.proofs.Collecting.{begun_asks, begun_place, begun_built}
use Rattle.collection.proofs.build.build_states.Goals as goal

pub expand_all-requires : goal.expand_all-requires
expand_all-requires c = (search (rules, begun_asks), search (rules, begun_place))

pub returns : goal.returns
returns c = search (rules, begun_built)
