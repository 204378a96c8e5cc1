-- `lane_table::build::build_lane_table` meets its contract.
use borrow.Author.Rules.{rules}
use Rattle.lane_table.proofs.Builds.{build_ready, build_linked, built}
use Rattle.lane_table.proofs.build.build_lane_table.Goals as goal

pub trace_actions-requires : goal.trace_actions-requires
trace_actions-requires c = search (rules, build_ready, build_linked)

pub returns : goal.returns
returns c = search (rules, built)
