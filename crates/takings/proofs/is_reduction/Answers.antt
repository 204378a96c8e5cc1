-- `takings::is_reduction` meets its contract.
use Rattle.room.specs.Areas.{view}
use Rattle.takings.proofs.Places.{reduces_not}
use Rattle.takings.proofs.is_reduction.Goals as goal

pub returns-in-Shift : goal.returns-in-Shift
returns-in-Shift c = reduces_not (view c.args.work.now) _ _ _ c.read_action.ensures _ c.in-Shift.is
