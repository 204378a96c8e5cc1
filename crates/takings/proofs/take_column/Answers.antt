-- `takings::take_column` meets its contract.
use Rattle.takings.proofs.Sweep.{take_one}
use Rattle.takings.proofs.take_column.Goals as goal

pub returns-in-Some : goal.returns-in-Some
returns-in-Some c = take_one _ _ _ _ _ c.item-i.ensures _ c.column_of.ensures _ c.in-Some.is _ _ c.entry_slot.ensures c.copy_set.ensures
