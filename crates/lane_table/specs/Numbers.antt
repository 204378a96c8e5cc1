-- The number that the room keeps of an action.
use Rattle.std.specs.Prelude.{ℕ, ◌+◌, ◌*◌}
use Rattle.lane_table.specs.declared.area.Action.{Action}
use Rattle.lane_table.specs.declared.area.Action.TheVariants.{Shift, Reduce}

-- twice the terminal of a shift, one more than twice the item of a reduction; `action_of` is the way back
abbrev pub number_of : Action → ℕ
number_of (Shift t) = 2 * t
number_of (Reduce i) = 2 * i + 1
