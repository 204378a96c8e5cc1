-- Two cells of the lane table have two slots.
use mathlib.Core.Path.{◌≡◌}
use native.Mathlib.Omega.{arith}
use Rattle.rules.specs.declared.StateIndex.{StateIndex}
use Rattle.rules.specs.declared.ConflictIndex.{ConflictIndex}
use Rattle.room.specs.Bounds.{IsColumn}
use Rattle.room.specs.Slots.{row_slot}

pub rows_apart : (s t : StateIndex) (c d : ConflictIndex) → IsColumn c → IsColumn d → row_slot s c ≡ row_slot t d → (s.0 ≡ t.0) × (c.0 ≡ d.0)
rows_apart s t c d h g e = (omega arith, omega arith)
