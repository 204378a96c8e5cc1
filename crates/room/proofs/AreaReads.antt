-- What an area holds at a place.
use Prim.Native.Nat.{ℕ, ◌+◌, ◌<◌}
use mathlib.Core.Path.{◌≡◌, sym, ap, ◌∙◌}
use mathlib.Core.List.{List}
use lib.ListN.{get_or}
use Rattle.base.proofs.Parts.{part_at}
use Rattle.room.specs.Areas.{Room, view}
use Rattle.room.specs.AreaLaws.{IsArea}

pub area_read : (start size : ℕ) (numbers : Room → List ℕ) (put : ℕ → ℕ → Room → Room) → IsArea start size numbers put → (w : List ℕ) (i : ℕ) → i < size → get_or w (start + i) 0 ≡ get_or (numbers (view w)) i 0
area_read start size numbers put area w i h = sym (part_at start size w i h) ∙ ap (λ l. get_or l i 0) (sym (area.viewed w))
