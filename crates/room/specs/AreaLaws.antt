-- What each area of the room owes to be one: it lies within the room, the view has its numbers, and a store into it changes in the view that
-- number alone.
use Rattle.std.specs.Prelude.{ℕ, ◌+◌, ◌<◌, ◌≤◌, ◌≡◌, List, set}
use Rattle.rules.specs.Limits.{work_size}
use Rattle.base.specs.Part.{part}
use Rattle.room.specs.Areas.{Room, view}

pub record IsArea (start size : ℕ) (numbers : Room → List ℕ) (put : ℕ → ℕ → Room → Room) : Type 0 where
  pub within_room : start + size ≤ work_size
  pub viewed : (w : List ℕ) → numbers (view w) ≡ part start size w
  pub stored : (w : List ℕ) (i v : ℕ) → i < size → view (set w (start + i) v) ≡ put i v (view w)
