-- Clearing the room.
use Prim.Native.Nat.{ℕ}
use mathlib.Core.Path.{◌≡◌, refl, sym, ap, ◌∙◌}
use mathlib.Core.List.{List, ◌++◌}
use lib.ListN.{drop, replicate}
use lib.Seq.{drop-drop}
use Rattle.base.specs.Fill.{zeros}
use Rattle.rules.specs.Limits.{limits, work_size}
use Rattle.rules.specs.Rooms.{cleared}
use Rattle.room.specs.Areas.{view}

zeros_are : (n : ℕ) → replicate n 0 ≡ zeros n
unfolding zeros
zeros_are n = refl

-- the front became n zeros, as many as the builder takes
pub front_cleared : (n : ℕ) (front d : List ℕ) → front ≡ replicate n 0 → n ≡ work_size → front ++ drop work_size d ≡ cleared limits d
unfolding cleared limits
front_cleared n front d e q = ap (λ (l : List ℕ). l ++ drop work_size d) (e ∙ zeros_are n) ∙ ap (λ (n : ℕ). zeros n ++ drop work_size d) q

-- who changes only the areas leaves the same room when it is cleared
pub cleared_same : (w v : List ℕ) → (view w).rest ≡ (view v).rest → cleared limits w ≡ cleared limits v
unfolding cleared limits view
cleared_same w v e = ap (λ (l : List ℕ). zeros 8192 ++ l) (sym (drop-drop 108 8084 w) ∙ ap (drop 108) e ∙ drop-drop 108 8084 v)
