-- A place below a bound.
use Prim.Native.Nat.{ℕ, ◌<◌, ◌≤◌}
use mathlib.Core.Path.{◌≡◌, refl}
use mathlib.Core.Bool.{Bool, true, false}
use native.Mathlib.Omega.{arith}
use lib.Dec.{ltb}
use borrow.Author.Tests.{ltb-true, ltb-false}
use Rattle.std.specs.Prelude.{Some, None, unwrap_or}
use Rattle.base.specs.Pick.{pick}
use Rattle.base.specs.Loops.{place_below}

pub none_below : (n i : ℕ) → place_below n i ≡ None → n ≤ i
none_below n i e = go (ltb i n) refl e
  where
    go : (b : Bool) → ltb i n ≡ b → pick b (Some i) None ≡ None → n ≤ i
    go true f g = absurd (grind (arith, g))
    go false f g = ltb-false i n f

pub some_below : (n i p : ℕ) → place_below n i ≡ Some p → (p < n) × (p ≡ i)
some_below n i p e = go (ltb i n) refl e
  where
    go : (b : Bool) → ltb i n ≡ b → pick b (Some i) None ≡ Some p → (p < n) × (p ≡ i)
    go true f g = let same : p ≡ i = grind (arith, g) in (omega (arith, ltb-true i n f), same)
    go false f g = absurd (grind (arith, g))

-- the place, or the bound if there is none
pub unwrap_below : (n i : ℕ) → i ≤ n → unwrap_or (place_below n i) n ≡ i
unwrap_below n i h = go (ltb i n) refl
  where
    go : (b : Bool) → ltb i n ≡ b → unwrap_or (pick b (Some i) None) n ≡ i
    go true f = refl
    go false f = omega (arith, ltb-false i n f)
