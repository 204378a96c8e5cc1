-- The answer of putting a state's actions is one: two that meet the promise are equal.
use Prim.Native.Nat.{ℕ}
use mathlib.Core.Path.{◌≡◌, refl, sym, ap, ◌∙◌}
use mathlib.Core.List.{List}
use native.Mathlib.Omega.{arith}
use Rattle.std.specs.Prelude.{Option, Some, None}
use Rattle.room.specs.Areas.{Room}
use Rattle.actions.specs.Puts.{ActionsPut}

pub acting_one : (bytes : List ℕ) (s : ℕ) (v q z : Room) (a b : Option ℕ) → ActionsPut bytes s v a q → ActionsPut bytes s v b z → a ≡ b
acting_one bytes s v q z (Some c) (Some d) first second = ap Some (first.put.count ∙ sym second.put.count)
acting_one bytes s v q z (Some c) None first second = absurd (omega (arith, first.put.few, first.put.count, second.put))
acting_one bytes s v q z None (Some d) first second = absurd (omega (arith, second.put.few, second.put.count, first.put))
acting_one bytes s v q z None None first second = refl
