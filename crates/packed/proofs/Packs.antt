-- What was packed is taken apart again, and what was taken apart is packed again.
use Prim.Native.Nat.{ℕ}
use mathlib.Core.Path.{◌≡◌}
use native.Mathlib.Omega.{arith}
use Rattle.packed.specs.Packed.{IsPart, packed, low, middle, high}

module _ (a b c : ℕ) (l : IsPart a) (m : IsPart b) where
  pub low_packed : low (packed a b c) ≡ a
  unfolding packed low
  low_packed = omega arith

  pub middle_packed : middle (packed a b c) ≡ b
  unfolding packed middle
  middle_packed = omega arith

  pub high_packed : high (packed a b c) ≡ c
  unfolding packed high
  high_packed = omega arith

module _ (v : ℕ) where
  pub low_lt : IsPart (low v)
  unfolding low
  low_lt = omega arith

  pub middle_lt : IsPart (middle v)
  unfolding middle
  middle_lt = omega arith

  pub packed_parts : packed (low v) (middle v) (high v) ≡ v
  unfolding packed low middle high
  packed_parts = omega arith
