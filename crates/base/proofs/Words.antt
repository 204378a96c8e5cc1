-- Powers of two in a word of 64 bits.
use Prim.Native.Nat.{ℕ, ◌*◌, ◌%◌, ◌^◌, ◌<◌}
use mathlib.Core.Path.{◌≡◌}
use native.Mathlib.Omega.{arith}
use lib.Pow.{pow-lt}

pub one_shifted : (t : ℕ) → t < 64 → 1 * 2 ^ t % 2 ^ 64 ≡ 2 ^ t
one_shifted t h = let p : 2 ^ t < 2 ^ 64 = pow-lt h in omega arith
