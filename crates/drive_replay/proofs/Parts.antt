-- The length of a part at the front of a room.
use Prim.Native.Nat.{ℕ, ◌≤◌}
use mathlib.Core.Path.{◌≡◌, sym}
use mathlib.Core.List.{List}
use native.Mathlib.Omega.{arith}
use lib.ListN.{length, take}
use lib.Seq.{length-take-le}

pub part_length : (n room : ℕ) (xs : List ℕ) → n ≤ room → room ≡ length xs → n ≡ length (take n xs)
part_length n room xs h e = sym (length-take-le n xs (omega arith))
