-- What some words say, computed.
use mathlib.Core.Path.{◌≡◌, refl}
use mathlib.Core.List.{List, [], ◌∷◌}
use Prim.Native.Char.{code}
use Prim.Native.Nat.{ℕ}
use Prim.Native.String.{String, [] as ε, ◌∷◌ as ◌⊳◌}
use Rattle.std.specs.Prelude.{Option, Some, None}
use Rattle.input.specs.Numbers.{number_said, largest}

-- a word as bytes, its characters being ASCII
bytes : String → List ℕ
bytes ε = []
bytes (c ⊳ s) = code c ∷ bytes s

says_zero : number_said (bytes "0") ≡ Some 0
unfolding number_said bytes
says_zero = refl

says_a_number : number_said (bytes "0128") ≡ Some 128
unfolding number_said bytes
says_a_number = refl

says_the_largest : number_said (bytes "18446744073709551615") ≡ Some largest
unfolding number_said bytes
says_the_largest = refl

one_too_large : number_said (bytes "18446744073709551616") ≡ None
unfolding number_said bytes
one_too_large = refl

empty_says_none : number_said (bytes "") ≡ None
unfolding number_said bytes
empty_says_none = refl

sign_says_none : number_said (bytes "-1") ≡ None
unfolding number_said bytes
sign_says_none = refl

letter_says_none : number_said (bytes "1k") ≡ None
unfolding number_said bytes
letter_says_none = refl
