-- The number that a word of the call says: decimal digits and nothing else, below 2^64. `128` says 128; an empty word, `-1` and `1k` say none.
use Rattle.std.specs.Prelude.{ℕ, ◌+◌, ◌*◌, ◌-◌, List, [], ◌∷◌, ltb, Option, Some, None}
use Rattle.base.specs.Pick.{pick}
use Rattle.base.specs.Lists.{fold_over}

-- the largest number of 64 bits
abbrev pub largest : ℕ
largest = 18446744073709551615

-- n with one more digit behind it
unfoldable pub with_digit : ℕ → ℕ → Option ℕ
with_digit n byte =
    let more : ℕ = 10 * n + (byte - 48) in
    pick (ltb byte 48) None (pick (ltb 57 byte) None (pick (ltb largest more) None (Some more)))

-- what is said of the digits so far, with one more
unfoldable pub another : ℕ → Option ℕ → Option ℕ
unfolding with_digit
another byte (Some n) = with_digit n byte
another byte None = None

-- what a word says
unfoldable pub number_said : List ℕ → Option ℕ
unfolding fold_over another
number_said [] = None
number_said (byte ∷ bytes) = fold_over another (byte ∷ bytes) (Some 0)
