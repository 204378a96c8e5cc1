-- How many tokens a set has.
use Rattle.std.specs.Prelude.{ℕ, zero, suc, ◌+◌, ◌/◌, ◌%◌, ◌^◌}
use Rattle.rules.specs.Tokens.{TokenSet}

-- 1 where token t is in the set, 0 where it is not
unfoldable pub bit : TokenSet → ℕ → ℕ
bit s t = s / 2 ^ t % 2

-- how many of the tokens below w are in the set
unfoldable pub size : ℕ → TokenSet → ℕ
unfolding bit
size zero s = 0
size (suc w) s = size w s + bit s w
