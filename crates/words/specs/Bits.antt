-- A set in words of 64 bits: number t is bit t % 64 of word t / 64. `word` gives the words, so that they may lie anywhere.
use Rattle.std.specs.Prelude.{ℕ, zero, suc, ◌/◌, ◌%◌, ◌<◌, Bool}
use Rattle.base.specs.Pick.{pick}
use Rattle.rules.specs.Tokens.{TokenSet, has, single, join}

abbrev pub word_bits : ℕ
word_bits = 64

abbrev pub IsBit : ℕ → Type 0
IsBit bit = bit < word_bits

-- the numbers below n that pass the test
unfoldable pub set_by : (ℕ → Bool) → ℕ → TokenSet
set_by test zero = 0
set_by test (suc n) = pick (test n) (join (set_by test n) (single n)) (set_by test n)

-- the numbers below n that are in the words
unfoldable pub bits_in : (ℕ → ℕ) → ℕ → TokenSet
bits_in word n = set_by (λ t. has (word (t / word_bits)) (t % word_bits)) n
