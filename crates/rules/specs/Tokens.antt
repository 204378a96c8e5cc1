-- Sets of numbers, and token sets among them. A set is a number: bit t says that t is in it. In a token set t is a token: with n
-- terminals, Eof is bit n, and `all` holds the terminals and Eof. Error would be bit n + 1 and is never set.
--
-- With two terminals, `single 0` is 1, Eof is 4 and `all 2` is 7.
use Rattle.std.specs.Prelude.{ℕ, ◌+◌, ◌-◌, ◌/◌, ◌%◌, ◌^◌, ◌≡◌, Bool, eqb}
use Rattle.std.specs.Int.Bits.{bit_and, bit_or}
use Rattle.base.specs.Pick.{pick}

-- of states, of items, of nonterminals
abbrev pub NumberSet : Type 0
NumberSet = ℕ

-- of tokens
abbrev pub TokenSet : Type 0
TokenSet = NumberSet

-- t is in the set, as a statement and as a test
unfoldable pub Has : NumberSet → ℕ → Type 0
Has s t = s / 2 ^ t % 2 ≡ 1

unfoldable pub has : NumberSet → ℕ → Bool
has s t = eqb (s / 2 ^ t % 2) 1

unfoldable pub is_empty_set : NumberSet → Bool
is_empty_set s = eqb s 0

unfoldable pub single : ℕ → NumberSet
single t = 2 ^ t

unfoldable pub join : NumberSet → NumberSet → NumberSet
join a b = bit_or a b

unfoldable pub meet : NumberSet → NumberSet → NumberSet
meet a b = bit_and a b

unfoldable pub disjoint : NumberSet → NumberSet → Bool
unfolding meet
disjoint a b = eqb (meet a b) 0

-- everything in a is in b
unfoldable pub within : NumberSet → NumberSet → Bool
unfolding meet
within a b = eqb (meet a b) a

unfoldable pub without : NumberSet → ℕ → NumberSet
unfolding has
without s t = pick (has s t) (s - 2 ^ t) s

-- ---- token sets
unfoldable pub eof : ℕ → TokenSet
unfolding single
eof n = single n

unfoldable pub all : ℕ → TokenSet
all n = 2 ^ (n + 1) - 1
