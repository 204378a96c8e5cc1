-- What the helpers of this crate answer, in the words of `rules`.
use Rattle.std.specs.Prelude.{ℕ, Bool, false, not, ◌||◌}
use Rattle.base.specs.Pick.{pick}
use Rattle.rules.specs.Records.{Grammar, at}
use Rattle.rules.specs.Tokens.{TokenSet, has}
use Rattle.rules.specs.Grammar.{at_start, side_derives, collect}

-- the production of record i has its left side collected, if its right side derives a string
unfoldable pub is_collected : Grammar → TokenSet → ℕ → Bool
unfolding at side_derives has
is_collected g found i = not (side_derives g found i) || has found (at g i).symbol

unfoldable pub uncollected : Grammar → TokenSet → ℕ → Bool
unfolding at_start is_collected
uncollected g found i = pick (at_start g i) (not (is_collected g found i)) false

-- one turn of a round over the productions
unfoldable pub collect_at : Grammar → ℕ → TokenSet → TokenSet
unfolding at_start collect
collect_at g i found = pick (at_start g i) (collect g i found) found

unfoldable pub is_barren : TokenSet → ℕ → Bool
unfolding has
is_barren found a = not (has found a)
