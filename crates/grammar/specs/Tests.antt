-- What the helpers of this crate answer, in the words of `rules`.
use Rattle.std.specs.Prelude.{ℕ, ◌+◌, Bool, true, false, ◌||◌}
use Rattle.base.specs.Pick.{pick}
use Rattle.rules.specs.Limits.{limits}
use Rattle.rules.specs.Records.{Record, Grammar, at, is_terminal, bad_record, out_of_sequence}
use Rattle.rules.specs.Grammar.{left_side_of, left_of}

-- the left-side record of item i's production, and the nonterminal there
abbrev pub item_left_side : Grammar → ℕ → ℕ
item_left_side g i = left_side_of g (at g i).production

abbrev pub item_left : Grammar → ℕ → ℕ
item_left g i = left_of g (at g i).production

-- one more than the symbol of a record of the kind, and 0 of the other kind: terminals if the test says so, else nonterminals
unfoldable pub count_named : Bool → Record → ℕ
unfolding is_terminal
count_named true r = pick (is_terminal r) (r.symbol + 1) 0
count_named false r = pick (is_terminal r) 0 (r.symbol + 1)

-- record i meets refusal 4 or 5
unfoldable pub is_fault : Grammar → ℕ → Bool
unfolding limits bad_record out_of_sequence at
is_fault g i = bad_record limits (at g i) || out_of_sequence limits g i
