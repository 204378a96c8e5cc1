-- The room after each change of the lane table.
use Rattle.std.specs.Prelude.{ℕ, eqb}
use Rattle.base.specs.Pick.{pick}
use Rattle.rules.specs.Records.{Grammar, at}
use Rattle.rules.specs.Tokens.{TokenSet, join, eof}
use Rattle.rules.specs.Grammar.{start, terminal_count}
use Rattle.rules.specs.First.{Sets}
use Rattle.rules.specs.Lanes.{tokens_past}
use Rattle.room.specs.Areas.{Room, put_entered}
use Rattle.room.specs.Slots.{hand_slot}
use Rattle.lookahead.specs.Sets.{set_at, put_set}
use Rattle.lane.specs.Table.{cell_slot}

-- the tokens are joined into the cell
abbrev pub tokens_entered : ℕ → ℕ → TokenSet → Room → Room
tokens_entered s c tokens r = put_set (cell_slot s c) (join (set_at r (cell_slot s c)) tokens) (put_entered s 1 r)

-- and are left in the slot at hand too
abbrev pub hand_entered : ℕ → ℕ → TokenSet → Room → Room
hand_entered s c tokens r = tokens_entered s c tokens (put_set hand_slot tokens r)

-- the start enters Eof
abbrev pub start_entered : Grammar → ℕ → ℕ → ℕ → Room → Room
start_entered g s c i r = pick (eqb (at g i).symbol (start g)) (hand_entered s c (eof (terminal_count g)) r) r

-- FIRST of what follows the nonterminal behind the dot of item j is entered
abbrev pub past_entered : Grammar → Sets → ℕ → ℕ → ℕ → Room → Room
past_entered g sets s c j r = hand_entered s c (tokens_past g sets j) r
