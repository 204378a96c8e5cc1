-- The slots of the token sets: 64 for FIRST, 64 for the closure of the state at hand, one for each entry, one for each state and column of
-- the lane table, and last the set at hand.
use Rattle.std.specs.Prelude.{ℕ, ◌+◌, ◌*◌}
use Rattle.rules.specs.declared.StateIndex.{StateIndex}
use Rattle.rules.specs.declared.ConflictIndex.{ConflictIndex}

-- FIRST of nonterminal a
abbrev pub first_slot : ℕ → ℕ
first_slot a = a

-- what nonterminal a's productions have in the closure
abbrev pub closure_slot : ℕ → ℕ
closure_slot a = 64 + a

abbrev pub entry_slot : ℕ → ℕ
entry_slot entry = 128 + entry

-- the lane table's cell
abbrev pub row_slot : StateIndex → ConflictIndex → ℕ
row_slot state column = 2176 + 16 * state.0 + column.0

-- where a set is collected before it is joined to another
abbrev pub hand_slot : ℕ
hand_slot = 4224
