-- The bounds of the work room's numbers, by name, and what the functions over the room ask of a number. Each is the expression that it
-- abbreviates, wherever it stands.
use Rattle.std.specs.Prelude.{ℕ, ◌≤◌, ◌<◌, List, length}
use Rattle.rules.specs.Limits.{max_terminals, max_nonterminals, max_states, max_entries, max_columns, work_size}
use Rattle.rules.specs.declared.StateIndex.{StateIndex}
use Rattle.rules.specs.declared.ConflictIndex.{ConflictIndex}

-- ---- the room
abbrev pub LongEnough : List ℕ → Type 0
LongEnough work = work_size ≤ length work

-- ---- what a number of the room speaks of
abbrev pub IsState : StateIndex → Type 0
IsState state = state.0 < max_states

-- behind the last state stands the end of the entries
abbrev pub IsStateOrEnd : StateIndex → Type 0
IsStateOrEnd state = state.0 ≤ max_states

abbrev pub IsEntry : ℕ → Type 0
IsEntry entry = entry < max_entries

-- a coded grammar has at most 512 records, and each is an item
abbrev pub max_items : ℕ
max_items = 512

abbrev pub IsItem : ℕ → Type 0
IsItem item = item < max_items

abbrev pub IsColumn : ConflictIndex → Type 0
IsColumn column = column.0 < max_columns

abbrev pub IsNonterminal : ℕ → Type 0
IsNonterminal a = a < max_nonterminals

-- how many terminals a grammar has
abbrev pub FewTerminals : ℕ → Type 0
FewTerminals n = n ≤ max_terminals

-- ---- words of bits: those of the items visited in a state, of a state's successors, and of the states walked
abbrev pub visited_words : ℕ
visited_words = 8

abbrev pub successor_words : ℕ
successor_words = 2

abbrev pub walked_words : ℕ
walked_words = 2

-- ---- slots of token sets
abbrev pub slot_count : ℕ
slot_count = 4225

abbrev pub IsSlot : ℕ → Type 0
IsSlot slot = slot < slot_count
