-- The records of the states in the room, in the order in which the code goes: a state's symbols in turn, its tokens in turn, and for a
-- token its entries in turn. That these are the records of `rules` is proved in proofs/States.antt.
use Rattle.std.specs.Prelude.{ℕ, ◌+◌, ◌-◌, ◌<◌, ◌&&◌, List, [], ◌∷◌, map, eqb}
use Rattle.base.specs.Pick.{pick}
use Rattle.base.specs.Lists.{numbers_from, keep, concat}
use Rattle.rules.specs.Records.{at, records}
use Rattle.rules.specs.Tokens.{has}
use Rattle.rules.specs.Grammar.{at_end, is_before}
use Rattle.rules.specs.States.{reductions}
use Rattle.rules.specs.Table.{TableRecord, table_record, transition_over, state_records}
use Rattle.room.specs.Areas.{view}
use Rattle.states.specs.StatesIn.{entry_in, state_in}
use Rattle.lr.specs.Kernels.{symbol_by}

-- the records of i, i + 1, .., n - 1, one after another
unfoldable pub in_turn : (ℕ → List TableRecord) → ℕ → ℕ → List TableRecord
unfolding concat numbers_from
in_turn f i n = concat (map f (numbers_from i (n - i)))

-- the kind of a record over a symbol of a kind, 0 nonterminal and 1 terminal: a terminal is shifted, and a nonterminal leads to a goto
unfoldable pub kind_over : ℕ → ℕ
kind_over kind = pick (eqb kind 1) 0 1

-- the record of state s over a symbol, if it has one
unfoldable pub over_symbol : List ℕ → List ℕ → ℕ → ℕ → ℕ → List TableRecord
unfolding transition_over kind_over keep is_before symbol_by records state_in
over_symbol bytes work s kind x = transition_over s (kind_over kind) x (keep (λ e. is_before (records bytes) (symbol_by kind x) e.item) (state_in (view work) s))

-- the record of state s for token t and the entry at place k, if that is a reduction on the token
unfoldable pub on_entry : List ℕ → List ℕ → ℕ → ℕ → ℕ → List TableRecord
unfolding at_end has records entry_in table_record at
on_entry bytes work s t k =
    pick (at_end (records bytes) (entry_in (view work) k).item && has (entry_in (view work) k).set t)
    (table_record s 2 t (at (records bytes) (entry_in (view work) k).item).production ∷ [])
    []

-- those of all of its entries
unfoldable pub on_token : List ℕ → List ℕ → ℕ → ℕ → List TableRecord
unfolding table_record at records keep has reductions state_in
on_token bytes work s t =
    map (λ e. table_record s 2 t (at (records bytes) e.item).production) (keep (λ e. has e.set t) (reductions (records bytes) (state_in (view work) s)))

-- the shifts of state s, its gotos and its reductions, with n terminals and m nonterminals
abbrev pub shifts_of : List ℕ → List ℕ → ℕ → ℕ → List TableRecord
shifts_of bytes work s n = in_turn (over_symbol bytes work s 1) 0 n

abbrev pub gotos_of : List ℕ → List ℕ → ℕ → ℕ → List TableRecord
gotos_of bytes work s m = in_turn (over_symbol bytes work s 0) 0 m

abbrev pub reductions_of : List ℕ → List ℕ → ℕ → ℕ → List TableRecord
reductions_of bytes work s n = in_turn (on_token bytes work s) 0 (n + 1)

-- and all of its records
unfoldable pub of_state : List ℕ → List ℕ → ℕ → List TableRecord
unfolding state_records records state_in
of_state bytes work s = state_records (records bytes) s (state_in (view work) s)

-- ---- how many there can be: a state has a shift for each of 62 terminals, a goto for each of 64 nonterminals, and for each of 63 tokens a
-- reduction for each of 2,048 entries; there are 128 states
abbrev pub max_of_state : ℕ
max_of_state = 129150

abbrev pub max_records : ℕ
max_records = 16531200
