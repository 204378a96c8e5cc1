-- The records of a state, and of all states, are those of `rules`.
use Prim.Native.Nat.{ℕ, zero, suc, ◌<◌, ◌≤◌}
use mathlib.Core.Path.{◌≡◌, refl, ap}
use mathlib.Core.List.{List, ◌++◌, map}
use native.Mathlib.Omega.{arith}
use native.Mathlib.Nat.{sub-zero}
use lib.ListN.{length}
use Rattle.base.specs.Each.{each_from}
use Rattle.base.specs.Lists.{numbers_from, up_to, concat}
use Rattle.rules.specs.Limits.{max_nonterminals}
use Rattle.rules.specs.Records.{records}
use Rattle.rules.specs.Grammar.{terminal_count, nonterminal_count}
use Rattle.rules.specs.Table.{TableRecord, shift_records, goto_records, reduce_records, state_records, records_from, table_of}
use Rattle.grammar.specs.Asked.{Faultless}
use Rattle.grammar.proofs.Coded.{terminal_count_below, nonterminal_count_below}
use Rattle.room.specs.Areas.{view}
use Rattle.room.specs.Bounds.{LongEnough, FewTerminals}
use Rattle.states.specs.StatesIn.{state_in, states_in, Placed}
use Rattle.lr.specs.Kernels.{symbol_by}
use Rattle.table_counts.specs.Asked.{Readable}
use Rattle.table_counts.specs.Records.{in_turn, kind_over, over_symbol, on_token, shifts_of, gotos_of, reductions_of, of_state}

-- ---- a state: shifts, gotos, reductions
module _ (bytes work : List ℕ) (s n m : ℕ) (terminals : n ≡ terminal_count (records bytes)) (nonterminals : m ≡ nonterminal_count (records bytes)) where
  shifts_are : shifts_of bytes work s n ≡ shift_records (records bytes) s (state_in (view work) s)
  unfolding in_turn over_symbol shift_records up_to kind_over symbol_by
  shifts_are = rw (sub-zero, terminals)

  gotos_are : gotos_of bytes work s m ≡ goto_records (records bytes) s (state_in (view work) s)
  unfolding in_turn over_symbol goto_records up_to kind_over symbol_by
  gotos_are = rw (sub-zero, nonterminals)

  reductions_are : reductions_of bytes work s n ≡ reduce_records (records bytes) s (state_in (view work) s)
  unfolding in_turn on_token reduce_records up_to
  reductions_are = rw (sub-zero, terminals)

  pub state_parts : of_state bytes work s ≡ shifts_of bytes work s n ++ (gotos_of bytes work s m ++ reductions_of bytes work s n)
  unfolding of_state state_records
  state_parts = rw (shifts_are, gotos_are, reductions_are)

-- ---- all states
module _ (bytes work : List ℕ) (count : ℕ) where
  states_from_lem : (n i : ℕ) → records_from (records bytes) i (each_from (state_in (view work)) i n) ≡ concat (map (of_state bytes work) (numbers_from i n))
  unfolding records_from each_from concat numbers_from of_state
  states_from_lem zero i = refl
  states_from_lem (suc n) i = ap (λ (l : List TableRecord). state_records (records bytes) i (state_in (view work) i) ++ l) (states_from_lem n (suc i))

  pub table_in_turn : table_of (records bytes) (states_in (view work) count) ≡ in_turn (of_state bytes work) 0 count
  unfolding table_of states_in in_turn
  table_in_turn = rw sub-zero (states_from_lem count 0)

  pub state_readable : (s : ℕ) → LongEnough work → Placed (length (records bytes)) count (view work) → s < count → Readable bytes work s
  state_readable s long placed h = record { long = long; few = omega (arith, placed.few); placed = placed.each s h }

pub few_terminals : (bytes : List ℕ) (n : ℕ) → Faultless bytes → n ≡ terminal_count (records bytes) → FewTerminals n
few_terminals bytes n fine e = rw e (terminal_count_below (records bytes) fine)

pub few_nonterminals : (bytes : List ℕ) (m : ℕ) → Faultless bytes → m ≡ nonterminal_count (records bytes) → m ≤ max_nonterminals
few_nonterminals bytes m fine e = rw e (nonterminal_count_below (records bytes) fine)
