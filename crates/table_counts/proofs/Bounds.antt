-- How many records there can be: a symbol has at most one, an entry at most one on a token, and a state and all states as many as follow.
use Prim.Native.Nat.{ℕ, zero, suc, ◌+◌, ◌-◌, ◌*◌, ◌<◌, ◌≤◌}
use mathlib.Core.Path.{◌≡◌, refl, ap}
use mathlib.Core.Bool.{Bool, true, false, ◌&&◌}
use mathlib.Core.List.{List, [], ◌∷◌, ◌++◌, map}
use native.Mathlib.Omega.{arith}
use lib.ListN.{length, length-append}
use Rattle.std.proofs.Math.Nat.{mul-suc}
use Rattle.base.specs.Pick.{pick}
use Rattle.base.specs.Lists.{numbers_from, keep, concat}
use Rattle.rules.specs.Records.{at, records}
use Rattle.rules.specs.Tokens.{has}
use Rattle.rules.specs.Grammar.{at_end, is_before, terminal_count, nonterminal_count}
use Rattle.rules.specs.States.{Entry}
use Rattle.rules.specs.Table.{TableRecord, table_record, transition_over, table_of}
use Rattle.grammar.specs.Asked.{Faultless}
use Rattle.room.specs.Areas.{view}
use Rattle.states.specs.StatesIn.{entry_in, first_of, state_in, states_in, Placed, PlacedAt}
use Rattle.lr.specs.Kernels.{symbol_by}
use Rattle.table_counts.specs.Records.{in_turn, kind_over, over_symbol, on_entry, on_token, shifts_of, gotos_of, reductions_of, of_state, max_of_state, max_records}
use Rattle.table_counts.proofs.Entries.{entries_in_turn}
use Rattle.table_counts.proofs.States.{state_parts, table_in_turn, few_terminals, few_nonterminals}

-- ---- lists of at most b records each
module _ (f : ℕ → List TableRecord) (b : ℕ) where
  few_each : (n i : ℕ) → ((k : ℕ) → i ≤ k → k < i + n → length (f k) ≤ b) → length (concat (map f (numbers_from i n))) ≤ b * n
  unfolding concat numbers_from
  few_each zero i h = omega arith
  few_each (suc n) i h =
      omega (arith, length-append (f i) (concat (map f (numbers_from (suc i) n))), h i (omega arith) (omega arith), few_each n (suc i) (λ k p q. h k (omega arith) (omega arith)), mul-suc b n)

  pub few_in_turn : (i n : ℕ) → ((k : ℕ) → i ≤ k → k < n → length (f k) ≤ b) → length (in_turn f i n) ≤ b * (n - i)
  unfolding in_turn
  few_in_turn i n h = few_each (n - i) i (λ k p q. h k p (omega arith))

-- ---- one symbol, and one entry on a token
over_few : (bytes work : List ℕ) (s kind x : ℕ) → length (over_symbol bytes work s kind x) ≤ 1
unfolding over_symbol transition_over
over_few bytes work s kind x = go (keep (λ e. is_before (records bytes) (symbol_by kind x) e.item) (state_in (view work) s))
  where
    go : (es : List Entry) → length (transition_over s (kind_over kind) x es) ≤ 1
    go [] = omega arith
    go (e ∷ es) = omega arith

entry_few : (bytes work : List ℕ) (s t k : ℕ) → length (on_entry bytes work s t k) ≤ 1
unfolding on_entry
entry_few bytes work s t k = go (at_end (records bytes) (entry_in (view work) k).item && has (entry_in (view work) k).set t)
  where
    go : (b : Bool) → length (pick b (table_record s 2 t (at (records bytes) (entry_in (view work) k).item).production ∷ []) []) ≤ 1
    go true = omega arith
    go false = omega arith

-- ---- a state
module _ (bytes work : List ℕ) (s : ℕ) where
  token_few : (t : ℕ) → PlacedAt (length (records bytes)) (view work) s → length (on_token bytes work s t) ≤ 2048
  token_few t placed =
      omega (
        arith,
        ap length (entries_in_turn bytes work s t (first_of (view work) s) (first_of (view work) (s + 1)) refl refl),
        few_in_turn (on_entry bytes work s t) 1 (first_of (view work) s) (first_of (view work) (s + 1)) (λ k p q. entry_few bytes work s t k),
        placed.bounded,
      )

  state_few : (n m : ℕ) → Faultless bytes → n ≡ terminal_count (records bytes) → m ≡ nonterminal_count (records bytes) → PlacedAt (length (records bytes)) (view work) s → length (of_state bytes work s) ≤ max_of_state
  state_few n m fine terminals nonterminals placed =
      let a : length (shifts_of bytes work s n) ≤ 1 * (n - 0) = few_in_turn (over_symbol bytes work s 1) 1 0 n (λ k p q. over_few bytes work s 1 k) in
      let b : length (gotos_of bytes work s m) ≤ 1 * (m - 0) = few_in_turn (over_symbol bytes work s 0) 1 0 m (λ k p q. over_few bytes work s 0 k) in
      let c : length (reductions_of bytes work s n) ≤ 2048 * (n + 1 - 0) = few_in_turn (on_token bytes work s) 2048 0 (n + 1) (λ k p q. token_few k placed) in
      omega (
        arith,
        a,
        b,
        c,
        ap length (state_parts bytes work s n m terminals nonterminals),
        length-append (shifts_of bytes work s n) (gotos_of bytes work s m ++ reductions_of bytes work s n),
        length-append (gotos_of bytes work s m) (reductions_of bytes work s n),
        few_terminals bytes n fine terminals,
        few_nonterminals bytes m fine nonterminals,
      )

-- ---- all states
pub table_few : (bytes work : List ℕ) (n m count : ℕ) → Faultless bytes → n ≡ terminal_count (records bytes) → m ≡ nonterminal_count (records bytes) → Placed (length (records bytes)) count (view work)
    → length (table_of (records bytes) (states_in (view work) count)) ≤ max_records
table_few bytes work n m count fine terminals nonterminals placed =
    omega (
      arith,
      ap length (table_in_turn bytes work count),
      placed.few,
      few_in_turn (of_state bytes work) 129150 0 count (λ s p q. state_few bytes work s n m fine terminals nonterminals (placed.each s q)),
    )
