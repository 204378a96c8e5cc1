-- Laws of the coded grammar's definitions that code and theory share: how many records there are, what stands past the last, and that a
-- symbol which a record names is below n or m.
use Prim.Native.Nat.{ℕ, zero, suc, ◌+◌, ◌/◌, ◌<◌, ◌≤◌}
use mathlib.Core.Path.{◌≡◌, refl, ap}
use mathlib.Core.Bool.{true, false, true≢false}
use mathlib.Core.List.{List, [], ◌∷◌}
use native.Mathlib.Omega.{arith}
use native.Mathlib.Decide.{dec_le}
use native.Mathlib.Numerals.{add-one}
use lib.ListN.{length, drop, get_or-eq_default}
use Rattle.base.specs.Pick.{pick}
use Rattle.base.specs.Among.{Among}
use Rattle.base.proofs.Lists.{among_at, among_map, le_greatest}
use Rattle.rules.specs.Records.{Record, Grammar, records_of, records, past, at, is_terminal, is_left_side}
use Rattle.rules.specs.Grammar.{symbol_of, side_of, at_end, terminal_count, nonterminal_count}

-- ---- records
pub length_records_of_lem : (k : ℕ) (bytes : List ℕ) → length (records_of k bytes) ≡ k
unfolding records_of
length_records_of_lem zero bytes = refl
length_records_of_lem (suc k) bytes = ap suc (length_records_of_lem k (drop 8 bytes))

pub length_records : (bytes : List ℕ) → length (records bytes) ≡ length bytes / 8
unfolding records
length_records bytes = length_records_of_lem (length bytes / 8) bytes

pub record_past : (g : Grammar) (i : ℕ) → length g ≤ i → at g i ≡ past
unfolding at
record_past g i h = get_or-eq_default g past h

-- a dot that is not at the end has a record behind it
pub not_at_end_within : (g : Grammar) (i : ℕ) → at_end g i ≡ false → i + 1 < length g
unfolding at_end past is_left_side
not_at_end_within g i e = elim (dec_le (length g) (i + 1)) [
  | yes h ↦ absurd (true≢false (rw (record_past g (i + 1) h) at e))
  | no h ↦ omega arith
]

-- ---- right sides
-- the symbols of the records from k on end there if k is a left side
pub side_from : (g : Grammar) (k : ℕ) → side_of (drop k g) ≡ pick (is_left_side (at g k)) [] (symbol_of (at g k) ∷ side_of (drop (k + 1) g))
unfolding side_of at
side_from g k = rw add-one (from g k)
  where
    from : (g : Grammar) (k : ℕ) → side_of (drop k g) ≡ pick (is_left_side (at g k)) [] (symbol_of (at g k) ∷ side_of (drop (suc k) g))
    from [] zero = refl
    from [] (suc k) = refl
    from (r ∷ g) zero = refl
    from (r ∷ g) (suc k) = from g k

-- ---- symbols
module _ (g : Grammar) {r : Record} (named : Among r g) where
  pub terminal_counted : is_terminal r ≡ true → r.symbol < terminal_count g
  unfolding terminal_count
  terminal_counted e =
      let h = le_greatest (among_map (λ (r : Record). pick (is_terminal r) (r.symbol + 1) 0) named) in
      let q : pick (is_terminal r) (r.symbol + 1) 0 ≡ r.symbol + 1 = rw e in
      omega arith

  pub nonterminal_counted : is_terminal r ≡ false → r.symbol < nonterminal_count g
  unfolding nonterminal_count
  nonterminal_counted e =
      let h = le_greatest (among_map (λ (r : Record). pick (is_terminal r) 0 (r.symbol + 1)) named) in
      let q : pick (is_terminal r) 0 (r.symbol + 1) ≡ r.symbol + 1 = rw e in
      omega arith

-- the same of a record by its place
module _ (g : Grammar) (i : ℕ) (h : i < length g) where
  pub nonterminal_counted_at : is_terminal (at g i) ≡ false → (at g i).symbol < nonterminal_count g
  unfolding at
  nonterminal_counted_at = nonterminal_counted g (among_at g i past h)
