-- The left side of a record's production in the code's terms: it stands the record's position before it.
use Prim.Native.Nat.{ℕ, ◌-◌, ◌<◌, ◌≤◌}
use mathlib.Core.Path.{◌≡◌, ap, ◌∙◌}
use mathlib.Core.List.{List}
use native.Mathlib.Omega.{arith}
use Rattle.rules.specs.Limits.{max_nonterminals}
use Rattle.rules.proofs.Laws.{length_records}
use Rattle.rules.specs.Records.{Grammar, records, at}
use Rattle.rules.specs.Grammar.{left_side_of, left_of}
use Rattle.grammar.specs.Asked.{InRange, Faultless}
use Rattle.grammar.specs.Tests.{item_left_side}
use Rattle.grammar.proofs.Coded.{in_sequence_lem, symbol_read}
use Rattle.grammar.proofs.Sequence.{left_back}

-- k is the left-side record
pub left_found : (g : Grammar) (p k a : ℕ) → k ≡ left_side_of g p → a ≡ (at g k).symbol → a ≡ left_of g p
unfolding left_of
left_found g p k a e f = f ∙ ap (λ (j : ℕ). (at g j).symbol) e

module _ (bytes : List ℕ) (clean : Faultless bytes) (i : ℕ) (h : InRange i bytes) where
  left_placed : ((at (records bytes) i).position ≤ i) × (i - (at (records bytes) i).position ≡ item_left_side (records bytes) i)
  left_placed = left_back (records bytes) (in_sequence_lem (records bytes) clean) i (omega (arith, length_records bytes))

  module _ (q : ℕ) (e : q ≡ (at (records bytes) i).position) where
    pub reaches : q ≤ i
    reaches = let l = left_placed.0 in omega arith

    pub left_there : i - q ≡ item_left_side (records bytes) i
    left_there = ap (λ (k : ℕ). i - k) e ∙ left_placed.1

  pub left_below : (k a : ℕ) → k ≤ i → a ≡ (at (records bytes) k).symbol → a < max_nonterminals
  left_below k a l e = symbol_read bytes k a clean (omega arith) e
