-- The dots of items: at the start, not at the end.
use Prim.Native.Nat.{ℕ, zero, suc, ◌≤◌}
use mathlib.Core.Path.{◌≡◌, refl, sym, ◌∙◌}
use mathlib.Core.Bool.{Bool, true, false, not, true≢false}
use mathlib.Core.List.{List}
use native.Mathlib.Omega.{arith}
use lib.Dec.{eqb}
use borrow.Author.Tests.{not-false}
use Rattle.base.proofs.Tests.{both_true}
use Rattle.rules.specs.Records.{Grammar, at, records, is_left_side, in_sequence}
use Rattle.rules.specs.Grammar.{Symbol, at_start, at_end, is_before}
use Rattle.rules.proofs.Laws.{length_records}
use Rattle.grammar.specs.Asked.{InRange, Faultless}
use Rattle.grammar.proofs.Coded.{in_sequence_lem}

pub start_false : (g : Grammar) (i : ℕ) (b : Bool) → b ≡ at_start g i → b ≡ false → at_start g i ≡ false
start_false g i b e f = sym e ∙ f

-- an item with a symbol behind its dot is not at the end
pub not_at_end : (g : Grammar) (x : Symbol) (j : ℕ) (d : Bool) → d ≡ is_before g x j → not d ≡ false → at_end g j ≡ false
unfolding is_before
not_at_end g x j d e f = go (at_end g j) refl
  where
    go : (b : Bool) → at_end g j ≡ b → b ≡ false
    go true t = absurd (true≢false (sym (not-false d f) ∙ e ∙ rw t))
    go false t = refl

-- the dot of item 0 is at the start
pub past_first : (bytes : List ℕ) (i : ℕ) → Faultless bytes → InRange i bytes → at_start (records bytes) i ≡ false → 1 ≤ i
unfolding at_start is_left_side in_sequence
past_first bytes zero clean h f =
    absurd (true≢false (sym (both_true (eqb (at (records bytes) 0).production 0) (eqb (at (records bytes) 0).position 0) (in_sequence_lem (records bytes) clean 0 (omega (arith, length_records bytes)))).1 ∙ f))
past_first bytes (suc i) clean h f = omega arith
