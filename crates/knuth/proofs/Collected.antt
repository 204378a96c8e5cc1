-- The nonterminals that `productive` collects are exactly those that derive a string of terminals, and its rounds suffice.
use Prim.Native.Nat.{ℕ, ◌<◌}
use mathlib.Core.Path.{◌≡◌, refl, ◌∙◌}
use mathlib.Core.Logic.{⊎_elim, ◌↔◌}
use mathlib.Core.Bool.{Bool, true, false, ◌||◌, not, false≢true, true≢false}
use mathlib.Core.List.{List, [], ◌∷◌}
use native.Mathlib.Omega.{arith}
use Rattle.base.specs.Pick.{pick}
use Rattle.base.specs.Among.{Among, here}
use Rattle.base.specs.Lists.{each_of}
use Rattle.base.proofs.Lists.{each_true}
use Rattle.base.proofs.Until.{Steps, rounds_keep, rounds_end}
use Rattle.rules.specs.Records.{Grammar, at}
use Rattle.rules.specs.Tokens.{NumberSet, Has, has, single, join}
use Rattle.rules.specs.Grammar.{Symbol, nonterminal, terminal, symbols_behind, left_sides, nonterminal_count, symbol_derives, side_derives, collect, all_collected, productive}
use Rattle.sets.specs.Size.{size}
use Rattle.sets.proofs.Laws.{has_true, has_none, has_single, has_join, within_single, single_below, join_within, size_le, size_grows}
use Rattle.knuth.specs.Rules.{Rule}
use Rattle.knuth.specs.Derivations.{Trees, none, leaf, node, DerivesTokens, Fruitful}
use Rattle.knuth.specs.Coded.{NonterminalsLeft}
use Rattle.knuth.proofs.Trees.{trees_of_derivation}
use Rattle.knuth.proofs.Productive.{left_side_derives_tokens}
use Rattle.knuth.proofs.Productions.{rule_of_left_side, left_side_of_rule, left_below}

module _ (g : Grammar) where
  -- ---- sound: what is collected derives tokens
  abbrev AllDerive : NumberSet → Type 0
  AllDerive found = (a : ℕ) → Has found a → DerivesTokens (Rule g) (nonterminal a ∷ [])

  fruitful_side : (found : NumberSet) → AllDerive found → (xs : List Symbol) → each_of (symbol_derives found) xs ≡ true → Fruitful (Rule g) xs
  unfolding each_of symbol_derives
  fruitful_side found s [] e = tt
  fruitful_side found s (terminal t ∷ xs) e = fruitful_side found s xs e
  fruitful_side found s (nonterminal a ∷ xs) e = by_first (has found a) refl e (fruitful_side found s xs)
    where
      by_first : (b : Bool) → has found a ≡ b → pick b (each_of (symbol_derives found) xs) false ≡ true
          → (each_of (symbol_derives found) xs ≡ true → Fruitful (Rule g) xs) → DerivesTokens (Rule g) (nonterminal a ∷ []) × Fruitful (Rule g) xs
      by_first true f e more = (s a ((has_true found a).0 f), more e)
      by_first false f e more = absurd (false≢true e)

  collect_derives : (i : ℕ) → Among i (left_sides g) → (found : NumberSet) → AllDerive found → AllDerive (collect g i found)
  unfolding collect side_derives
  collect_derives i m found s = by_test (each_of (symbol_derives found) (symbols_behind g i)) refl
    where
      new : each_of (symbol_derives found) (symbols_behind g i) ≡ true → DerivesTokens (Rule g) (nonterminal (at g i).symbol ∷ [])
      new e = left_side_derives_tokens (Rule g) (rule_of_left_side g i m) (fruitful_side found s (symbols_behind g i) e)

      by_test : (b : Bool) → each_of (symbol_derives found) (symbols_behind g i) ≡ b → AllDerive (pick b (join found (single (at g i).symbol)) found)
      by_test true e a h = ⊎_elim (s a) (λ k. rw ((has_single (at g i).symbol a).0 k) (new e)) ((has_join found (single (at g i).symbol) a).0 h)
      by_test false e a h = s a h

  productive_sound : AllDerive (productive g)
  unfolding productive
  productive_sound =
      rounds_keep (all_collected g) (collect g) AllDerive (left_sides g) collect_derives (nonterminal_count g) 0 (λ a h. absurd (has_none a h))

  -- ---- complete: where all is collected, what derives tokens is among it
  module _ (found : NumberSet) (all : all_collected g found ≡ true) where
    left_collected_lem : {p a : ℕ} {η : List Symbol} → Rule g p a η → each_of (symbol_derives found) η ≡ true → has found a ≡ true
    unfolding all_collected side_derives
    left_collected_lem r e =
        rw (r.left, r.right, e) at (each_true (λ i. not (side_derives g found i) || has found (at g i).symbol) (left_side_of_rule g r) all)

    side_collected : {xs : List Symbol} {ps w : List ℕ} → Trees (Rule g) xs ps w → each_of (symbol_derives found) xs ≡ true
    unfolding each_of symbol_derives
    side_collected none = refl
    side_collected (leaf y) = side_collected y
    side_collected (node r y z) = rw (left_collected_lem r (side_collected y)) (side_collected z)

  -- ---- the rounds end: one that is not the last collects one of m nonterminals
  module _ (left : NonterminalsLeft g) where
    abbrev left_collected : ℕ → NumberSet → Bool
    left_collected i found = not (side_derives g found i) || has found (at g i).symbol

    steps : Steps (collect g) left_collected (size (nonterminal_count g)) (λ found. Unit {0}) (left_sides g)
    unfolding collect
    steps = record {
      keeps = λ i k found u. tt;
      rests = λ i k found u e. rests (at g i).symbol found (side_derives g found i) e;
      adds = λ i k found u e. adds (at g i).symbol found (left_below g left i k) (side_derives g found i) e;
    }
      where
        rests : (a : ℕ) (found : NumberSet) (b : Bool) → (not b || has found a) ≡ true → pick b (join found (single a)) found ≡ found
        rests a found true e = join_within found (single a) (within_single a found ∙ e)
        rests a found false e = refl

        adds : (a : ℕ) (found : NumberSet) → a < nonterminal_count g → (b : Bool) → (not b || has found a) ≡ false
            → size (nonterminal_count g) found < size (nonterminal_count g) (pick b (join found (single a)) found)
        adds a found h true e = size_grows (nonterminal_count g) found (single a) (single_below (nonterminal_count g) a h) (within_single a found ∙ e)
        adds a found h false e = absurd (true≢false e)

    productive_settled : all_collected g (productive g) ≡ true
    unfolding all_collected productive
    productive_settled =
        rounds_end (collect g) left_collected (size (nonterminal_count g)) (λ found. Unit {0}) (left_sides g) steps (nonterminal_count g)
        (λ found u. size_le (nonterminal_count g) found) (nonterminal_count g) 0 tt (omega arith)

    productive_complete : (a : ℕ) → DerivesTokens (Rule g) (nonterminal a ∷ []) → Has (productive g) a
    unfolding symbol_derives
    productive_complete a (ps, w, d) =
        let all = side_collected (productive g) productive_settled (trees_of_derivation (Rule g) w d) in
        (has_true (productive g) a).0 (each_true (symbol_derives (productive g)) {x = nonterminal a} here all)

    pub productive_derives : (a : ℕ) → Has (productive g) a ↔ DerivesTokens (Rule g) (nonterminal a ∷ [])
    productive_derives a = (productive_sound a, productive_complete a)
