-- Example 8 of document 01, S'→E; E→E a E, b, is not LR(1): E a E a b has handle (3, 1), and it has handle (5, 2).
use Prim.Native.Nat.{ℕ}
use mathlib.Core.Path.{◌≡◌, refl}
use mathlib.Core.List.{List, [], ◌∷◌}
use native.Mathlib.Omega.{arith}
use Rattle.rules.specs.Records.{records, at}
use Rattle.rules.specs.Grammar.{Symbol, nonterminal, terminal, symbols_behind, start}
use Rattle.knuth.specs.Rules.{Rule}
use Rattle.knuth.specs.Derivations.{done, step}
use Rattle.knuth.specs.LR1.{Handle, IsLR1}
use Rattle.rules.proofs.Examples.{example8}
use Rattle.knuth.proofs.Derivations.{rule_step}

abbrev E : Symbol
E = nonterminal 1

abbrev a : Symbol
a = terminal 0

abbrev b : Symbol
b = terminal 1

abbrev EaEab : List Symbol
EaEab = E ∷ a ∷ E ∷ a ∷ b ∷ []

rule0 : Rule (records example8) 0 (start (records example8)) (E ∷ [])
unfolding records example8 at symbols_behind start
rule0 = record { left_side = 0; within = omega arith; position = refl; number = refl; left = refl; right = refl }

rule1 : Rule (records example8) 1 1 (E ∷ a ∷ E ∷ [])
unfolding records example8 at symbols_behind
rule1 = record { left_side = 2; within = omega arith; position = refl; number = refl; left = refl; right = refl }

rule2 : Rule (records example8) 2 1 (b ∷ [])
unfolding records example8 at symbols_behind
rule2 = record { left_side = 6; within = omega arith; position = refl; number = refl; left = refl; right = refl }

-- S', E, E a E, E a b, (E a E) a b
first_handle : Handle (Rule (records example8)) (start (records example8)) EaEab 3 1
first_handle = record {
  form = E ∷ a ∷ b ∷ [];
  by = 0 ∷ 1 ∷ 2 ∷ [];
  derivation =
      step (rule_step (Rule (records example8)) [] [] rule0)
      (step (rule_step (Rule (records example8)) [] [] rule1) (step (rule_step (Rule (records example8)) (E ∷ a ∷ []) [] rule2) done));
  last = rule_step (Rule (records example8)) [] (0 ∷ 1 ∷ []) rule1;
  end = refl;
}

-- S', E, E a E, E a E a E, E a E a (b)
second_handle : Handle (Rule (records example8)) (start (records example8)) EaEab 5 2
second_handle = record {
  form = E ∷ a ∷ E ∷ a ∷ E ∷ [];
  by = 0 ∷ 1 ∷ 1 ∷ [];
  derivation =
      step (rule_step (Rule (records example8)) [] [] rule0)
      (step (rule_step (Rule (records example8)) [] [] rule1) (step (rule_step (Rule (records example8)) (E ∷ a ∷ []) [] rule1) done));
  last = rule_step (Rule (records example8)) (E ∷ a ∷ E ∷ a ∷ []) [] rule2;
  end = refl;
}

pub example8_is_not_LR1 : IsLR1 (records example8) → ⊥
example8_is_not_LR1 lr1 =
    let same_end : ◌≡◌ {A = ℕ} 5 3 = (lr1 (E ∷ a ∷ E ∷ []) (0 ∷ 1 ∷ []) (0 ∷ 1 ∷ []) 1 5 2 first_handle second_handle refl).0 in
    omega arith
