-- The terminals of every string that a nonterminal of a grammar derives are below n, the number of terminals. So Eof, which is n, is none of
-- them.
use Prim.Native.Nat.{ℕ}
use mathlib.Core.Path.{◌≡◌}
use mathlib.Core.Logic.{⊎_elim}
use mathlib.Core.List.{List, [], ◌∷◌}
use native.Mathlib.Omega.{arith}
use Rattle.base.specs.Among.{Among, later}
use Rattle.base.proofs.Lists.{among_none, among_cons}
use Rattle.base.proofs.Members.{among_append, append_left, append_right}
use Rattle.rules.specs.Records.{Grammar}
use Rattle.rules.specs.Grammar.{Symbol, nonterminal, terminal, terminal_count}
use Rattle.knuth.specs.Rules.{Rule}
use Rattle.knuth.specs.Derivations.{Step, Derives, done, step}
use Rattle.knuth.specs.Coded.{TerminalsBelow}
use Rattle.knuth.proofs.Productions.{terminals_below}

module _ (g : Grammar) where
  abbrev n : ℕ
  n = terminal_count g

  -- what a step puts there is a right side, and the rest stood there before
  below_step : {p : ℕ} {φ ψ : List Symbol} → Step (Rule g) p φ ψ → TerminalsBelow n φ → TerminalsBelow n ψ
  below_step s below t m =
      ⊎_elim (λ k. below t (rw s.from (append_left _ k)))
      (λ k. ⊎_elim (λ j. terminals_below g s.rule.left_side t (rw s.rule.right j))
      (λ j. below t (rw s.from (append_right s.before (later j)))) (among_append s.body k))
      (among_append s.before (rw s.to at m))

  below_derived : {ps : List ℕ} {φ ψ : List Symbol} → Derives (Rule g) φ ps ψ → TerminalsBelow n φ → TerminalsBelow n ψ
  below_derived done below = below
  below_derived (step s d) below = below_derived d (below_step s below)

  below_nonterminal : (A : ℕ) → TerminalsBelow n (nonterminal A ∷ [])
  below_nonterminal A t m = ⊎_elim (λ e. let z : ◌≡◌ {A = ℕ} 0 1 = cc in absurd (omega arith)) (λ k. absurd (among_none k)) (among_cons m)

  pub no_eof_derived : {A : ℕ} {ps : List ℕ} {φ : List Symbol} → Derives (Rule g) (nonterminal A ∷ []) ps φ → Among (terminal n) φ → ⊥
  no_eof_derived {A} d m = omega (arith, below_derived d (below_nonterminal A) n m)
