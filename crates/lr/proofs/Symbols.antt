-- What the code's comparison of symbols says of the symbols that they name.
use Prim.Native.Nat.{ℕ}
use mathlib.Core.Path.{◌≡◌, sym, ap, ◌∙◌}
use mathlib.Core.Bool.{Bool, true, false, not, true≢false}
use native.Mathlib.Omega.{arith}
use borrow.Author.Tests.{eqb-true, eq-eqb, not-true, not-false}
use Rattle.rules.specs.Grammar.{nonterminal, terminal}
use Rattle.grammar.specs.declared.symbols.Symbol.{Symbol as Named}
use Rattle.grammar.specs.declared.symbols.Symbol.TheVariants.{Nonterminal, Terminal}
use Rattle.grammar.specs.contracts.symbols.SymbolPartialEq.TheImpl as Equal
use Rattle.grammar.specs.Symbols.{symbol_named}

module _ (r : Bool) where
  pub same_named : (a b : Named) → r ≡ not (Equal.ghosts.eq a b) → r ≡ false → symbol_named a ≡ symbol_named b
  same_named (Nonterminal x) (Nonterminal y) is e = ap nonterminal (eqb-true x y (not-false _ (sym is ∙ e)))
  same_named (Nonterminal x) (Terminal y) is e = absurd (true≢false (sym is ∙ e))
  same_named (Terminal x) (Nonterminal y) is e = absurd (true≢false (sym is ∙ e))
  same_named (Terminal x) (Terminal y) is e = ap terminal (eqb-true x y (not-false _ (sym is ∙ e)))

  pub other_named : (a b : Named) → r ≡ not (Equal.ghosts.eq a b) → r ≡ true → symbol_named a ≡ symbol_named b → ⊥
  other_named (Nonterminal x) (Nonterminal y) is e same = true≢false (sym (eq-eqb x y cc) ∙ not-true _ (sym is ∙ e))
  other_named (Nonterminal x) (Terminal y) is e same = let z : ◌≡◌ {A = ℕ} 0 1 = cc in omega arith
  other_named (Terminal x) (Nonterminal y) is e same = let z : ◌≡◌ {A = ℕ} 0 1 = cc in omega arith
  other_named (Terminal x) (Terminal y) is e same = true≢false (sym (eq-eqb x y cc) ∙ not-true _ (sym is ∙ e))
