-- Rightmost derivations and derivation trees, over any relation Rule p A η, "production p is A → η".
--
-- With 0: S→A b, 1: A→a the string S derives A b by production 0, and then a b by production 1. The tree of a b under S has, children
-- first, the productions 1 0.
use Rattle.std.specs.Prelude.{ℕ, ◌≡◌, List, [], ◌∷◌, ◌++◌}
use Rattle.rules.specs.Grammar.{Symbol, nonterminal, terminal}

-- tokens as a string of symbols
abbrev pub tokens : List ℕ → List Symbol
tokens [] = []
tokens (t ∷ w) = terminal t ∷ tokens w

-- the token that comes next: the first of w, or b behind them
abbrev pub next : ℕ → List ℕ → ℕ
next b [] = b
next b (t ∷ w) = t

module _ (Rule : ℕ → ℕ → List Symbol → Type 0) where
  -- φ becomes ψ by one rightmost step with production p: behind the nonterminal that it replaces stand only tokens
  pub record Step (p : ℕ) (φ ψ : List Symbol) : Type 0 where
    pub before : List Symbol
    pub head : ℕ
    pub body : List Symbol
    pub behind : List ℕ
    pub rule : Rule p head body
    pub from : φ ≡ before ++ (nonterminal head ∷ tokens behind)
    pub to : ψ ≡ before ++ (body ++ tokens behind)

  -- φ derives ψ by rightmost steps with the productions ps, the first step's first
  pub data Derives : List Symbol → List ℕ → List Symbol → Type 0 where
    done : {φ : List Symbol} → Derives φ [] φ
    step : {p : ℕ} {ps : List ℕ} {φ ψ χ : List Symbol} → Step p φ ψ → Derives ψ ps χ → Derives φ (p ∷ ps) χ

  -- a tree for each symbol of φ, beside one another: the leaves are the tokens w, the productions, children first, are ps
  pub data Trees : List Symbol → List ℕ → List ℕ → Type 0 where
    none : Trees [] [] []
    leaf : {t : ℕ} {φ : List Symbol} {ps w : List ℕ} → Trees φ ps w → Trees (terminal t ∷ φ) ps (t ∷ w)
    node : {p A : ℕ} {η φ : List Symbol} {ps qs u v : List ℕ}
        → Rule p A η → Trees η ps u → Trees φ qs v → Trees (nonterminal A ∷ φ) (ps ++ (p ∷ qs)) (u ++ v)

  -- ---- refusal 8's rule
  abbrev pub DerivesTokens : List Symbol → Type 0
  DerivesTokens φ = (ps : List ℕ) × (w : List ℕ) × Derives φ ps (tokens w)

  -- each nonterminal of φ derives tokens
  abbrev pub Fruitful : List Symbol → Type 0
  Fruitful [] = Unit {0}
  Fruitful (terminal t ∷ φ) = Fruitful φ
  Fruitful (nonterminal A ∷ φ) = DerivesTokens (nonterminal A ∷ []) × Fruitful φ

  -- each nonterminal of every right side derives tokens
  abbrev pub Productive : Type 0
  Productive = (p A : ℕ) (η : List Symbol) → Rule p A η → Fruitful η
