-- The handle of a tree in Knuth's first wording: the leftmost set of adjacent leaves that forms a complete branch. Over any relation
-- Rule p A η, "production p is A → η". A leaf may be a nonterminal.
--
-- With 0: S→C C t, 1: C→ε the leaves C t have two trees under S: the first C has a branch and the second is a leaf, or the other way
-- round. The handle of the one is (0, 1), that of the other (1, 1).
use Rattle.std.specs.Prelude.{ℕ, suc, List, [], ◌∷◌, ◌++◌, length}
use Rattle.rules.specs.Grammar.{Symbol, nonterminal}

module _ (Rule : ℕ → ℕ → List Symbol → Type 0) where
  -- a tree for each symbol of φ, beside one another, with the leaves ψ: a symbol is a leaf, or a branch grows from it
  pub data Grown : List Symbol → List Symbol → Type 0 where
    nothing : Grown [] []
    stays : {x : Symbol} {φ ψ : List Symbol} → Grown φ ψ → Grown (x ∷ φ) (x ∷ ψ)
    grows : {p A : ℕ} {η φ χ ψ : List Symbol} → Rule p A η → Grown η χ → Grown φ ψ → Grown (nonterminal A ∷ φ) (χ ++ ψ)

  -- such trees, whose leftmost complete branch is by production p and ends with the n-th leaf: the first tree has leaves alone, or the
  -- branch lies within it, or the first tree is a leaf and the branch lies further on
  pub data LeftmostBranch : List Symbol → List Symbol → ℕ → ℕ → Type 0 where
    whole : {p A : ℕ} {η φ ψ : List Symbol} → Rule p A η → Grown φ ψ → LeftmostBranch (nonterminal A ∷ φ) (η ++ ψ) (length η) p
    deeper : {p q A n : ℕ} {η φ χ ψ : List Symbol}
        → Rule q A η → LeftmostBranch η χ n p → Grown φ ψ → LeftmostBranch (nonterminal A ∷ φ) (χ ++ ψ) n p
    further : {x : Symbol} {p n : ℕ} {φ ψ : List Symbol} → LeftmostBranch φ ψ n p → LeftmostBranch (x ∷ φ) (x ∷ ψ) (suc n) p
