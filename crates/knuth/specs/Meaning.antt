-- What FIRST means, over any relation Rule p A η, "production p is A → η": which strings of symbols derive the empty string, which
-- tokens begin what a string derives, and which begin what a string derives when a token follows it.
use Rattle.std.specs.Prelude.{ℕ, List, [], ◌∷◌, ◌++◌}
use Rattle.rules.specs.Grammar.{Symbol, nonterminal, terminal}

module _ (Rule : ℕ → ℕ → List Symbol → Type 0) where
  -- φ derives the empty string
  pub data Null : List Symbol → Type 0 where
    null : Null []
    null_nonterminal : {p A : ℕ} {η φ : List Symbol} → Rule p A η → Null η → Null φ → Null (nonterminal A ∷ φ)

  -- φ derives a string that the terminal t begins
  pub data Begins (t : ℕ) : List Symbol → Type 0 where
    token : {φ : List Symbol} → Begins t (terminal t ∷ φ)
    inside : {p A : ℕ} {η φ : List Symbol} → Rule p A η → Begins t η → Begins t (nonterminal A ∷ φ)
    beyond : {p A : ℕ} {η φ : List Symbol} → Rule p A η → Null η → Begins t φ → Begins t (nonterminal A ∷ φ)

  -- φ followed by the token b derives a string that t begins
  pub data First : List Symbol → ℕ → ℕ → Type 0 where
    end : {b : ℕ} → First [] b b
    now : {b t : ℕ} {φ : List Symbol} → First (terminal t ∷ φ) b t
    expand : {p A b t : ℕ} {η φ : List Symbol} → Rule p A η → First (η ++ φ) b t → First (nonterminal A ∷ φ) b t
