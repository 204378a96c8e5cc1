-- Knuth's items, over any relation Rule p A η, a start S and an end mark Eof. γ is the stack of symbols that a parser has before it,
-- the last symbol first. At γ p A α β t: with γ read, the item A → α · β of production p, token t, may be at work. α is a stack too.
-- Nothing bounds γ: these are the states of Knuth's unlimited table.
--
-- With 0: S→A b, 1: A→a the empty stack has S → · A b with Eof and A → · a with b; the stack a has A → a · with b.
use Rattle.std.specs.Prelude.{ℕ, ◌≡◌}
use mathlib.Core.List.{List, [], ◌∷◌, ◌++◌, reverse, reverse_aux}
use Rattle.rules.specs.Grammar.{Symbol, nonterminal}
use Rattle.knuth.specs.Derivations.{tokens, next, Derives}
use Rattle.knuth.specs.Meaning.{First}

module _ (Rule : ℕ → ℕ → List Symbol → Type 0) (S Eof : ℕ) where
  pub data At : List Symbol → ℕ → ℕ → List Symbol → List Symbol → ℕ → Type 0 where
    begin : {p : ℕ} {η : List Symbol} → Rule p S η → At [] p S [] η Eof
    move : {γ α β : List Symbol} {p A t : ℕ} {x : Symbol} → At γ p A α (x ∷ β) t → At (x ∷ γ) p A (x ∷ α) β t
    close : {γ α β η : List Symbol} {p q A B t u : ℕ}
        → At γ p A α (nonterminal B ∷ β) t → Rule q B η → First Rule β t u → At γ q B [] η u

  -- some item of γ has x right behind the dot
  pub record Awaits (γ : List Symbol) (x : Symbol) : Type 0 where
    pub production : ℕ
    pub left : ℕ
    pub α : List Symbol
    pub β : List Symbol
    pub token : ℕ
    pub item : At γ production left α (x ∷ β) token

  -- a completed item of production p is at γ with the token t
  pub record Reduces (γ : List Symbol) (p t : ℕ) : Type 0 where
    pub left : ℕ
    pub α : List Symbol
    pub item : At γ p left α [] t

  -- the item A → α · β of production p with token t is valid at γ: γ is δ α, and S derives δ A w by rightmost steps, where t comes next
  -- in w
  pub record Valid (γ : List Symbol) (p A : ℕ) (α β : List Symbol) (t : ℕ) : Type 0 where
    pub under : List Symbol
    pub rest : List ℕ
    pub by : List ℕ
    pub form : Derives Rule (nonterminal S ∷ []) by (reverse under ++ (nonterminal A ∷ tokens rest))
    pub rule : Rule p A (reverse_aux α β)
    pub stack : γ ≡ α ++ under
    pub token : t ≡ next Eof rest
