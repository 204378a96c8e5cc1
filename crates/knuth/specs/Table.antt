-- Knuth's unlimited table, as a table in the sense of `rules`' run: its states are the stacks of symbols, with no number and no bound.
-- It shifts what some item of the stack awaits, reduces by the completed items of the stack, and goes over what some item awaits.
--
-- With 0: S→A b, 1: A→a the empty stack shifts a, the stack a reduces by 1 at b, and the empty stack goes over A.
use Rattle.std.specs.Prelude.{ℕ, ◌≡◌, ◌↔◌, List, [], ◌∷◌}
use Rattle.std.proofs.Math.Option.{Option, none, some}
use Rattle.rules.specs.Grammar.{Symbol, nonterminal, terminal}
use Rattle.rules.specs.Run.{Act, shift, reduce, no_act, Table}
use Rattle.knuth.specs.Items.{Awaits, Reduces}

module _ (Rule : ℕ → ℕ → List Symbol → Type 0) (S Eof : ℕ) where
  pub record KnuthTable (table : Table (List Symbol)) : Type 0 where
    pub bottom : table.bottom ≡ []
    pub shifts : (γ to : List Symbol) (t : ℕ) → (table.act γ t ≡ shift to) ↔ ((to ≡ terminal t ∷ γ) × Awaits Rule S Eof γ (terminal t))
    pub reduces : (γ : List Symbol) (t p : ℕ) → (table.act γ t ≡ reduce p) ↔ Reduces Rule S Eof γ p t
    pub goes : (γ to : List Symbol) (A : ℕ) → (table.goto γ A ≡ some to) ↔ ((to ≡ nonterminal A ∷ γ) × Awaits Rule S Eof γ (nonterminal A))

  -- ---- the table of decisions: which symbols a stack awaits, and whether it reduces at a token
  abbrev pub act_decided : (γ : List Symbol) (t : ℕ) → Dec (Awaits Rule S Eof γ (terminal t)) → Dec ((p : ℕ) × Reduces Rule S Eof γ p t) → Act (List Symbol)
  act_decided γ t (yes a) d = shift (terminal t ∷ γ)
  act_decided γ t (no n) (yes r) = reduce r.0
  act_decided γ t (no n) (no m) = no_act

  abbrev pub goto_decided : (γ : List Symbol) (A : ℕ) → Dec (Awaits Rule S Eof γ (nonterminal A)) → Option (List Symbol)
  goto_decided γ A (yes a) = some (nonterminal A ∷ γ)
  goto_decided γ A (no n) = none

  abbrev pub decided : ((γ : List Symbol) (x : Symbol) → Dec (Awaits Rule S Eof γ x))
      → ((γ : List Symbol) (t : ℕ) → Dec ((p : ℕ) × Reduces Rule S Eof γ p t)) → Table (List Symbol)
  decided awaits reduces = record {
    act = λ γ t. act_decided γ t (awaits γ (terminal t)) (reduces γ t);
    goto = λ γ A. goto_decided γ A (awaits γ (nonterminal A));
    bottom = [];
  }
