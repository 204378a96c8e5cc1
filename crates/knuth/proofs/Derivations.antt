-- Rightmost derivations: one after another, between a string and tokens, and side by side.
use Prim.Native.Nat.{ℕ}
use mathlib.Core.Path.{◌≡◌, refl, ap}
use mathlib.Core.Logic.{◌⊎◌, inl, inr}
use mathlib.Core.List.{List, [], ◌∷◌, ◌++◌, append_assoc, append-nil}
use Rattle.rules.specs.Grammar.{Symbol, nonterminal, terminal}
use Rattle.knuth.specs.Derivations.{tokens, Step, Derives, done, step}

pub tokens_append : (u v : List ℕ) → tokens (u ++ v) ≡ tokens u ++ tokens v
tokens_append [] v = refl
tokens_append (t ∷ u) v = ap {B = List Symbol} (λ φ. terminal t ∷ φ) (tokens_append u v)

module _ (Rule : ℕ → ℕ → List Symbol → Type 0) where
  pub derives_then : {φ ψ χ : List Symbol} {ps qs : List ℕ} → Derives Rule φ ps ψ → Derives Rule ψ qs χ → Derives Rule φ (ps ++ qs) χ
  derives_then done e = e
  derives_then (step s d) e = step s (derives_then d e)

  -- ---- between a string and tokens
  abbrev pub step_between : {φ ψ : List Symbol} {p : ℕ} (δ : List Symbol) (v : List ℕ) → Step Rule p φ ψ
      → Step Rule p (δ ++ (φ ++ tokens v)) (δ ++ (ψ ++ tokens v))
  step_between δ v s = record {
    before = δ ++ s.before;
    head = s.head;
    body = s.body;
    behind = s.behind ++ v;
    rule = s.rule;
    from = rw s.from (simp (append_assoc, tokens_append));
    to = rw s.to (simp (append_assoc, tokens_append));
  }

  pub derives_between : {φ ψ : List Symbol} {ps : List ℕ} (δ : List Symbol) (v : List ℕ) → Derives Rule φ ps ψ
      → Derives Rule (δ ++ (φ ++ tokens v)) ps (δ ++ (ψ ++ tokens v))
  derives_between δ v done = done
  derives_between δ v (step s d) = step (step_between δ v s) (derives_between δ v d)

  pub derives_behind : {φ ψ : List Symbol} {ps : List ℕ} (δ : List Symbol) → Derives Rule φ ps ψ → Derives Rule (δ ++ φ) ps (δ ++ ψ)
  derives_behind δ d = simp append-nil at (derives_between δ [] d)

  -- a production between a string and tokens
  abbrev pub rule_step : {p A : ℕ} {η : List Symbol} (δ : List Symbol) (v : List ℕ) → Rule p A η
      → Step Rule p (δ ++ (nonterminal A ∷ tokens v)) (δ ++ (η ++ tokens v))
  rule_step {A} {η} δ v r = record { before = δ; head = A; body = η; behind = v; rule = r; from = refl; to = refl }

  -- the last step of a derivation
  pub last_step : {φ ψ : List Symbol} {ps : List ℕ} → Derives Rule φ ps ψ
      → (φ ≡ ψ) ⊎ ((qs : List ℕ) × (p : ℕ) × (χ : List Symbol) × Derives Rule φ qs χ × Step Rule p χ ψ)
  last_step done = inl refl
  last_step {φ} {ψ} (step {p} {ψ = χ} s d) = go (last_step d)
    where
      go : (χ ≡ ψ) ⊎ ((qs : List ℕ) × (q : ℕ) × (ω : List Symbol) × Derives Rule χ qs ω × Step Rule q ω ψ)
          → (φ ≡ ψ) ⊎ ((qs : List ℕ) × (q : ℕ) × (ω : List Symbol) × Derives Rule φ qs ω × Step Rule q ω ψ)
      go (inl e) = inr ([], p, φ, done, rw e at s)
      go (inr (qs, q, ω, e, s')) = inr (p ∷ qs, q, ω, step s e, s')
