-- The handle of a form γ v, γ being read, ends with γ or past it. That shows what is to be done at γ, and what is done keeps it so.
use Prim.Native.Nat.{ℕ}
use mathlib.Core.Path.{◌≡◌, refl, sym, ap, ap₂, ◌∙◌}
use mathlib.Core.Logic.{◌⊎◌, inl, inr}
use mathlib.Core.List.{List, [], ◌∷◌, ◌++◌, reverse, reverse_aux-eq, append_assoc, reverse-reverse, nil≢cons, tail-eq_of_cons-eq}
use lib.ListN.{length}
use Rattle.rules.specs.Grammar.{Symbol, nonterminal, terminal}
use Rattle.knuth.specs.Derivations.{tokens, next, Step, Derives, done, step}
use Rattle.knuth.specs.Items.{At, Awaits, Reduces}
use Rattle.knuth.proofs.Strings.{Past, Ends, ends, where_stands, no_nonterminal_in_tokens}
use Rattle.knuth.proofs.LR1.{handle_item, past_behind}

-- the empty string, and one that ends with a nonterminal, do not end with tokens
no_token_in_nothing : (ψ : List Symbol) (t : ℕ) (w : List ℕ) → [] ≡ ψ ++ (terminal t ∷ tokens w) → ⊥
no_token_in_nothing [] t w e = nil≢cons e
no_token_in_nothing (x ∷ ψ) t w e = nil≢cons e

no_token_last : (δ : List Symbol) (A : ℕ) (ψ : List Symbol) (t : ℕ) (w : List ℕ) → δ ++ (nonterminal A ∷ []) ≡ ψ ++ (terminal t ∷ tokens w) → ⊥
no_token_last δ A ψ t w e = go (where_stands ψ (tokens (t ∷ w)) δ (nonterminal A) [] (sym e))
  where
    go : ((ν : List Symbol) × (ψ ≡ δ ++ (nonterminal A ∷ ν)) × ([] ≡ ν ++ tokens (t ∷ w)))
        ⊎ ((μ : List Symbol) × (δ ≡ ψ ++ μ) × (tokens (t ∷ w) ≡ μ ++ (nonterminal A ∷ []))) → ⊥
    go (inl (ν, _, q)) = no_token_in_nothing ν t w q
    go (inr (μ, _, q)) = no_nonterminal_in_tokens (t ∷ w) μ A [] q

module _ (Rule : ℕ → ℕ → List Symbol → Type 0) where
  -- the last step of a derivation that has one, with the productions before it
  pub record Last (φ : List Symbol) (ps : List ℕ) (ψ : List Symbol) : Type 0 where
    pub by : List ℕ
    pub production : ℕ
    pub form : List Symbol
    pub derivation : Derives Rule φ by form
    pub last : Step Rule production form ψ
    pub whole : by ++ (production ∷ []) ≡ ps

  pub last_of : {φ χ ψ : List Symbol} {p : ℕ} {ps : List ℕ} → Step Rule p φ χ → Derives Rule χ ps ψ → Last φ (p ∷ ps) ψ
  last_of s done = record { by = []; production = _; form = _; derivation = done; last = s; whole = refl }
  last_of {p = p} s (step s' d) =
      let q = last_of s' d in
      record { by = p ∷ q.by; production = q.production; form = q.form; derivation = step s q.derivation; last = q.last; whole = ap₂ ◌∷◌ refl q.whole }

  -- the right side that a step puts there ends with γ, before v; or it ends past γ, with a token of v
  abbrev pub AtTop : {p : ℕ} {φ ψ : List Symbol} → Step Rule p φ ψ → List Symbol → List ℕ → Type 0
  AtTop s γ v = (s.before ++ s.body ≡ reverse γ) × (s.behind ≡ v)

  abbrev pub PastTop : {p : ℕ} {φ ψ : List Symbol} → Step Rule p φ ψ → List Symbol → List ℕ → Type 0
  PastTop s γ v = Past (s.before ++ s.body) s.behind (reverse γ) v

  module _ (S Eof : ℕ) where
    -- S derives γ v, last by production p, whose right side ends with γ or past it
    pub record HandleAhead (γ : List Symbol) (v qs : List ℕ) (p : ℕ) : Type 0 where
      pub form : List Symbol
      pub derivation : Derives Rule (nonterminal S ∷ []) qs form
      pub last : Step Rule p form (reverse γ ++ tokens v)
      pub place : AtTop last γ v ⊎ PastTop last γ v

    -- ---- what is to be done
    module _ {γ : List Symbol} {v qs : List ℕ} {p : ℕ} (a : HandleAhead γ v qs p) where
      abbrev s : Step Rule p a.form (reverse γ ++ tokens v)
      s = a.last

      item : At Rule S Eof (reverse (s.before ++ s.body)) p s.head (reverse s.body) [] (next Eof s.behind)
      item = handle_item Rule S Eof {n = length (s.before ++ s.body)} (record { form = a.form; by = _; derivation = a.derivation; last = s; end = refl })

      pub handle_at_top_reduces : AtTop s γ v → Reduces Rule S Eof γ p (next Eof v)
      handle_at_top_reduces (e, q) = go (reverse-reverse γ) e q item
        where
          go : {φ δ α : List Symbol} {u : List ℕ} {A : ℕ} → reverse δ ≡ γ → φ ≡ δ → u ≡ v → At Rule S Eof (reverse φ) p A α [] (next Eof u)
              → Reduces Rule S Eof γ p (next Eof v)
          go {α = α} {A = A} e₁ e₂ e₃ i = record { left = A; α = α; item = rw (← e₁, ← e₂, ← e₃) i }

      pub handle_past_top_awaits : (l : PastTop s γ v) → Awaits Rule S Eof γ (terminal l.token)
      handle_past_top_awaits l = rw (reverse-reverse γ) at (past_behind Rule S Eof l item)

    -- ---- it stays so
    -- a last step whose right side cannot end before γ, since tokens would stand there
    ahead : (γ : List Symbol) (v : List ℕ) {qs : List ℕ} {form : List Symbol} {p : ℕ}
        → ((ψ : List Symbol) (t : ℕ) (u : List ℕ) → reverse γ ≡ ψ ++ (terminal t ∷ tokens u) → ⊥)
        → Derives Rule (nonterminal S ∷ []) qs form → Step Rule p form (reverse γ ++ tokens v) → HandleAhead γ v qs p
    ahead γ v no_token_lem d s =
        let e : (s.before ++ s.body) ++ tokens s.behind ≡ reverse γ ++ tokens v = append_assoc s.before s.body (tokens s.behind) ∙ sym s.to in
        record { form = _; derivation = d; last = s; place = go (ends (s.before ++ s.body) (reverse γ) s.behind v e) }
      where
        go : Ends (s.before ++ s.body) s.behind (reverse γ) v → AtTop s γ v ⊎ PastTop s γ v
        go (inl e) = inl e
        go (inr (inl l)) = inr l
        go (inr (inr l)) = absurd (no_token_lem (s.before ++ s.body) l.token l.more l.longer)

    -- at the beginning, with nothing read,
    pub handle_at_first : {form : List Symbol} {w qs : List ℕ} {p : ℕ} → Derives Rule (nonterminal S ∷ []) qs form → Step Rule p form (tokens w) → HandleAhead [] w qs p
    handle_at_first {w = w} = ahead [] w no_token_in_nothing

    -- after a reduction, with a nonterminal on top,
    pub handle_after_reduction : (δ : List Symbol) (A : ℕ) (v : List ℕ) {qs : List ℕ} {form : List Symbol} {p : ℕ}
        → Derives Rule (nonterminal S ∷ []) qs form → Step Rule p form (reverse (nonterminal A ∷ δ) ++ tokens v) → HandleAhead (nonterminal A ∷ δ) v qs p
    handle_after_reduction δ A v = ahead (nonterminal A ∷ δ) v (λ ψ t u e. no_token_last (reverse δ) A ψ t u (sym (reverse_aux-eq δ (nonterminal A ∷ [])) ∙ e))

    -- and after a shift: one token less is past γ
    pub handle_after_shift : (γ : List Symbol) (t : ℕ) {v v' qs : List ℕ} {p : ℕ} (a : HandleAhead γ v qs p) (l : PastTop a.last γ v)
        → l.token ≡ t → v ≡ t ∷ v' → HandleAhead (terminal t ∷ γ) v' qs p
    handle_after_shift γ t {v} {v'} {p = p} a l same e = record {
      form = a.form;
      derivation = a.derivation;
      last = s';
      place = go l.more (l.longer ∙ ap (λ k. reverse γ ++ (terminal k ∷ tokens l.more)) same) (tail-eq_of_cons-eq (sym e ∙ l.rest));
    }
      where
        -- t behind the read part is t on top of it
        on_top : (χ : List Symbol) → reverse (terminal t ∷ γ) ++ χ ≡ reverse γ ++ (terminal t ∷ χ)
        on_top χ = ap (λ φ. φ ++ χ) (reverse_aux-eq γ (terminal t ∷ [])) ∙ append_assoc (reverse γ) (terminal t ∷ []) χ

        s : Step Rule p a.form (reverse γ ++ tokens v)
        s = a.last

        s' : Step Rule p a.form (reverse (terminal t ∷ γ) ++ tokens v')
        s' = record {
          before = s.before;
          head = s.head;
          body = s.body;
          behind = s.behind;
          rule = s.rule;
          from = s.from;
          to = on_top (tokens v') ∙ ap (λ u. reverse γ ++ tokens u) (sym e) ∙ s.to;
        }

        go : (more : List ℕ) → s.before ++ s.body ≡ reverse γ ++ (terminal t ∷ tokens more) → v' ≡ more ++ s.behind
            → AtTop s' (terminal t ∷ γ) v' ⊎ PastTop s' (terminal t ∷ γ) v'
        go [] e₁ e₂ = inl (e₁ ∙ sym (reverse_aux-eq γ (terminal t ∷ [])), sym e₂)
        go (u ∷ more) e₁ e₂ = inr (record { token = u; more = more; longer = e₁ ∙ sym (on_top (terminal u ∷ tokens more)); rest = e₂ })
