-- Knuth's items of a stack of symbols are the valid ones, both ways.
use Prim.Native.Nat.{ℕ}
use mathlib.Core.Path.{◌≡◌, refl, sym, ◌∙◌, ap₂}
use mathlib.Core.Logic.{inl, inr}
use mathlib.Core.List.{List, [], ◌∷◌, ◌++◌, reverse, reverse_aux, append_assoc, nil≢cons, head-eq_of_cons-eq, tail-eq_of_cons-eq, reverse_aux-eq, reverse-append, reverse_aux-append, reverse-reverse}
use Rattle.rules.specs.Grammar.{Symbol, nonterminal}
use Rattle.knuth.specs.Derivations.{tokens, next, Step, Derives, done, step, Productive}
use Rattle.knuth.specs.Meaning.{First, end}
use Rattle.knuth.specs.Items.{At, begin, move, close, Awaits, Valid}
use Rattle.knuth.proofs.Strings.{Stands, where_stands, no_nonterminal_in_tokens}
use Rattle.knuth.proofs.Derivations.{tokens_append, derives_then, derives_between, rule_step}
use Rattle.knuth.proofs.Productive.{fruitful_behind}
use Rattle.knuth.proofs.First.{first_of_tokens, first_before_tokens, first_unexpanded, first_derives}

module _ (Rule : ℕ → ℕ → List Symbol → Type 0) (S Eof : ℕ) where
  pub moved_over : {γ α β : List Symbol} {p A t : ℕ} (η : List Symbol) → At Rule S Eof γ p A α (η ++ β) t
      → At Rule S Eof (reverse_aux η γ) p A (reverse_aux η α) β t
  moved_over [] i = i
  moved_over (x ∷ η) i = moved_over η (move i)

  -- ---- a symbol that was read stood behind the dot of some item
  pub read_behind : {γ α β : List Symbol} {p A t : ℕ} {x : Symbol} → At Rule S Eof (x ∷ γ) p A α β t → Awaits Rule S Eof γ x
  read_behind (move i) = record { production = _; left = _; α = _; β = _; token = _; item = i }
  read_behind (close i r f) = read_behind i

  -- ---- every production that a rightmost derivation may use next is an item of the stack left of it
  abbrev Reached : List Symbol → Type 0
  Reached φ = (p A t : ℕ) (η δ ρ : List Symbol) → φ ≡ δ ++ (nonterminal A ∷ ρ) → Rule p A η → First Rule ρ Eof t
      → At Rule S Eof (reverse δ) p A [] η t

  reached_start : Reached (nonterminal S ∷ [])
  reached_start p A t η [] ρ e r f = go (cc (head-eq_of_cons-eq e)) (rw (← tail-eq_of_cons-eq e) at f)
    where
      go : {u : ℕ} → A ≡ S → First Rule [] Eof u → At Rule S Eof [] p A [] η u
      go e' end = rw e' (begin (rw e' at r))
  reached_start p A t η (x ∷ []) ρ e r f = absurd (nil≢cons (tail-eq_of_cons-eq e))
  reached_start p A t η (x ∷ y ∷ δ) ρ e r f = absurd (nil≢cons (tail-eq_of_cons-eq e))

  reached_step : {q : ℕ} {φ ψ : List Symbol} → Step Rule q φ ψ → Reached φ → Reached ψ
  reached_step {q} s reached p A t η δ ρ e r f =
      go (where_stands s.before (s.body ++ tokens s.behind) δ (nonterminal A) ρ (sym s.to ∙ e))
    where
      -- in the right side of the step, ν behind it
      in_body : (μ : List Symbol) → δ ≡ s.before ++ μ → Stands s.body (tokens s.behind) μ (nonterminal A) ρ → At Rule S Eof (reverse δ) p A [] η t
      in_body μ e₁ (inr (μ', _, e₂)) = absurd (no_nonterminal_in_tokens s.behind μ' A ρ e₂)
      in_body μ e₁ (inl (ν, e₂, e₃)) =
          let i : At Rule S Eof (reverse s.before) q s.head [] (μ ++ (nonterminal A ∷ ν)) (next Eof s.behind) =
          rw e₂ at (reached q s.head _ _ s.before (tokens s.behind) s.from s.rule (first_of_tokens Rule Eof s.behind)) in
          let j : At Rule S Eof (reverse (s.before ++ μ)) p A [] η t =
          rw reverse_aux-append (close (moved_over μ i) r (first_before_tokens Rule ν s.behind (rw e₃ at f))) in
          rw e₁ j

      go : Stands s.before (s.body ++ tokens s.behind) δ (nonterminal A) ρ → At Rule S Eof (reverse δ) p A [] η t
      go (inl (ν, e₁, e₂)) =
          reached p A t η δ (ν ++ (nonterminal s.head ∷ tokens s.behind)) (s.from ∙ rw e₁ (append_assoc δ (nonterminal A ∷ ν) _)) r
          (first_unexpanded Rule ν (tokens s.behind) s.rule (rw e₂ at f))
      go (inr (μ, e₁, e₂)) = in_body μ e₁ (where_stands s.body (tokens s.behind) μ (nonterminal A) ρ e₂)

  reached_derived : {φ ψ : List Symbol} {ps : List ℕ} → Derives Rule φ ps ψ → Reached φ → Reached ψ
  reached_derived done h = h
  reached_derived (step s d) h = reached_derived d (reached_step s h)

  -- S derives δ A w, and production p is A → η: the stack δ has A → · η with the token next in w
  pub derived_item : (δ : List Symbol) (w : List ℕ) {η : List Symbol} {p A : ℕ} {ps : List ℕ}
      → Derives Rule (nonterminal S ∷ []) ps (δ ++ (nonterminal A ∷ tokens w)) → Rule p A η → At Rule S Eof (reverse δ) p A [] η (next Eof w)
  derived_item δ w {η} {p} {A} d r =
      reached_derived d reached_start p A (next Eof w) η δ (tokens w) refl r (first_of_tokens Rule Eof w)

  pub valid→at : {γ α β : List Symbol} {p A t : ℕ} → Valid Rule S Eof γ p A α β t → At Rule S Eof γ p A α β t
  valid→at {γ} {α} {β} {p} {A} {t} v =
      let i : At Rule S Eof v.under p A [] (reverse α ++ β) (next Eof v.rest) =
      rw (reverse-reverse, reverse_aux-eq α β) at (derived_item (reverse v.under) v.rest v.form v.rule) in
      let j : At Rule S Eof (reverse_aux (reverse α) v.under) p A (reverse_aux (reverse α) []) β (next Eof v.rest) = moved_over (reverse α) i in
      rw (v.stack, v.token) (rw (reverse_aux-eq (reverse α) v.under, reverse-reverse α) at j)

  -- ---- and every item is valid, by refusal 8's rule
  -- the string of a valid item, with its production used
  pub valid_string : {γ α β : List Symbol} {p A t : ℕ} (v : Valid Rule S Eof γ p A α β t) (χ : List Symbol)
      → reverse v.under ++ (reverse_aux α β ++ χ) ≡ reverse γ ++ (β ++ χ)
  valid_string {γ} {α} {β} v χ = rw (v.stack, reverse-append α v.under, reverse_aux-eq α β) (simp append_assoc)

  pub valid_used : {γ α β : List Symbol} {p A t : ℕ} (v : Valid Rule S Eof γ p A α β t)
      → Derives Rule (nonterminal S ∷ []) (v.by ++ (p ∷ [])) (reverse γ ++ (β ++ tokens v.rest))
  valid_used v = rw (valid_string v (tokens v.rest)) at (derives_then Rule v.form (step (rule_step Rule (reverse v.under) v.rest v.rule) done))

  -- S derives γ B β w, and so γ B x w
  close_valid : Productive Rule → {γ α β η : List Symbol} {p q A B t u : ℕ}
      → Valid Rule S Eof γ p A α (nonterminal B ∷ β) t → Rule q B η → First Rule β t u → Valid Rule S Eof γ q B [] η u
  close_valid productive {γ} {α} {β} {p = p} {A = A} {B = B} v r f =
      let (ps, x, d, e) = first_derives Rule productive (fruitful_behind Rule α (nonterminal B ∷ β) (productive p A _ v.rule)).1 f in
      let δ : List Symbol = reverse γ ++ (nonterminal B ∷ []) in
      let d₁ : Derives Rule (nonterminal S ∷ []) (v.by ++ (p ∷ [])) (δ ++ (β ++ tokens v.rest)) = rw append_assoc (valid_used v) in
      let d₂ : Derives Rule (δ ++ (β ++ tokens v.rest)) ps (δ ++ (tokens x ++ tokens v.rest)) = derives_between Rule δ v.rest d in
      let e₁ : δ ++ (tokens x ++ tokens v.rest) ≡ reverse γ ++ (nonterminal B ∷ tokens (x ++ v.rest)) = simp (append_assoc, tokens_append) in
      record {
        under = γ;
        rest = x ++ v.rest;
        by = (v.by ++ (p ∷ [])) ++ ps;
        form = rw e₁ at (derives_then Rule d₁ d₂);
        rule = r;
        stack = refl;
        token = e ∙ next_behind x v.rest v.token;
      }
    where
      next_behind : {b : ℕ} (x w : List ℕ) → b ≡ next Eof w → next b x ≡ next Eof (x ++ w)
      next_behind [] w h = h
      next_behind (t ∷ x) w h = refl

  pub at→valid : Productive Rule → {γ α β : List Symbol} {p A t : ℕ} → At Rule S Eof γ p A α β t → Valid Rule S Eof γ p A α β t
  at→valid productive (begin r) = record { under = []; rest = []; by = []; form = done; rule = r; stack = refl; token = refl }
  at→valid productive (move i) =
      let v = at→valid productive i in
      record { under = v.under; rest = v.rest; by = v.by; form = v.form; rule = v.rule; stack = ap₂ ◌∷◌ refl v.stack; token = v.token }
  at→valid productive (close i r f) = close_valid productive (at→valid productive i) r f
