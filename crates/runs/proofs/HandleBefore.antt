-- The derivation before its last step, whose right side is on top of the stack: with that right side replaced by its left side the handle
-- lies ahead again, unless the step was by production 0, which is the first of every derivation.
use Prim.Native.Nat.{ℕ, suc}
use mathlib.Core.Path.{◌≡◌, refl, sym, ap, ap₂, ◌∙◌}
use mathlib.Core.Logic.{⊎_elim}
use mathlib.Core.List.{List, [], ◌∷◌, ◌++◌, reverse, reverse_aux-eq, reverse-append, reverse-reverse, append_assoc, nil≢cons, head-eq_of_cons-eq, tail-eq_of_cons-eq}
use native.Mathlib.Omega.{arith}
use lib.ListN.{length, drop, length-reverse}
use lib.Seq.{drop-append_seam}
use Rattle.base.specs.Among.{Among, here}
use Rattle.base.proofs.Lists.{among_none, among_cons}
use Rattle.base.proofs.Members.{among_append, append_left, append_right}
use Rattle.rules.specs.Limits.{Limits}
use Rattle.rules.specs.Records.{Grammar}
use Rattle.rules.specs.Grammar.{Symbol, nonterminal, start, terminal_count, left_of}
use Rattle.rules.specs.Run.{side_length}
use Rattle.knuth.specs.Rules.{Rule}
use Rattle.knuth.specs.Coded.{Checked}
use Rattle.knuth.specs.Derivations.{tokens, Step, Derives, done, step}
use Rattle.runs.proofs.ProductionNumbers.{side_length_lem, production_left, start_has_zero, zero_has_start, start_behind_none}
use Rattle.runs.proofs.HandleAhead.{last_of, AtTop, HandleAhead, handle_after_reduction}

no_nonterminal_among_tokens : (A : ℕ) (w : List ℕ) → Among (nonterminal A) (tokens w) → ⊥
no_nonterminal_among_tokens A [] m = among_none m
no_nonterminal_among_tokens A (t ∷ w) m = ⊎_elim (λ e. let z : ◌≡◌ {A = ℕ} 0 1 = cc in omega arith) (no_nonterminal_among_tokens A w) (among_cons m)

-- a form that is one nonterminal has it at its only place
only_symbol : (B : ℕ) (δ : List Symbol) (A : ℕ) (u : List ℕ) → nonterminal B ∷ [] ≡ δ ++ (nonterminal A ∷ tokens u) → (δ ≡ []) × (A ≡ B)
only_symbol B [] A u e = (refl, cc (head-eq_of_cons-eq e))
only_symbol B (x ∷ []) A u e = absurd (nil≢cons (tail-eq_of_cons-eq e))
only_symbol B (x ∷ y ∷ δ) A u e = absurd (nil≢cons (tail-eq_of_cons-eq e))

module _ (l : Limits) (g : Grammar) (checked : Checked l g) where
  abbrev S : ℕ
  S = start g

  abbrev Eof : ℕ
  Eof = terminal_count g

  -- ---- the start stands in no form but the first
  abbrev NoStart : List Symbol → Type 0
  NoStart φ = Among (nonterminal S) φ → ⊥

  no_start_put : {p : ℕ} {φ ψ : List Symbol} (s : Step (Rule g) p φ ψ) → NoStart s.before → NoStart ψ
  no_start_put s none_before m =
      ⊎_elim none_before
      (λ k. ⊎_elim (start_behind_none l g checked s.rule) (no_nonterminal_among_tokens S s.behind) (among_append s.body k))
      (among_append s.before (rw s.to at m))

  no_start_derived : {ps : List ℕ} {φ ψ : List Symbol} → Derives (Rule g) φ ps ψ → NoStart φ → NoStart ψ
  no_start_derived done h = h
  no_start_derived (step s d) h = no_start_derived d (no_start_put s (λ m. h (rw s.from (append_left _ m))))

  no_start_again : {p : ℕ} {ps : List ℕ} {ψ χ : List Symbol} → Step (Rule g) p (nonterminal S ∷ []) χ → Derives (Rule g) χ ps ψ → NoStart ψ
  no_start_again s d = no_start_derived d (no_start_put s (λ m. among_none (rw (only_symbol S s.before s.head s.behind s.from).0 at m)))

  -- production 0 is used first
  pub zero_is_first : {γ : List Symbol} {v qs : List ℕ} → HandleAhead (Rule g) S Eof γ v qs 0 → qs ≡ []
  zero_is_first a = go a.derivation a.last.before a.last.behind a.last.from (zero_has_start l g checked a.last.rule)
    where
      go : {qs : List ℕ} {form : List Symbol} {A : ℕ} → Derives (Rule g) (nonterminal S ∷ []) qs form → (δ : List Symbol) (u : List ℕ)
          → form ≡ δ ++ (nonterminal A ∷ tokens u) → A ≡ S → qs ≡ []
      go done δ u e₁ e₂ = refl
      go (step s d) δ u e₁ e₂ = absurd (no_start_again s d (rw (e₁, e₂) (append_right δ here)))

  -- ---- the form before the last step
  module _ {γ : List Symbol} {v qs : List ℕ} {p : ℕ} (a : HandleAhead (Rule g) S Eof γ v qs p) (at_top : AtTop (Rule g) a.last γ v) where
    abbrev s : Step (Rule g) p a.form (reverse γ ++ tokens v)
    s = a.last

    under_handle : drop (side_length g p) γ ≡ reverse s.before
    under_handle =
        let e : γ ≡ reverse s.body ++ reverse s.before = sym (reverse-reverse γ) ∙ ap reverse (sym at_top.0) ∙ reverse-append s.before s.body in
        let k : side_length g p ≡ length (reverse s.body) = side_length_lem l g checked s.rule ∙ sym (length-reverse s.body) in
        ap₂ (λ (n : ℕ) δ. drop n δ) k e ∙ drop-append_seam (reverse s.body) (reverse s.before)

    form_before : a.form ≡ reverse (nonterminal (left_of g p) ∷ drop (side_length g p) γ) ++ tokens v
    form_before =
        let A : ℕ = left_of g p in
        let under : List Symbol = drop (side_length g p) γ in
        let e : reverse under ≡ s.before = ap reverse under_handle ∙ reverse-reverse s.before in
        s.from
        ∙ ap₂ (λ (B : ℕ) (u : List ℕ). s.before ++ (nonterminal B ∷ tokens u)) (sym (production_left l g checked s.rule)) at_top.1
        ∙ sym (append_assoc s.before (nonterminal A ∷ []) (tokens v))
        ∙ ap (λ φ. (φ ++ (nonterminal A ∷ [])) ++ tokens v) (sym e)
        ∙ ap (λ φ. φ ++ tokens v) (sym (reverse_aux-eq under (nonterminal A ∷ [])))

  -- qs, taken apart at its last production, whose handle lies ahead of γ
  pub record BeforeLast (γ : List Symbol) (v qs : List ℕ) : Type 0 where
    pub by : List ℕ
    pub last : ℕ
    pub ahead : HandleAhead (Rule g) S Eof γ v by last
    pub whole : by ++ (last ∷ []) ≡ qs

  pub handle_before : {γ : List Symbol} {v : List ℕ} (qs : List ℕ) {p : ℕ} (a : HandleAhead (Rule g) S Eof γ v qs (suc p)) → AtTop (Rule g) a.last γ v
      → BeforeLast (nonterminal (left_of g (suc p)) ∷ drop (side_length g (suc p)) γ) v qs
  handle_before {γ} {v} qs {p} a at_top = go a.last.before a.last.behind a.derivation (form_before a at_top) a.last.from a.last.rule
    where
      A : ℕ
      A = left_of g (suc p)

      under : List Symbol
      under = drop (side_length g (suc p)) γ

      go : {qs : List ℕ} {form η : List Symbol} {B : ℕ} (δ : List Symbol) (u : List ℕ) → Derives (Rule g) (nonterminal S ∷ []) qs form
          → form ≡ reverse (nonterminal A ∷ under) ++ tokens v → form ≡ δ ++ (nonterminal B ∷ tokens u) → Rule g (suc p) B η → BeforeLast (nonterminal A ∷ under) v qs
      go {B = B} δ u done e₁ e₂ r = absurd (let z = start_has_zero l g checked (rw (only_symbol S δ B u e₂).1 at r) in omega arith)
      go δ u (step s d) e₁ e₂ r =
          let q = last_of (Rule g) s (rw e₁ at d) in
          record { by = q.by; last = q.production; ahead = handle_after_reduction (Rule g) S Eof under A v q.derivation q.last; whole = q.whole }
