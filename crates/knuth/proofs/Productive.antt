-- If each nonterminal of every right side derives tokens, then every form does.
use Prim.Native.Nat.{ℕ}
use mathlib.Core.List.{List, [], ◌∷◌, ◌++◌, reverse, reverse_aux}
use Rattle.rules.specs.Grammar.{Symbol, nonterminal, terminal}
use Rattle.knuth.specs.Derivations.{tokens, Step, Derives, done, step, Trees, none, leaf, node, DerivesTokens, Fruitful, Productive}
use Rattle.knuth.proofs.Trees.{derivation_of_trees, trees_of_derivation, trees_append}

module _ (Rule : ℕ → ℕ → List Symbol → Type 0) where
  -- ---- which strings are fruitful
  pub fruitful_tokens : (w : List ℕ) → Fruitful Rule (tokens w)
  fruitful_tokens [] = tt
  fruitful_tokens (t ∷ w) = fruitful_tokens w

  pub fruitful_append : (φ ψ : List Symbol) → Fruitful Rule φ → Fruitful Rule ψ → Fruitful Rule (φ ++ ψ)
  fruitful_append [] ψ h k = k
  fruitful_append (terminal t ∷ φ) ψ h k = fruitful_append φ ψ h k
  fruitful_append (nonterminal A ∷ φ) ψ h k = (h.0, fruitful_append φ ψ h.1 k)

  fruitful_front : (φ ψ : List Symbol) → Fruitful Rule (φ ++ ψ) → Fruitful Rule φ
  fruitful_front [] ψ h = tt
  fruitful_front (terminal t ∷ φ) ψ h = fruitful_front φ ψ h
  fruitful_front (nonterminal A ∷ φ) ψ h = (h.0, fruitful_front φ ψ h.1)

  -- what stands behind the dot of a fruitful right side
  pub fruitful_behind : (α β : List Symbol) → Fruitful Rule (reverse_aux α β) → Fruitful Rule β
  fruitful_behind [] β h = h
  fruitful_behind (terminal t ∷ α) β h = fruitful_behind α (terminal t ∷ β) h
  fruitful_behind (nonterminal A ∷ α) β h = (fruitful_behind α (nonterminal A ∷ β) h).1

  -- ---- a fruitful string derives tokens
  pub fruitful_trees : (φ : List Symbol) → Fruitful Rule φ → (ps : List ℕ) × (w : List ℕ) × Trees Rule φ ps w
  fruitful_trees [] h = ([], [], none)
  fruitful_trees (terminal t ∷ φ) h = let (ps, w, y) = fruitful_trees φ h in (ps, t ∷ w, leaf y)
  fruitful_trees (nonterminal A ∷ φ) ((ps, u, d), h) =
      let (qs, w, y) = fruitful_trees φ h in
      (reverse ps ++ qs, u ++ w, trees_append Rule (trees_of_derivation Rule u d) y)

  pub fruitful_derives_tokens : (φ : List Symbol) → Fruitful Rule φ → DerivesTokens Rule φ
  fruitful_derives_tokens φ h = let (ps, w, y) = fruitful_trees φ h in (reverse ps, w, derivation_of_trees Rule y)

  pub left_side_derives_tokens : {p A : ℕ} {η : List Symbol} → Rule p A η → Fruitful Rule η → DerivesTokens Rule (nonterminal A ∷ [])
  left_side_derives_tokens {p} {η = η} r h =
      let (ps, w, y) = fruitful_trees η h in
      (reverse (ps ++ (p ∷ [])), w ++ [], derivation_of_trees Rule (node r y none))

  -- ---- and so does every form that the start derives
  module _ (productive : Productive Rule) where
    fruitful_step : {p : ℕ} {φ ψ : List Symbol} → Step Rule p φ ψ → Fruitful Rule φ → Fruitful Rule ψ
    fruitful_step {p} s h =
        let front : Fruitful Rule s.before = fruitful_front s.before _ (rw s.from at h) in
        let body : Fruitful Rule s.body = productive p s.head s.body s.rule in
        rw s.to (fruitful_append s.before _ front (fruitful_append s.body _ body (fruitful_tokens s.behind)))

    fruitful_derived : {ps : List ℕ} {φ ψ : List Symbol} → Derives Rule φ ps ψ → Fruitful Rule φ → Fruitful Rule ψ
    fruitful_derived done h = h
    fruitful_derived (step s d) h = fruitful_derived d (fruitful_step s h)

    pub every_form_derives_tokens : {p S : ℕ} {η φ : List Symbol} {ps : List ℕ} → Rule p S η → Derives Rule (nonterminal S ∷ []) ps φ
        → DerivesTokens Rule φ
    every_form_derives_tokens {p} {S} {η} {φ} r d = fruitful_derives_tokens φ (fruitful_derived d (left_side_derives_tokens r (productive p S η r), tt))
