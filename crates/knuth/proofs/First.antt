-- What FIRST says of derivations. `Null φ`: φ derives the empty string. `Begins t φ`: φ derives tokens that t begins. `First φ b t`: t
-- begins φ, or φ is null and t is b.
use Prim.Native.Nat.{ℕ}
use mathlib.Core.Path.{◌≡◌, refl, ◌∙◌}
use mathlib.Core.Logic.{◌⊎◌, inl, inr}
use mathlib.Core.List.{List, [], ◌∷◌, ◌++◌, reverse, append-nil, nil≢cons, cons≢nil, head-eq_of_cons-eq}
use Rattle.rules.specs.Grammar.{Symbol, nonterminal, terminal}
use Rattle.knuth.specs.Derivations.{tokens, next, Derives, Trees, none, leaf, node, Fruitful, Productive}
use Rattle.knuth.specs.Meaning.{Null, null, null_nonterminal, Begins, token, inside, beyond, First, end, now, expand}
use Rattle.knuth.proofs.Trees.{derivation_of_trees, trees_of_derivation}
use Rattle.knuth.proofs.Productive.{fruitful_trees}

module _ (Rule : ℕ → ℕ → List Symbol → Type 0) where
  -- ---- strings one after the other
  pub null_append : {φ ψ : List Symbol} → Null Rule φ → Null Rule ψ → Null Rule (φ ++ ψ)
  null_append null k = k
  null_append (null_nonterminal r h h') k = null_nonterminal r h (null_append h' k)

  pub null_cut : (φ : List Symbol) {ψ : List Symbol} → Null Rule (φ ++ ψ) → Null Rule φ × Null Rule ψ
  null_cut [] h = (null, h)
  null_cut (terminal _ ∷ φ) h = elim h [ ]
  null_cut (nonterminal A ∷ φ) (null_nonterminal r h k) = let (h₁, h₂) = null_cut φ k in (null_nonterminal r h h₁, h₂)

  pub begins_front : {t : ℕ} {φ : List Symbol} (ψ : List Symbol) → Begins Rule t φ → Begins Rule t (φ ++ ψ)
  begins_front ψ token = token
  begins_front ψ (inside r b) = inside r b
  begins_front ψ (beyond r h b) = beyond r h (begins_front ψ b)

  pub begins_behind : {t : ℕ} {φ ψ : List Symbol} → Null Rule φ → Begins Rule t ψ → Begins Rule t (φ ++ ψ)
  begins_behind null b = b
  begins_behind (null_nonterminal r h k) b = beyond r h (begins_behind k b)

  pub begins_cut : {t : ℕ} (φ : List Symbol) {ψ : List Symbol} → Begins Rule t (φ ++ ψ) → Begins Rule t φ ⊎ (Null Rule φ × Begins Rule t ψ)
  begins_cut [] b = inr (null, b)
  begins_cut (terminal u ∷ φ) token = inl token
  begins_cut (nonterminal A ∷ φ) (inside r b) = inl (inside r b)
  begins_cut {t} (nonterminal A ∷ φ) {ψ} (beyond r h b) = go (begins_cut φ b)
    where
      go : Begins Rule t φ ⊎ (Null Rule φ × Begins Rule t ψ)
          → Begins Rule t (nonterminal A ∷ φ) ⊎ (Null Rule (nonterminal A ∷ φ) × Begins Rule t ψ)
      go (inl c) = inl (beyond r h c)
      go (inr (k, c)) = inr (null_nonterminal r h k, c)

  -- a right side, and what follows its nonterminal
  pub begins_rule : {p A t : ℕ} {η ψ : List Symbol} → Rule p A η → Begins Rule t (η ++ ψ) → Begins Rule t (nonterminal A ∷ ψ)
  begins_rule {A} {t} {η} {ψ} r b = go (begins_cut η b)
    where
      go : Begins Rule t η ⊎ (Null Rule η × Begins Rule t ψ) → Begins Rule t (nonterminal A ∷ ψ)
      go (inl c) = inside r c
      go (inr (h, c)) = beyond r h c

  pub null_rule : {p A : ℕ} {η ψ : List Symbol} → Rule p A η → Null Rule (η ++ ψ) → Null Rule (nonterminal A ∷ ψ)
  null_rule {η} r h = let (h₁, h₂) = null_cut η h in null_nonterminal r h₁ h₂

  -- ---- First is: begins, or is null and the token follows
  pub begins_or_null : {φ : List Symbol} {b t : ℕ} → First Rule φ b t → Begins Rule t φ ⊎ (Null Rule φ × (t ≡ b))
  begins_or_null end = inr (null, refl)
  begins_or_null now = inl token
  begins_or_null {b} {t} (expand {A} {η} {φ} r f) = go (begins_or_null f)
    where
      go : Begins Rule t (η ++ φ) ⊎ (Null Rule (η ++ φ) × (t ≡ b)) → Begins Rule t (nonterminal A ∷ φ) ⊎ (Null Rule (nonterminal A ∷ φ) × (t ≡ b))
      go (inl c) = inl (begins_rule r c)
      go (inr (h, e)) = inr (null_rule r h, e)

  pub first_behind_null : {φ ψ : List Symbol} {b t : ℕ} → Null Rule φ → First Rule ψ b t → First Rule (φ ++ ψ) b t
  first_behind_null null f = f
  first_behind_null (null_nonterminal r h k) f = expand r (first_behind_null h (first_behind_null k f))

  first_of_begins : {t : ℕ} {φ : List Symbol} (ψ : List Symbol) (b : ℕ) → Begins Rule t φ → First Rule (φ ++ ψ) b t
  first_of_begins ψ b token = now
  first_of_begins ψ b (inside {φ} r c) = expand r (first_of_begins (φ ++ ψ) b c)
  first_of_begins ψ b (beyond r h c) = expand r (first_behind_null h (first_of_begins ψ b c))

  pub first_of : {φ : List Symbol} {b t : ℕ} → Begins Rule t φ ⊎ (Null Rule φ × (t ≡ b)) → First Rule φ b t
  first_of {b} (inl c) = rw append-nil at (first_of_begins [] b c)
  first_of {b} (inr (h, e)) = rw e (rw append-nil at (first_behind_null h (end {b = b})))

  -- ---- before tokens, and with an expansion taken back
  begins_tokens : {t : ℕ} (b : ℕ) (v : List ℕ) → Begins Rule t (tokens v) → t ≡ next b v
  begins_tokens b [] h = elim h [ ]
  begins_tokens b (t ∷ v) token = refl

  null_tokens : (b : ℕ) (v : List ℕ) → Null Rule (tokens v) → b ≡ next b v
  null_tokens b (_ ∷ _) h = elim h [ ]
  null_tokens b [] null = refl

  pub first_before_tokens : (φ : List Symbol) (v : List ℕ) {b t : ℕ} → First Rule (φ ++ tokens v) b t → First Rule φ (next b v) t
  first_before_tokens φ v {b} {t} f = first_of (go (begins_or_null f))
    where
      cut : Begins Rule t φ ⊎ (Null Rule φ × Begins Rule t (tokens v)) → Begins Rule t φ ⊎ (Null Rule φ × (t ≡ next b v))
      cut (inl c) = inl c
      cut (inr (h, c)) = inr (h, begins_tokens b v c)

      go : Begins Rule t (φ ++ tokens v) ⊎ (Null Rule (φ ++ tokens v) × (t ≡ b)) → Begins Rule t φ ⊎ (Null Rule φ × (t ≡ next b v))
      go (inl c) = cut (begins_cut φ c)
      go (inr (h, e)) = let (h₁, h₂) = null_cut φ h in inr (h₁, e ∙ null_tokens b v h₂)

  pub first_of_tokens : (b : ℕ) (w : List ℕ) → First Rule (tokens w) b (next b w)
  first_of_tokens b [] = end
  first_of_tokens b (t ∷ w) = now

  pub first_unexpanded : {p A : ℕ} {η : List Symbol} (φ ψ : List Symbol) {b t : ℕ} → Rule p A η
      → First Rule (φ ++ (η ++ ψ)) b t → First Rule (φ ++ (nonterminal A ∷ ψ)) b t
  first_unexpanded {A} {η} φ ψ {b} {t} r f = first_of (go (begins_or_null f))
    where
      cut : Begins Rule t φ ⊎ (Null Rule φ × Begins Rule t (η ++ ψ)) → Begins Rule t (φ ++ (nonterminal A ∷ ψ))
      cut (inl c) = begins_front (nonterminal A ∷ ψ) c
      cut (inr (h, c)) = begins_behind h (begins_rule r c)

      go : Begins Rule t (φ ++ (η ++ ψ)) ⊎ (Null Rule (φ ++ (η ++ ψ)) × (t ≡ b))
          → Begins Rule t (φ ++ (nonterminal A ∷ ψ)) ⊎ (Null Rule (φ ++ (nonterminal A ∷ ψ)) × (t ≡ b))
      go (inl c) = inl (cut (begins_cut φ c))
      go (inr (h, e)) = let (h₁, h₂) = null_cut φ h in inr (null_append h₁ (null_rule r h₂), e)

  -- ---- what derivations show
  trees_null : {φ : List Symbol} {ps w : List ℕ} → Trees Rule φ ps w → w ≡ [] → Null Rule φ
  trees_null none e = null
  trees_null (leaf y) e = absurd (cons≢nil e)
  trees_null (node {u = []} r y z) e = null_nonterminal r (trees_null y refl) (trees_null z e)
  trees_null (node {u = t ∷ u} r y z) e = absurd (cons≢nil e)

  trees_begin : {φ : List Symbol} {ps w : List ℕ} (t : ℕ) (v : List ℕ) → Trees Rule φ ps w → w ≡ t ∷ v → Begins Rule t φ
  trees_begin t v none e = absurd (nil≢cons e)
  trees_begin t v (leaf y) e = rw (head-eq_of_cons-eq e) token
  trees_begin t v (node {u = []} r y z) e = beyond r (trees_null y refl) (trees_begin t v z e)
  trees_begin t v (node {u = s ∷ u} r y z) e = rw (← head-eq_of_cons-eq e) (inside r (trees_begin s u y refl))

  pub derives_null : {φ : List Symbol} {ps : List ℕ} → Derives Rule φ ps [] → Null Rule φ
  derives_null d = trees_null (trees_of_derivation Rule [] d) refl

  pub derives_begins : {φ : List Symbol} {ps : List ℕ} (t : ℕ) (w : List ℕ) → Derives Rule φ ps (tokens (t ∷ w)) → Begins Rule t φ
  derives_begins t w d = trees_begin t w (trees_of_derivation Rule (t ∷ w) d) refl

  pub derives_first : {φ : List Symbol} {ps : List ℕ} (b : ℕ) (w : List ℕ) → Derives Rule φ ps (tokens w) → First Rule φ b (next b w)
  derives_first b [] d = first_of (inr (derives_null d, refl))
  derives_first b (t ∷ w) d = first_of (inl (derives_begins t w d))

  -- ---- and what shows a derivation; behind a token that begins, refusal 8's rule is needed to come to tokens
  null_trees : {φ : List Symbol} → Null Rule φ → (ps : List ℕ) × Trees Rule φ ps []
  null_trees null = ([], none)
  null_trees (null_nonterminal {p} r h k) = let (ps, y) = null_trees h in let (qs, z) = null_trees k in (ps ++ (p ∷ qs), node r y z)

  pub null_derives : {φ : List Symbol} → Null Rule φ → (ps : List ℕ) × Derives Rule φ ps []
  null_derives h = let (ps, y) = null_trees h in (reverse ps, derivation_of_trees Rule y)

  module _ (productive : Productive Rule) where
    begins_trees : {t : ℕ} {φ : List Symbol} → Fruitful Rule φ → Begins Rule t φ → (ps : List ℕ) × (w : List ℕ) × Trees Rule φ ps (t ∷ w)
    begins_trees h (token {φ}) = let (ps, w, y) = fruitful_trees Rule φ h in (ps, w, leaf y)
    begins_trees h (inside {p} {A} {η} {φ} r c) =
        let (ps, u, y) = begins_trees (productive p A η r) c in
        let (qs, v, z) = fruitful_trees Rule φ h.1 in
        (ps ++ (p ∷ qs), u ++ v, node r y z)
    begins_trees h (beyond {p} r k c) =
        let (ps, y) = null_trees k in
        let (qs, w, z) = begins_trees h.1 c in
        (ps ++ (p ∷ qs), w, node r y z)

    pub begins_derives : {t : ℕ} {φ : List Symbol} → Fruitful Rule φ → Begins Rule t φ
        → (ps : List ℕ) × (w : List ℕ) × Derives Rule φ ps (tokens (t ∷ w))
    begins_derives h c = let (ps, w, y) = begins_trees h c in (reverse ps, w, derivation_of_trees Rule y)

    pub first_derives : {φ : List Symbol} {b t : ℕ} → Fruitful Rule φ → First Rule φ b t
        → (ps : List ℕ) × (w : List ℕ) × Derives Rule φ ps (tokens w) × (t ≡ next b w)
    first_derives {φ} {b} {t} h f = go (begins_or_null f)
      where
        go : Begins Rule t φ ⊎ (Null Rule φ × (t ≡ b)) → (ps : List ℕ) × (w : List ℕ) × Derives Rule φ ps (tokens w) × (t ≡ next b w)
        go (inl c) = let (ps, w, d) = begins_derives h c in (ps, t ∷ w, d, refl)
        go (inr (k, e)) = let (ps, d) = null_derives k in (ps, [], d, e)
