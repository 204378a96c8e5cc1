-- The laws of a list by the places of its elements: its elements, the same elements, one element changed, and one element throughout.
use Prim.Native.Nat.{ℕ, zero, suc, ◌+◌, ◌<◌, ◌≤◌}
use mathlib.Core.Path.{◌≡◌, refl, sym, ap, ap₂, ◌∙◌}
use mathlib.Core.List.{◌∷◌}
use native.Mathlib.Omega.{arith}
use lib.ListN.{get_or, set, replicate}
use Rattle.base.specs.Each.{each_from}

module _ {A : Type 0} where
  pub each_at : (f : ℕ → A) (i n k : ℕ) (d : A) → k < n → get_or (each_from f i n) k d ≡ f (i + k)
  unfolding each_from
  each_at f i zero k d h = absurd (omega arith)
  each_at f i (suc n) zero d h = let e : i ≡ i + 0 = omega arith in ap f e
  each_at f i (suc n) (suc k) d h =
      let e : suc i + k ≡ i + suc k = omega arith in
      each_at f (suc i) n k d (omega arith) ∙ ap f e

  -- two functions that agree at the places
  pub each_same : (f h : ℕ → A) (i n : ℕ) → ((j : ℕ) → i ≤ j → j < i + n → f j ≡ h j) → each_from f i n ≡ each_from h i n
  unfolding each_from
  each_same f h i zero same = refl
  each_same f h i (suc n) same = ap₂ ◌∷◌ (same i (omega arith) (omega arith)) (each_same f h (suc i) n (λ j p q. same j (omega arith) (omega arith)))

  -- and at all but one
  pub each_set : (f h : ℕ → A) (i n k : ℕ) (x : A) → k < n → f (i + k) ≡ x → ((j : ℕ) → i ≤ j → j < i + n → (j ≡ i + k → ⊥) → f j ≡ h j)
      → each_from f i n ≡ set (each_from h i n) k x
  unfolding each_from
  each_set f h i zero k x l e same = absurd (omega arith)
  each_set f h i (suc n) zero x l e same =
      let z : i + 0 ≡ i = omega arith in
      ap₂ ◌∷◌ (ap f (sym z) ∙ e) (each_same f h (suc i) n (λ j p q. same j (omega arith) (omega arith) (λ w. omega arith)))
  each_set f h i (suc n) (suc k) x l e same =
      let z : suc i + k ≡ i + suc k = omega arith in
      ap₂ ◌∷◌ (same i (omega arith) (omega arith) (λ w. omega arith)) (each_set f h (suc i) n k x (omega arith) (ap f z ∙ e) (λ j p q ne. same j (omega arith) (omega arith) (λ w. ne (w ∙ sym z))))

  -- one value everywhere
  pub each_one : (f : ℕ → A) (i n : ℕ) (x : A) → ((j : ℕ) → f j ≡ x) → each_from f i n ≡ replicate n x
  unfolding each_from
  each_one f i zero x is = refl
  each_one f i (suc n) x is = ap₂ ◌∷◌ (is i) (each_one f (suc i) n x is)
