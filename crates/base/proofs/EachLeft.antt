-- A list by the places of its elements: its length, its last element, what is among it, the same elements at other places, and a loop
-- over what is left of it.
use Prim.Native.Nat.{ℕ, zero, suc, ◌+◌, ◌-◌, ◌<◌, ◌≤◌}
use mathlib.Core.Path.{◌≡◌, refl, sym, ap, ap₂, ◌∙◌}
use mathlib.Core.Logic.{⊎_elim}
use mathlib.Core.Bool.{Bool, true, false, not}
use mathlib.Core.List.{List, [], ◌∷◌, ◌++◌, map}
use native.Mathlib.Omega.{arith}
use native.Mathlib.Numerals.{add-one}
use lib.ListN.{length}
use borrow.Author.Tests.{not-true, not-false}
use Rattle.base.specs.Pick.{pick}
use Rattle.base.specs.Among.{Among}
use Rattle.base.specs.Each.{each_from}
use Rattle.base.specs.Lists.{sum, keep, some_of, each_of, fold_over}
use Rattle.base.proofs.Lists.{among_none, among_cons}

module _ {A : Type 0} where
  pub each_length : (f : ℕ → A) (i n : ℕ) → length (each_from f i n) ≡ n
  unfolding each_from
  each_length f i zero = refl
  each_length f i (suc n) = ap suc (each_length f (suc i) n)

  -- at other places
  pub each_moved : (f h : ℕ → A) (i j n : ℕ) → ((k : ℕ) → k < n → f (i + k) ≡ h (j + k)) → each_from f i n ≡ each_from h j n
  unfolding each_from
  each_moved f h i j zero same = refl
  each_moved f h i j (suc n) same = ap₂ ◌∷◌ (first (same 0 (omega arith))) (each_moved f h (suc i) (suc j) n (λ k l. later k (same (suc k) (omega arith))))
    where
      first : f (i + 0) ≡ h (j + 0) → f i ≡ h j
      first e = let p : i ≡ i + 0 = omega arith in let q : j + 0 ≡ j = omega arith in ap f p ∙ e ∙ ap h q

      later : (k : ℕ) → f (i + suc k) ≡ h (j + suc k) → f (suc i + k) ≡ h (suc j + k)
      later k e = let p : suc i + k ≡ i + suc k = omega arith in let q : j + suc k ≡ suc j + k = omega arith in ap f p ∙ e ∙ ap h q

  -- one more
  each_suc : (f : ℕ → A) (i n : ℕ) → each_from f i (suc n) ≡ each_from f i n ++ (f (i + n) ∷ [])
  unfolding each_from
  each_suc f i zero = let e : i ≡ i + 0 = omega arith in ap (λ (k : ℕ). f k ∷ []) e
  each_suc f i (suc n) =
      let e : suc i + n ≡ i + suc n = omega arith in
      ap (λ (l : List A). f i ∷ l) (each_suc f (suc i) n ∙ ap (λ (k : ℕ). each_from f (suc i) n ++ (f k ∷ [])) e)

  pub each_last : (f : ℕ → A) (i n : ℕ) → each_from f i (n + 1) ≡ each_from f i n ++ (f (i + n) ∷ [])
  each_last f i n = rw add-one (each_suc f i n)

  -- what is among it
  pub each_among : (f : ℕ → A) (i n : ℕ) {x : A} → Among x (each_from f i n) → (j : ℕ) × (i ≤ j) × (j < i + n) × (x ≡ f j)
  unfolding each_from
  each_among f i zero m = absurd (among_none m)
  each_among f i (suc n) m = ⊎_elim (λ e. (i, omega arith, omega arith, e)) (λ k. let (j, h, g, e) = each_among f (suc i) n k in (j, omega arith, omega arith, e)) (among_cons m)

  -- ---- what is left of it at k, up to the end
  pub each_none : (f : ℕ → A) (n k : ℕ) → n ≤ k → each_from f k (n - k) ≡ []
  unfolding each_from
  each_none f n k h = let e : n - k ≡ 0 = omega arith in rw e

  pub each_more : (f : ℕ → A) (n k : ℕ) → k < n → each_from f k (n - k) ≡ f k ∷ each_from f (k + 1) (n - (k + 1))
  unfolding each_from
  each_more f n k h = let e : n - k ≡ suc (n - (k + 1)) = omega arith in rw (e, add-one)

-- some element passes a test
module _ {A : Type 0} (test : A → Bool) (f : ℕ → A) (n k : ℕ) (v : Bool) where
  pub each_some_turn : (b : Bool) → k < n → some_of test (each_from f k (n - k)) ≡ v → b ≡ test (f k) → b ≡ false → some_of test (each_from f (k + 1) (n - (k + 1))) ≡ v
  unfolding some_of
  each_some_turn b h e p z = let q : test (f k) ≡ false = sym p ∙ z in rw q at (rw (each_more f n k h) at e)

  pub each_some_found : (b : Bool) → k < n → some_of test (each_from f k (n - k)) ≡ v → b ≡ test (f k) → b ≡ true → true ≡ v
  unfolding some_of
  each_some_found b h e p z = let q : test (f k) ≡ true = sym p ∙ z in rw q at (rw (each_more f n k h) at e)

  pub each_some_end : n ≤ k → some_of test (each_from f k (n - k)) ≡ v → false ≡ v
  unfolding some_of
  each_some_end h e = rw (each_none f n k h) at e

-- how many elements pass a test
module _ {A : Type 0} (test : A → Bool) (f : ℕ → A) (n k a t : ℕ) where
  pub each_count_turn : (d : ℕ) → k < n → a + length (keep test (each_from f k (n - k))) ≡ t → d ≡ pick (test (f k)) 1 0 → a + d + length (keep test (each_from f (k + 1) (n - (k + 1)))) ≡ t
  unfolding keep
  each_count_turn d h e p = go (test (f k)) p (rw (each_more f n k h) at e)
    where
      later : List A
      later = keep test (each_from f (k + 1) (n - (k + 1)))

      go : (b : Bool) → d ≡ pick b 1 0 → a + length (pick b (f k ∷ later) later) ≡ t → a + d + length later ≡ t
      go true p e = omega arith
      go false p e = omega arith

  pub each_count_end : n ≤ k → a + length (keep test (each_from f k (n - k))) ≡ t → a ≡ t
  unfolding keep
  each_count_end h e = let l : a + 0 ≡ t = rw (each_none f n k h) at e in omega arith

-- the sum of what the elements have
module _ {A : Type 0} (value : A → ℕ) (f : ℕ → A) (n k a t : ℕ) where
  pub each_sum_turn : (d : ℕ) → k < n → a + sum (map value (each_from f k (n - k))) ≡ t → d ≡ value (f k) → a + d + sum (map value (each_from f (k + 1) (n - (k + 1)))) ≡ t
  unfolding sum
  each_sum_turn d h e p = let l : a + (value (f k) + sum (map value (each_from f (k + 1) (n - (k + 1))))) ≡ t = rw (each_more f n k h) at e in omega arith

  pub each_sum_end : n ≤ k → a + sum (map value (each_from f k (n - k))) ≡ t → a ≡ t
  unfolding sum
  each_sum_end h e = let l : a + 0 ≡ t = rw (each_none f n k h) at e in omega arith

-- every element passes a test
module _ {A : Type 0} (test : A → Bool) (f : ℕ → A) (n k : ℕ) (v : Bool) where
  pub each_all_turn : (b : Bool) → k < n → each_of test (each_from f k (n - k)) ≡ v → b ≡ test (f k) → not b ≡ false → each_of test (each_from f (k + 1) (n - (k + 1))) ≡ v
  unfolding each_of
  each_all_turn b h e p z = let q : test (f k) ≡ true = sym p ∙ not-false b z in rw q at (rw (each_more f n k h) at e)

  pub each_all_fails : (b : Bool) → k < n → each_of test (each_from f k (n - k)) ≡ v → b ≡ test (f k) → not b ≡ true → false ≡ v
  unfolding each_of
  each_all_fails b h e p z = let q : test (f k) ≡ false = sym p ∙ not-true b z in rw q at (rw (each_more f n k h) at e)

  pub each_all_end : n ≤ k → each_of test (each_from f k (n - k)) ≡ v → true ≡ v
  unfolding each_of
  each_all_end h e = rw (each_none f n k h) at e

-- a fold over a part of each element, where it passes a test
module _ {A B C : Type 0} (part : A → C) (test : C → Bool) (step : C → B → B) (f : ℕ → A) (n k : ℕ) (a t : B) where
  abbrev left : ℕ → List C
  left j = keep test (map part (each_from f j (n - j)))

  pub each_fold_turn : (b : B) → k < n → fold_over step (left k) a ≡ t → b ≡ pick (test (part (f k))) (step (part (f k)) a) a → fold_over step (left (k + 1)) b ≡ t
  unfolding fold_over keep
  each_fold_turn b h e p = go (test (part (f k))) p (rw (each_more f n k h) at e)
    where
      go : (x : Bool) → b ≡ pick x (step (part (f k)) a) a → fold_over step (pick x (part (f k) ∷ left (k + 1)) (left (k + 1))) a ≡ t → fold_over step (left (k + 1)) b ≡ t
      go true p e = rw p e
      go false p e = rw p e

  pub each_fold_end : n ≤ k → fold_over step (left k) a ≡ t → a ≡ t
  unfolding fold_over keep
  each_fold_end h e = rw (each_none f n k h) at e
