-- A loop over a list, or over those of 0, 1, .., n - 1 that pass a test: what is left of it gives the same answer.
-- In each law the premises are facts that the code has at the need that the law answers.
use Prim.Native.Nat.{ℕ, zero, suc, ◌+◌, ◌-◌, ◌<◌, ◌≤◌, max}
use mathlib.Core.Path.{◌≡◌, refl, sym, ap, ◌∙◌}
use mathlib.Core.Bool.{Bool, true, false, not}
use mathlib.Core.List.{List, [], ◌∷◌, map}
use native.Mathlib.Omega.{arith}
use native.Mathlib.Nat.{sub-zero}
use native.Mathlib.Numerals.{add-one}
use native.Mathlib.Decide.{ℕ_discrete}
use lib.ListN.{length, get_or, drop, drop_of_length-le}
use lib.Seq.{drop-cons}
use borrow.Author.Tests.{not-true, not-false}
use Rattle.base.specs.Pick.{pick}
use Rattle.base.specs.Loops.{first_from, until}
use Rattle.base.specs.Lists.{numbers_from, up_to, greatest, keep, each_of, fold_over}

-- ---- the numbers from i on
numbers_none : (n i : ℕ) → n ≡ 0 → numbers_from i n ≡ []
unfolding numbers_from
numbers_none n i e = rw e

numbers_more : (n m i : ℕ) → n ≡ m + 1 → numbers_from i n ≡ i ∷ numbers_from (i + 1) m
unfolding numbers_from
numbers_more n m i e = rw (e, add-one, add-one)

numbers_start : (n : ℕ) → up_to n ≡ numbers_from 0 (n - 0)
unfolding up_to
numbers_start n = rw sub-zero

-- ---- those of them that pass a test
module _ (test : ℕ → Bool) where
  -- what is left of them at i
  unfoldable pub kept : ℕ → ℕ → List ℕ
  unfolding keep numbers_from
  kept n i = keep test (numbers_from i (n - i))

  pub kept_start : (n : ℕ) → kept n 0 ≡ keep test (up_to n)
  unfolding kept
  kept_start n = rw numbers_start

  pub kept_over : (n i : ℕ) → n ≤ i → kept n i ≡ []
  unfolding kept
  kept_over n i h = rw (numbers_none (n - i) i (omega arith))

  kept_more : (n i : ℕ) → i < n → kept n i ≡ pick (test i) (i ∷ kept n (i + 1)) (kept n (i + 1))
  unfolding kept
  kept_more n i h = rw (numbers_more (n - i) (n - (i + 1)) i (omega arith))

  pub kept_hit : (n i : ℕ) → i < n → test i ≡ true → kept n i ≡ i ∷ kept n (i + 1)
  kept_hit n i h f = kept_more n i h ∙ rw f

  pub kept_miss : (n i : ℕ) → i < n → test i ≡ false → kept n i ≡ kept n (i + 1)
  kept_miss n i h f = kept_more n i h ∙ rw f

-- how many there are
module _ (test : ℕ → Bool) (n i : ℕ) where
  pub count_turn : (a d t : ℕ) → i < n → a + length (kept test n i) ≡ t → d ≡ pick (test i) 1 0 → a + d + length (kept test n (i + 1)) ≡ t
  count_turn a d t h e p = go (test i) refl
    where
      go : (b : Bool) → test i ≡ b → a + d + length (kept test n (i + 1)) ≡ t
      go true f = let q : d ≡ 1 = p ∙ rw f in let l = ap length (kept_hit test n i h f) in omega arith
      go false f = let q : d ≡ 0 = p ∙ rw f in let l = ap length (kept_miss test n i h f) in omega arith

  pub count_end : (a t : ℕ) → n ≤ i → a + length (kept test n i) ≡ t → a ≡ t
  count_end a t h e = let l = ap length (kept_over test n i h) in omega arith

-- a step for each
module _ {ℓ} {A : Type ℓ} (test : ℕ → Bool) (step : ℕ → A → A) (n i : ℕ) (a t : A) where
  pub kept_fold_turn : (b : A) → i < n → fold_over step (kept test n i) a ≡ t → b ≡ pick (test i) (step i a) a → fold_over step (kept test n (i + 1)) b ≡ t
  unfolding fold_over
  kept_fold_turn b h e p = go (test i) refl
    where
      go : (x : Bool) → test i ≡ x → fold_over step (kept test n (i + 1)) b ≡ t
      go true f = rw (p, f) (rw (kept_hit test n i h f) at e)
      go false f = rw (p, f) (rw (kept_miss test n i h f) at e)

  pub kept_fold_end : n ≤ i → fold_over step (kept test n i) a ≡ t → a ≡ t
  unfolding fold_over
  kept_fold_end h e = rw (kept_over test n i h) at e

-- each passes a second test
module _ (test holds : ℕ → Bool) (n i : ℕ) (t : Bool) where
  pub kept_each_turn : (b : Bool) → i < n → each_of holds (kept test n i) ≡ t → b ≡ pick (test i) (not (holds i)) false → b ≡ false → each_of holds (kept test n (i + 1)) ≡ t
  unfolding each_of
  kept_each_turn b h e p z = go (test i) refl
    where
      go : (x : Bool) → test i ≡ x → each_of holds (kept test n (i + 1)) ≡ t
      go true f =
          let g : holds i ≡ true = not-false (holds i) (sym (p ∙ rw f) ∙ z) in
          rw g at (rw (kept_hit test n i h f) at e)
      go false f = rw (kept_miss test n i h f) at e

  pub kept_each_fails : (b : Bool) → i < n → each_of holds (kept test n i) ≡ t → b ≡ pick (test i) (not (holds i)) false → b ≡ true → false ≡ t
  unfolding each_of
  kept_each_fails b h e p z = go (test i) refl
    where
      go : (x : Bool) → test i ≡ x → false ≡ t
      go true f =
          let g : holds i ≡ false = not-true (holds i) (sym (p ∙ rw f) ∙ z) in
          rw g at (rw (kept_hit test n i h f) at e)
      go false f = let q : false ≡ true = sym (p ∙ rw f) ∙ z in cc

  pub kept_each_end : n ≤ i → each_of holds (kept test n i) ≡ t → true ≡ t
  unfolding each_of
  kept_each_end h e = rw (kept_over test n i h) at e

-- ---- the greatest of what the list's elements have
module _ {A : Type 0} (f : A → ℕ) (d : A) (xs : List A) where
  pub greatest_start : max 0 (greatest (map f (drop 0 xs))) ≡ greatest (map f xs)
  greatest_start = omega arith

  module _ (i a t : ℕ) where
    pub greatest_turn : (n x b : ℕ) → n ≡ length xs → i < n → max a (greatest (map f (drop i xs))) ≡ t → x ≡ f (get_or xs i d) → b ≡ max a x → max b (greatest (map f (drop (i + 1) xs))) ≡ t
    unfolding greatest
    greatest_turn n x b l h e p q =
        let k : i < length xs = omega arith in
        let r : max a (max (f (get_or xs i d)) (greatest (map f (drop (suc i) xs)))) ≡ t = rw (drop-cons xs i d k) at e in
        rw add-one (omega arith)

    pub greatest_end : (n : ℕ) → n ≡ length xs → n ≤ i → max a (greatest (map f (drop i xs))) ≡ t → a ≡ t
    unfolding greatest
    greatest_end n l h e =
        let k : length xs ≤ i = omega arith in
        let r : max a 0 ≡ t = rw (drop_of_length-le xs k) at e in
        omega arith

-- ---- step after step until the test holds, i of n steps made
module _ {ℓ} {A : Type ℓ} (test : A → Bool) (step : A → A) where
  pub until_whole : (n m : ℕ) (a : A) → n ≡ m → until test step (n - 0) a ≡ until test step m a
  until_whole n m a e = rw (sub-zero, e)

  until_more : (n m : ℕ) (a : A) → n ≡ m + 1 → test a ≡ false → until test step n a ≡ until test step m (step a)
  unfolding until
  until_more n m a e f = rw (e, add-one, f)

  until_none : (n : ℕ) (a : A) → n ≡ 0 → until test step n a ≡ a
  unfolding until
  until_none n a e = rw e

  until_stop : (n : ℕ) (a : A) → test a ≡ true → until test step n a ≡ a
  unfolding until
  until_stop zero a f = refl
  until_stop (suc n) a f = rw f

  module _ (n i : ℕ) (a t : A) where
    pub until_turn : (b : A) (x : Bool) → i < n → until test step (n - i) a ≡ t → x ≡ test a → x ≡ false → b ≡ step a → until test step (n - (i + 1)) b ≡ t
    until_turn b x h e p f q = rw q (sym (until_more (n - i) (n - (i + 1)) a (omega arith) (sym p ∙ f)) ∙ e)

    pub until_end : (x : Bool) → until test step (n - i) a ≡ t → x ≡ test a → x ≡ true → a ≡ t
    until_end x e p f = sym (until_stop (n - i) a (sym p ∙ f)) ∙ e

    pub until_over : n ≤ i → until test step (n - i) a ≡ t → a ≡ t
    until_over h e = sym (until_none (n - i) a (omega arith)) ∙ e

-- ---- a search over all of a count that is known by another name
pub first_whole : (test : ℕ → Bool) (n m : ℕ) → n ≡ m → first_from test (n - 0) 0 ≡ first_from test m 0
first_whole test n m e = rw (sub-zero, e)

-- a search that found nothing: no number passes the test
pub first_never : (test : ℕ → Bool) (n i k : ℕ) → first_from test n i ≡ i + n → i ≤ k → k < i + n → test k ≡ false
unfolding first_from
first_never test zero i k e h l = absurd (omega arith)
first_never test (suc n) i k e h l = go (test i) refl (first_never test n (suc i) k)
  where
    go : (b : Bool) → test i ≡ b → (first_from test n (suc i) ≡ suc i + n → suc i ≤ k → k < suc i + n → test k ≡ false) → test k ≡ false
    go true f later = let q : i ≡ i + suc n = rw f at e in absurd (omega arith)
    go false f later =
        elim (ℕ_discrete i k) [
          | yes q ↦ ap test (sym q) ∙ f
          | no q ↦ let r : first_from test n (suc i) ≡ i + suc n = rw f at e in later (omega arith) (omega arith) (omega arith)
        ]

-- what is at most b of each element is so of the greatest
pub greatest_below : {A : Type 0} (f : A → ℕ) (d : A) (b : ℕ) (xs : List A) → ((i : ℕ) → i < length xs → f (get_or xs i d) ≤ b) → greatest (map f xs) ≤ b
unfolding greatest
greatest_below f d b [] h = omega arith
greatest_below f d b (x ∷ xs) h =
    let p : f x ≤ b = h 0 (omega arith) in
    let q : greatest (map f xs) ≤ b = greatest_below f d b xs (λ i l. h (suc i) (omega arith)) in
    omega arith

pub first_bound : (test : ℕ → Bool) (n i : ℕ) → first_from test n i ≤ i + n
unfolding first_from
first_bound test zero i = omega arith
first_bound test (suc n) i = go (test i) refl (first_bound test n (suc i))
  where
    go : (b : Bool) → test i ≡ b → first_from test n (suc i) ≤ suc i + n → first_from test (suc n) i ≤ i + suc n
    go true f later = rw f (omega arith)
    go false f later = rw f (omega arith)

-- the greatest is at least what each element has
pub greatest_above : {A : Type 0} (f : A → ℕ) (d : A) (xs : List A) (i : ℕ) → i < length xs → f (get_or xs i d) ≤ greatest (map f xs)
unfolding greatest
greatest_above f d [] i h = absurd (omega arith)
greatest_above f d (x ∷ xs) zero h = omega arith
greatest_above f d (x ∷ xs) (suc i) h = let l = greatest_above f d xs i (omega arith) in omega arith
