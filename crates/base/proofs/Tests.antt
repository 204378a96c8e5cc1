-- Tests that are joined, a test that some element passes, and counts that are 0.
use Prim.Native.Nat.{ℕ}
use mathlib.Core.Path.{◌≡◌, refl, sym}
use mathlib.Core.Logic.{◌⊎◌, inl, inr}
use mathlib.Core.Bool.{Bool, true, false, ◌&&◌, ◌||◌, not, false≢true}
use mathlib.Core.List.{List, [], ◌∷◌, map}
use native.Mathlib.Omega.{arith}
use lib.ListN.{length}
use Rattle.base.specs.Pick.{pick}
use Rattle.base.specs.Among.{Among, here, later}
use Rattle.base.specs.Lists.{sum, keep, some_of}
use Rattle.base.proofs.Lists.{among_keep}

pub both_true : (a b : Bool) → (a && b) ≡ true → (a ≡ true) × (b ≡ true)
both_true true b e = (refl, e)
both_true false b e = absurd (false≢true e)

pub or_false : (a b : Bool) → (a || b) ≡ false → (a ≡ false) × (b ≡ false)
or_false true b e = absurd (false≢true (sym e))
or_false false b e = (refl, e)

pub either_true : (a b : Bool) → (a || b) ≡ true → (a ≡ true) ⊎ (b ≡ true)
either_true true b e = inl refl
either_true false b e = inr e

-- `||`, and the choice by its first test
pub or_picks : (a b : Bool) → (a || b) ≡ pick a true b
or_picks true b = refl
or_picks false b = refl

pub implied_true : (a b : Bool) → (not a || b) ≡ true → a ≡ true → b ≡ true
implied_true true b e h = e
implied_true false b e h = absurd (false≢true h)

module _ {A : Type 0} where
  module _ (test : A → Bool) where
    pub some_true : (xs : List A) → some_of test xs ≡ true → (x : A) × Among x xs × (test x ≡ true)
    unfolding some_of
    some_true [] e = absurd (false≢true e)
    some_true (x ∷ xs) e = go (test x) refl e (λ h. some_true xs h)
      where
        go : (b : Bool) → test x ≡ b → pick b true (some_of test xs) ≡ true
            → (some_of test xs ≡ true → (y : A) × Among y xs × (test y ≡ true)) → (y : A) × Among y (x ∷ xs) × (test y ≡ true)
        go true h e more = (x, here, h)
        go false h e more = let (y, m, k) = more e in (y, later m, k)

    pub true_some : {x : A} {xs : List A} → Among x xs → test x ≡ true → some_of test xs ≡ true
    unfolding some_of
    true_some here h = rw h
    true_some (later {y} {xs} m) h = go (test y) (true_some m h)
      where
        go : (b : Bool) → some_of test xs ≡ true → pick b true (some_of test xs) ≡ true
        go true e = refl
        go false e = e

    -- none is kept: none passes
    pub none_kept : {x : A} (xs : List A) → length (keep test xs) ≡ 0 → Among x xs → test x ≡ true → ⊥
    none_kept xs e m h = go (among_keep test m h) e
      where
        go : {x : A} {ys : List A} → Among x ys → length ys ≡ 0 → ⊥
        go here e = omega arith
        go (later m) e = omega arith

  pub sum_zero : (f : A → ℕ) {x : A} {xs : List A} → Among x xs → sum (map f xs) ≡ 0 → f x ≡ 0
  unfolding sum
  sum_zero f here e = omega arith
  sum_zero f (later m) e = sum_zero f m (omega arith)
