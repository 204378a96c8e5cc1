-- The words of std for a range and for what passes a test, in the words of the lists.
use Prim.Native.Nat.{ℕ, zero, suc}
use mathlib.Core.Path.{◌≡◌, refl, ap, ◌∙◌}
use mathlib.Core.Bool.{Bool, true, false, cond}
use mathlib.Core.List.{List, [], ◌∷◌}
use native.Mathlib.Numerals.{add-one}
use Rattle.std.specs.List.{range_with_len, filter}
use Rattle.base.specs.Pick.{pick}
use Rattle.base.specs.Lists.{numbers_from, up_to, keep}

pub range_numbers : (i n : ℕ) → range_with_len i n ≡ numbers_from i n
unfolding numbers_from
range_numbers i zero = refl
range_numbers i (suc n) = ap (λ (l : List ℕ). i ∷ l) (rw add-one (range_numbers (suc i) n))

pub filter_keep : {A : Type 0} (test : A → Bool) (xs : List A) → filter test xs ≡ keep test xs
unfolding keep
filter_keep test [] = refl
filter_keep test (x ∷ xs) = by_test (test x) (filter_keep test xs)
  where
    by_test : (b : Bool) → filter test xs ≡ keep test xs → cond b (x ∷ filter test xs) (filter test xs) ≡ pick b (x ∷ keep test xs) (keep test xs)
    by_test true e = ap (λ (l : List _). x ∷ l) e
    by_test false e = e

-- what passes of 0, 1, .., n - 1
pub filter_up_to : (test : ℕ → Bool) (n : ℕ) → filter test (range_with_len 0 n) ≡ keep test (up_to n)
unfolding up_to
filter_up_to test n = filter_keep test (range_with_len 0 n) ∙ ap (keep test) (range_numbers 0 n)
