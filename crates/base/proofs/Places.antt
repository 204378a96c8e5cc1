-- Where the first that passes a test stands in a list, where a member stands, and what stands at every place.
use Prim.Native.Nat.{ℕ, zero, suc, ◌<◌, ◌≤◌}
use mathlib.Core.Path.{◌≡◌, refl, ap, ◌∙◌}
use mathlib.Core.Bool.{Bool, true, false}
use mathlib.Core.List.{List, [], ◌∷◌, ◌++◌}
use native.Mathlib.Omega.{arith}
use native.Mathlib.Decide.{dec_le}
use lib.ListN.{length, get_or, get_or-eq_default}
use Rattle.base.specs.Pick.{pick}
use Rattle.base.specs.Among.{Among, here, later}
use Rattle.base.specs.Lists.{numbers_from, up_to, each_of, place_of}
use Rattle.base.proofs.Lists.{among_none}

pub place_within : {A : Type 0} (test : A → Bool) (xs : List A) → place_of test xs ≤ length xs
unfolding place_of
place_within test [] = omega arith
place_within test (x ∷ xs) = by_test (test x) (place_within test xs)
  where
    by_test : (b : Bool) → place_of test xs ≤ length xs → pick b 0 (suc (place_of test xs)) ≤ suc (length xs)
    by_test true h = omega arith
    by_test false h = omega arith

-- the first that passes a test passes it
pub place_found : {A : Type 0} (test : A → Bool) (xs : List A) (d : A) → place_of test xs < length xs → test (get_or xs (place_of test xs) d) ≡ true
unfolding place_of
place_found test [] d h = absurd (omega arith)
place_found test (x ∷ xs) d h = by_test (test x) refl h (place_found test xs d)
  where
    by_test : (b : Bool) → test x ≡ b → pick b 0 (suc (place_of test xs)) < suc (length xs)
        → (place_of test xs < length xs → test (get_or xs (place_of test xs) d) ≡ true) → test (get_or (x ∷ xs) (pick b 0 (suc (place_of test xs))) d) ≡ true
    by_test true e h more = e
    by_test false e h more = more (omega arith)

-- where one passes, the first stands within the list
pub place_below : {A : Type 0} (test : A → Bool) {x : A} {xs : List A} → Among x xs → test x ≡ true → place_of test xs < length xs
unfolding place_of
place_below test {x} here e = rw e (omega arith)
place_below test (later {y = y} {xs = xs} m) e = by_first (test y) (place_below test m e)
  where
    by_first : (b : Bool) → place_of test xs < length xs → pick b 0 (suc (place_of test xs)) < suc (length xs)
    by_first true h = omega arith
    by_first false h = omega arith

-- a member stands at a place
pub place : {A : Type 0} {x : A} {xs : List A} (d : A) → Among x xs → (s : ℕ) × (s < length xs) × (x ≡ get_or xs s d)
place d here = (0, omega arith, refl)
place d (later m) = let (s, b, q) = place d m in (suc s, omega arith, q)

-- a list of lists has a member only at a place of its own
pub within_states : {A : Type 0} {e : A} (states : List (List A)) (s : ℕ) → Among e (get_or states s []) → s < length states
within_states states s m = elim (dec_le (length states) s) [
  | yes p ↦ absurd (among_none (rw (get_or-eq_default states [] p) at m))
  | no p ↦ omega arith
]

-- what holds of every element, of one put behind them, and of the default, holds at every place
pub at_appended : {A : Type 0} (P : A → Type 0) (xs : List A) (y d : A) → ((s : ℕ) → s < length xs → P (get_or xs s d)) → P y → P d → (s : ℕ) → P (get_or (xs ++ (y ∷ [])) s d)
at_appended P [] y d h p q zero = p
at_appended P [] y d h p q (suc s) = q
at_appended P (x ∷ xs) y d h p q zero = h 0 (omega arith)
at_appended P (x ∷ xs) y d h p q (suc s) = at_appended P xs y d (λ s b. h (suc s) (omega arith)) p q s

-- a test of each is a test at each place
each_further : (test : ℕ → Bool) (i n : ℕ) → each_of test (numbers_from (suc i) n) ≡ each_of (λ k. test (suc k)) (numbers_from i n)
unfolding each_of numbers_from
each_further test i zero = refl
each_further test i (suc n) = ap (λ (later : Bool). pick (test (suc i)) later false) (each_further test (suc i) n)

pub each_places : {A : Type 0} (test : A → Bool) (xs : List A) (d : A) → each_of (λ k. test (get_or xs k d)) (up_to (length xs)) ≡ each_of test xs
unfolding each_of up_to numbers_from
each_places test [] d = refl
each_places test (x ∷ xs) d =
    ap (λ (later : Bool). pick (test x) later false) (each_further (λ k. test (get_or (x ∷ xs) k d)) 0 (length xs) ∙ each_places test xs d)
