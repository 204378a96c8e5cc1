-- Lists by tests and by steps.
use Rattle.std.specs.Prelude.{ℕ, zero, suc, ◌+◌, max, Bool, true, false, List, [], ◌∷◌, ◌++◌}
use Rattle.base.specs.Pick.{pick}

-- 0, 1, .., n - 1, and the n numbers from i on
unfoldable pub numbers_from : ℕ → ℕ → List ℕ
numbers_from i zero = []
numbers_from i (suc n) = i ∷ numbers_from (suc i) n

unfoldable pub up_to : ℕ → List ℕ
unfolding numbers_from
up_to n = numbers_from 0 n

-- the sum, and the greatest; 0 of no number
unfoldable pub sum : List ℕ → ℕ
sum [] = 0
sum (n ∷ ns) = n + sum ns

unfoldable pub greatest : List ℕ → ℕ
greatest [] = 0
greatest (n ∷ ns) = max n (greatest ns)

module _ {A : Type 0} where
  -- those that pass the test
  unfoldable pub keep : (A → Bool) → List A → List A
  keep test [] = []
  keep test (x ∷ xs) = pick (test x) (x ∷ keep test xs) (keep test xs)

  unfoldable pub some_of : (A → Bool) → List A → Bool
  some_of test [] = false
  some_of test (x ∷ xs) = let later : Bool = some_of test xs in pick (test x) true later

  unfoldable pub each_of : (A → Bool) → List A → Bool
  each_of test [] = true
  each_of test (x ∷ xs) = let later : Bool = each_of test xs in pick (test x) later false

  -- how many stand before the first that passes the test; all of them if none does
  unfoldable pub place_of : (A → Bool) → List A → ℕ
  place_of test [] = 0
  place_of test (x ∷ xs) = let later : ℕ = suc (place_of test xs) in pick (test x) 0 later

  -- a step for each, from the front
  unfoldable pub fold_over {ℓ} : {B : Type ℓ} → (A → B → B) → List A → B → B
  fold_over step [] b = b
  fold_over step (x ∷ xs) b = fold_over step xs (step x b)

  unfoldable pub is_empty : List A → Bool
  is_empty [] = true
  is_empty (x ∷ xs) = false

  -- one list of many
  unfoldable pub concat : List (List A) → List A
  concat [] = []
  concat (l ∷ ls) = l ++ concat ls
