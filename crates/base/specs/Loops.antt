-- What the loops over i, i + 1, .., i + n - 1 compute, and a loop that goes on until a test holds.
-- What is left of a loop stands under `let`, so that a loop that stops early computes no further.
use Rattle.std.specs.Prelude.{ℕ, zero, suc, Bool, true, false, Option, Some, None, nat_lt}
use Rattle.base.specs.Pick.{pick}

-- each number's step, in turn
unfoldable pub fold_from {ℓ} : {A : Type ℓ} → (ℕ → A → A) → ℕ → ℕ → A → A
fold_from step zero i a = a
fold_from step (suc n) i a = fold_from step n (suc i) (step i a)

-- the first number that passes the test, or i + n
unfoldable pub first_from : (ℕ → Bool) → ℕ → ℕ → ℕ
first_from test zero i = i
first_from test (suc n) i = let later : ℕ = first_from test n (suc i) in pick (test i) i later

-- some number passes the test
unfoldable pub any_from : (ℕ → Bool) → ℕ → ℕ → Bool
any_from test zero i = false
any_from test (suc n) i = let later : Bool = any_from test n (suc i) in pick (test i) true later

-- step after step until the test holds, at most n of them
unfoldable pub until {ℓ} : {A : Type ℓ} → (A → Bool) → (A → A) → ℕ → A → A
until test step zero a = a
until test step (suc n) a = let later = until test step n (step a) in pick (test a) a later

-- the place, if it is one of the first n
abbrev pub place_below : ℕ → ℕ → Option ℕ
place_below n i = pick (nat_lt i n) (Some i) None
