-- A loop that goes on until a test holds, and rounds over a list until nothing is left to do.
use Prim.Native.Nat.{ℕ, zero, suc, ◌+◌, ◌-◌, ◌<◌, ◌≤◌}
use mathlib.Core.Path.{◌≡◌, refl, sym}
use mathlib.Core.Bool.{Bool, true, false, true≢false}
use mathlib.Core.List.{List, [], ◌∷◌}
use native.Mathlib.Omega.{arith}
use Rattle.base.specs.Pick.{pick}
use Rattle.base.specs.Loops.{until}
use Rattle.base.specs.Lists.{each_of, fold_over}
use Rattle.base.specs.Among.{Among, here, later}
use Rattle.base.proofs.Lists.{fold_keeps}

-- an invariant that each step keeps while the test fails
module _ {ℓ κ} {A : Type ℓ} (test : A → Bool) (step : A → A) (Inv : A → Type κ) (keeps : (a : A) → Inv a → test a ≡ false → Inv (step a)) where
  pub until_keeps : (n : ℕ) (a : A) → Inv a → Inv (until test step n a)
  unfolding until
  until_keeps zero a i = i
  until_keeps (suc n) a i = by_test (test a) refl (until_keeps n (step a))
    where
      by_test : (b : Bool) → test a ≡ b → (Inv (step a) → Inv (until test step n (step a))) → Inv (pick b a (until test step n (step a)))
      by_test true e more = i
      by_test false e more = more (keeps a i e)

  -- a measure that falls with each step ends the loop within as many steps
  module _ (measure : A → ℕ) (falls : (a : A) → Inv a → test a ≡ false → measure (step a) < measure a) where
    pub until_ends : (n : ℕ) (a : A) → Inv a → measure a ≤ n → test (until test step n a) ≡ true
    unfolding until
    until_ends zero a i h = by_test (test a) refl
      where
        by_test : (b : Bool) → test a ≡ b → test a ≡ true
        by_test true e = e
        by_test false e = absurd (omega (arith, falls a i e))
    until_ends (suc n) a i h = by_test (test a) refl (until_ends n (step a))
      where
        by_test : (b : Bool) → test a ≡ b → (Inv (step a) → measure (step a) ≤ n → test (until test step n (step a)) ≡ true)
            → test (pick b a (until test step n (step a))) ≡ true
        by_test true e more = e
        by_test false e more = more (keeps a i e) (omega (arith, falls a i e))

-- where the test holds in the end, more steps give the same
pub until_enough {ℓ} : {A : Type ℓ} (test : A → Bool) (step : A → A) (n larger : ℕ) (a : A) → n ≤ larger → test (until test step n a) ≡ true
    → until test step larger a ≡ until test step n a
unfolding until
until_enough test step zero zero a f e = refl
until_enough test step zero (suc larger) a f e = rw e
until_enough test step (suc n) zero a f e = absurd (omega arith)
until_enough {A = A} test step (suc n) (suc larger) a f e = by_test (test a) e (until_enough test step n larger (step a))
  where
    by_test : (b : Bool) → test (pick b a (until test step n (step a))) ≡ true
        → (n ≤ larger → test (until test step n (step a)) ≡ true → until test step larger (step a) ≡ until test step n (step a))
        → pick b a (until test step larger (step a)) ≡ pick b a (until test step n (step a))
    by_test true e more = refl
    by_test false e more = more (omega arith) e

-- an invariant that the step for each of a list keeps
pub rounds_keep {ℓ κ} : {A : Type 0} {B : Type ℓ} (test : B → Bool) (step : A → B → B) (Inv : B → Type κ) (xs : List A)
    → ((x : A) → Among x xs → (b : B) → Inv b → Inv (step x b)) → (n : ℕ) (b : B) → Inv b → Inv (until test (fold_over step xs) n b)
rounds_keep test step Inv xs keeps = until_keeps test (fold_over step xs) Inv (λ b i e. fold_keeps step Inv xs keeps b i)

-- ---- rounds: a step for each of a list, where a step that is done changes nothing, and another adds to a size
module _ {ℓ κ} {A : Type 0} {B : Type ℓ} (step : A → B → B) (done : A → B → Bool) (size : B → ℕ) (Inv : B → Type κ) where
  pub record Steps (xs : List A) : Type (ℓ ⊔ κ) where
    pub keeps : (x : A) → Among x xs → (b : B) → Inv b → Inv (step x b)
    pub rests : (x : A) → Among x xs → (b : B) → Inv b → done x b ≡ true → step x b ≡ b
    pub adds : (x : A) → Among x xs → (b : B) → Inv b → done x b ≡ false → size b < size (step x b)

  rest : {y : A} {xs : List A} → Steps (y ∷ xs) → Steps xs
  rest s = record { keeps = λ x m. s.keeps x (later m); rests = λ x m. s.rests x (later m); adds = λ x m. s.adds x (later m) }

  pub size_stays : (xs : List A) → Steps xs → (b : B) → Inv b → size b ≤ size (fold_over step xs b)
  unfolding fold_over
  size_stays [] s b i = omega arith
  size_stays (x ∷ xs) s b i = omega (arith, size_stays xs (rest s) (step x b) (s.keeps x here b i), here_stays (done x b) refl)
    where
      here_stays : (d : Bool) → done x b ≡ d → size b ≤ size (step x b)
      here_stays true e = rw (s.rests x here b i e) (omega arith)
      here_stays false e = omega (arith, s.adds x here b i e)

  pub round_adds_lem : (xs : List A) → Steps xs → (b : B) → Inv b → each_of (λ x. done x b) xs ≡ false → size b < size (fold_over step xs b)
  unfolding fold_over each_of
  round_adds_lem [] s b i e = absurd (true≢false e)
  round_adds_lem (x ∷ xs) s b i e = by_first (done x b) refl e (round_adds_lem xs (rest s) b i)
    where
      by_first : (d : Bool) → done x b ≡ d → pick d (each_of (λ x. done x b) xs) false ≡ false
          → (each_of (λ x. done x b) xs ≡ false → size b < size (fold_over step xs b)) → size b < size (fold_over step xs (step x b))
      by_first true f e more = rw (s.rests x here b i f) (more e)
      by_first false f e more = omega (arith, s.adds x here b i f, size_stays xs (rest s) (step x b) (s.keeps x here b i))

  pub round_rests : (xs : List A) → Steps xs → (b : B) → Inv b → each_of (λ x. done x b) xs ≡ true → fold_over step xs b ≡ b
  unfolding fold_over each_of
  round_rests [] s b i e = refl
  round_rests (x ∷ xs) s b i e = by_first (done x b) refl e (round_rests xs (rest s) b i)
    where
      by_first : (d : Bool) → done x b ≡ d → pick d (each_of (λ x. done x b) xs) false ≡ true
          → (each_of (λ x. done x b) xs ≡ true → fold_over step xs b ≡ b) → fold_over step xs (step x b) ≡ b
      by_first true f e more = rw (s.rests x here b i f) (more e)
      by_first false f e more = absurd (true≢false (sym e))

  -- with a bound on the size, as many rounds as can still add leave nothing to do
  module _ (xs : List A) (s : Steps xs) (top : ℕ) (bounded : (b : B) → Inv b → size b ≤ top) where
    round_keeps : (b : B) → Inv b → Inv (fold_over step xs b)
    round_keeps = fold_keeps step Inv xs s.keeps

    pub rounds_end : (n : ℕ) (b : B) → Inv b → top ≤ size b + n
        → each_of (λ x. done x (until (λ b. each_of (λ x. done x b) xs) (fold_over step xs) n b)) xs ≡ true
    rounds_end n b i h =
        until_ends (λ b. each_of (λ x. done x b) xs) (fold_over step xs) Inv (λ b i e. round_keeps b i) (λ b. top - size b)
        (λ b i e. omega (arith, round_adds_lem xs s b i e, bounded (fold_over step xs b) (round_keeps b i))) n b i (omega arith)
