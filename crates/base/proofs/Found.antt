-- Where the first number that passes a test stands: none before it passes, and it passes if it is one of them.
use Prim.Native.Nat.{ℕ, zero, suc, ◌+◌, ◌<◌, ◌≤◌}
use mathlib.Core.Path.{◌≡◌, refl, sym, ap, ◌∙◌}
use mathlib.Core.Bool.{Bool, true, false, true≢false}
use native.Mathlib.Omega.{arith}
use native.Mathlib.Decide.{ℕ_discrete, dec_lt}
use lib.Dec.{ltb}
use borrow.Author.Tests.{ltb-false, lt-ltb, le-ltb}
use Rattle.base.specs.Pick.{pick}
use Rattle.base.specs.Loops.{first_from, any_from}
use Rattle.base.proofs.ListLoops.{first_bound}

module _ (test : ℕ → Bool) where
  pub before_first : (n i k : ℕ) → i ≤ k → k < first_from test n i → test k ≡ false
  unfolding first_from
  before_first zero i k h g = absurd (omega arith)
  before_first (suc n) i k h g = by_test (test i) refl g (before_first n (suc i) k)
    where
      by_test : (b : Bool) → test i ≡ b → k < pick b i (first_from test n (suc i))
          → (suc i ≤ k → k < first_from test n (suc i) → test k ≡ false) → test k ≡ false
      by_test true e g more = absurd (omega arith)
      by_test false e g more = elim (ℕ_discrete k i) [ yes q ↦ rw q e | no ne ↦ more (omega arith) g ]

  pub at_first : (n i : ℕ) → first_from test n i < i + n → test (first_from test n i) ≡ true
  unfolding first_from
  at_first zero i h = absurd (omega arith)
  at_first (suc n) i h = by_test (test i) refl h (at_first n (suc i))
    where
      by_test : (b : Bool) → test i ≡ b → pick b i (first_from test n (suc i)) < i + suc n
          → (first_from test n (suc i) < suc i + n → test (first_from test n (suc i)) ≡ true) → test (pick b i (first_from test n (suc i))) ≡ true
      by_test true e h more = e
      by_test false e h more = more (omega arith)

  -- none of 0, 1, .., n - 1 passes
  pub none_first : (n k : ℕ) → k < n → ltb (first_from test n 0) n ≡ false → test k ≡ false
  none_first n k h e = before_first n 0 k (omega arith) (omega (arith, ltb-false (first_from test n 0) n e))

-- the number at which no earlier one passes, and which passes if it is one of the n, is the first that passes
pub first_is : (test : ℕ → Bool) (n k : ℕ) → k ≤ n → (k < n → test k ≡ true)
    → ((j : ℕ) → j < k → test j ≡ true → ⊥) → first_from test n 0 ≡ k
first_is test n k l passes none = omega (arith, not_later, not_earlier)
  where
    not_later : first_from test n 0 ≤ k
    not_later = elim (dec_lt k (first_from test n 0)) [
      | yes h ↦
          let b = first_bound test n 0 in
          absurd (true≢false (sym (passes (omega arith)) ∙ before_first test n 0 k (omega arith) h))
      | no h ↦ omega arith
    ]

    not_earlier : k ≤ first_from test n 0
    not_earlier = elim (dec_lt (first_from test n 0) k) [
      | yes h ↦ absurd (none (first_from test n 0) h (at_first test n 0 (omega arith)))
      | no h ↦ omega arith
    ]

-- some number passes just where the first that passes is one of them
pub any_first : (test : ℕ → Bool) (n i : ℕ) → any_from test n i ≡ ltb (first_from test n i) (i + n)
unfolding first_from any_from
any_first test zero i = sym (le-ltb i (i + 0) (omega arith))
any_first test (suc n) i = by_test (test i) refl (any_first test n (suc i))
  where
    by_test : (b : Bool) → test i ≡ b → any_from test n (suc i) ≡ ltb (first_from test n (suc i)) (suc i + n)
        → any_from test (suc n) i ≡ ltb (first_from test (suc n) i) (i + suc n)
    by_test true e more = rw e (sym (lt-ltb i (i + suc n) (omega arith)))
    by_test false e more =
        let k : suc i + n ≡ i + suc n = omega arith in
        rw e (more ∙ ap (ltb (first_from test n (suc i))) k)
