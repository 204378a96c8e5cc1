-- What shifts of a word say of its tokens, in the form that a search at a need goes by.
use Prim.Native.Nat.{ℕ, ◌+◌, ◌-◌, ◌*◌, ◌/◌, ◌%◌, ◌^◌, ◌<◌, ◌≤◌}
use mathlib.Core.Path.{◌≡◌, sym, ◌∙◌}
use mathlib.Core.Bool.{Bool, true, false}
use native.Mathlib.Omega.{arith}
use native.Mathlib.Nat.{div-eq_of_lt}
use native.Mathlib.Decide.{dec_le}
use lib.Pow.{pow_pos}
use borrow.Author.Tests.{eqb-true}
use Rattle.base.proofs.Words.{one_shifted}
use Rattle.rules.specs.Tokens.{has, single, without, all}

pub shifted_one : (t : ℕ) → t < 64 → 1 * 2 ^ t % 2 ^ 64 ≡ single t
unfolding single
shifted_one = one_shifted

module _ (s t p : ℕ) (b : Bool) (e : b ≡ has s t) where
  pub had_le : b ≡ true → p ≡ single t → p ≤ s
  unfolding has single
  had_le f q = elim (dec_le (2 ^ t) s) [
    | yes h ↦ omega arith
    | no h ↦
        let g : s / 2 ^ t % 2 ≡ 1 = eqb-true _ _ (sym e ∙ f) in
        let z : s / 2 ^ t ≡ 0 = div-eq_of_lt (omega arith) in
        absurd (omega arith)
  ]

  pub without_had : b ≡ true → p ≡ single t → s - p ≡ without s t
  unfolding without single
  without_had f q = rw (← e, f, q)

pub without_lacked : (s t : ℕ) (b : Bool) → b ≡ has s t → b ≡ false → s ≡ without s t
unfolding without
without_lacked s t b e f = rw (← e, f)

pub single_positive : (t p : ℕ) → p ≡ single t → 1 ≤ p
unfolding single
single_positive t p q = omega (arith, pow_pos t)

pub all_is : (n p : ℕ) → p ≡ single (n + 1) → p - 1 ≡ all n
unfolding single all
all_is n p q = rw q
