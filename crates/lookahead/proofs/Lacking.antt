-- A token that one set has and another lacks is one of those that a set has room for.
use Prim.Native.Nat.{ℕ, zero, suc, ◌+◌, ◌^◌, ◌<◌, ◌≤◌}
use mathlib.Core.Path.{◌≡◌, refl, sym, ◌∙◌}
use mathlib.Core.Bool.{Bool, true, false, not}
use native.Mathlib.Omega.{arith}
use native.Mathlib.Decide.{ℕ_discrete}
use borrow.Author.Tests.{not-true, not-false}
use Rattle.base.specs.Pick.{pick}
use Rattle.base.specs.Loops.{any_from}
use Rattle.rules.specs.Tokens.{has, within}
use Rattle.sets.proofs.Laws.{has_true, has_false, has_below, within_false}
use Rattle.room.specs.Areas.{Room}
use Rattle.lookahead.specs.Sets.{set_at, has_token, lacks_some, lacks_token, lacks_below, max_tokens}

any_here : (test : ℕ → Bool) (n i k : ℕ) → i ≤ k → k < i + n → test k ≡ true → any_from test n i ≡ true
unfolding any_from
any_here test zero i k h g e = absurd (omega arith)
any_here test (suc n) i k h g e = elim (ℕ_discrete k i) [
  | yes q ↦ rw (← q, e)
  | no ne ↦ by_test (test i) (any_here test n (suc i) k (omega arith) (omega arith) e)
]
  where
    by_test : (b : Bool) → any_from test n (suc i) ≡ true → pick b true (any_from test n (suc i)) ≡ true
    by_test true more = refl
    by_test false more = more

-- ---- all tokens
module _ (into from a b : ℕ) (r : Room) (w : Bool) (from_is : a ≡ set_at r from) (into-is : b ≡ set_at r into) (says : w ≡ within a b) where
  pub none_lacking : w ≡ true → lacks_below into from r 0 ≡ lacks_some into from r
  unfolding any_from
  none_lacking z = rw (← from_is, ← into-is, ← says, z)

  pub some_lacking : w ≡ false → a < 2 ^ max_tokens → lacks_below into from r max_tokens ≡ lacks_some into from r
  unfolding lacks_token
  some_lacking z small =
      let (t, p, q) = within_false a b (sym says ∙ z) in
      let low : t < max_tokens = has_below max_tokens a t small p in
      let first : has (set_at r from) t ≡ true = rw (← from_is) ((has_true a t).1 p) in
      let second : has (set_at r into) t ≡ false = rw (← into-is) ((has_false b t).1 q) in
      any_here (lacks_token into from r) max_tokens 0 t (omega arith) (omega arith) (rw (first, second))
      ∙ rw (← from_is, ← into-is, ← says, z)
