-- A search by halving: what stands below `low` passes the test, and what stands at `high` does not.
use Prim.Native.Nat.{ℕ, ◌+◌, ◌<◌, ◌≤◌}
use mathlib.Core.Path.{◌≡◌, sym, ap, ◌∙◌}
use mathlib.Core.Bool.{Bool, true, false, not, true≢false}
use native.Mathlib.Omega.{arith}
use Rattle.base.specs.Loops.{first_from}
use Rattle.base.specs.Halving.{PassInFront}
use Rattle.base.proofs.Found.{first_is}

pub record Halved (test : ℕ → Bool) (n low high : ℕ) : Type 0 where
  pub below : (j : ℕ) → j < low → test j ≡ true
  pub above : high < n → test high ≡ false

pub halved_starts : (test : ℕ → Bool) (n : ℕ) → Halved test n 0 n
halved_starts test n = record { below = λ j h. absurd (omega arith); above = λ h. absurd (omega arith) }

module _ (test : ℕ → Bool) (n low high middle : ℕ) (so_far : Halved test n low high) (b : Bool) (asked : b ≡ test middle) where
  pub halved_low : PassInFront n test → middle < n → b ≡ true → Halved test n (middle + 1) high
  halved_low front h e = record {
    below = λ j l. front j middle (omega arith) h (sym asked ∙ e);
    above = so_far.above;
  }

  pub halved_high : b ≡ false → Halved test n low middle
  halved_high e = record { below = so_far.below; above = λ h. sym asked ∙ e }

pub halved_ends : (test : ℕ → Bool) (n low high : ℕ) → low ≤ high → high ≤ low → high ≤ n → Halved test n low high
    → low ≡ first_from (λ i. not (test i)) n 0
halved_ends test n low high o h w so_far =
    let same : high ≡ low = omega arith in
    let above : low < n → test low ≡ false = rw same at so_far.above in
    sym (first_is (λ i. not (test i)) n low (omega arith)
    (λ l. ap not (above l))
    (λ j l t. true≢false (sym t ∙ ap not (so_far.below j l))))
