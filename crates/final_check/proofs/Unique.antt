-- No second answer meets the promise of the final check, and no other least sets do.
use Prim.Native.Nat.{ℕ}
use mathlib.Core.Path.{◌≡◌}
use mathlib.Core.List.{List}
use Rattle.std.specs.Prelude.{Option}
use Rattle.rules.specs.declared.StateIndex.{StateIndex}
use Rattle.base.proofs.Unique.{one_answer}
use Rattle.least_steps.specs.Least.{least_of}
use Rattle.least_sets.specs.Rounds.{found_least}
use Rattle.final_check.specs.Fails.{failing}

module _ (bytes : List ℕ) (count : ℕ) (work : List ℕ) where
  pub failing_one : (r s : Option StateIndex) → r ≡ failing bytes count work → s ≡ failing bytes count work → r ≡ s
  failing_one = one_answer (failing bytes count work)

  pub least_one : (q p : List ℕ) → least_of count q ≡ found_least bytes count work → least_of count p ≡ found_least bytes count work → least_of count q ≡ least_of count p
  least_one q p = one_answer (found_least bytes count work) (least_of count q) (least_of count p)
