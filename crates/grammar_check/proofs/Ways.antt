-- What the searches of this crate go by.
use Prim.Native.Nat.{ℕ, ◌+◌, ◌-◌}
use mathlib.Core.Path.{◌≡◌, ap, ap₂, ◌∙◌}
use mathlib.Core.Bool.{Bool}
use native.Mathlib.Omega.{arith}
use native.Mathlib.Nat.{sub-zero}
use lib.ListN.{length}
use lib.Dec.{ltb}
use Rattle.base.specs.Loops.{first_from, any_from, place_below}
use Rattle.base.proofs.ListLoops.{first_whole}
use Rattle.base.proofs.Found.{any_first}
use Rattle.rules.specs.Records.{Grammar}
use Rattle.rules.specs.Grammar.{is_left_side_of, has_production}

-- ---- a search over all of a count that is known by another name
pub first_of_all : (test : ℕ → Bool) (n m : ℕ) → n ≡ m → place_below n (first_from test (n - 0) 0) ≡ place_below m (first_from test m 0)
first_of_all test n m e = ap₂ place_below e (first_whole test n m e)

-- ---- refusal 7
pub any_production : (g : Grammar) (a n : ℕ) → n ≡ length g → any_from (is_left_side_of g a) (n - 0) 0 ≡ has_production g a
unfolding has_production
any_production g a n e =
    let z : 0 + length g ≡ length g = omega arith in
    rw (sub-zero, e) (any_first (is_left_side_of g a) (length g) 0 ∙ ap (ltb (first_from (is_left_side_of g a) (length g) 0)) z)
