-- What the answers of `join_into` and `insert` say: whether the set changed.
use Prim.Native.Nat.{ℕ}
use mathlib.Core.Path.{◌≡◌, refl, sym, ap, ◌∙◌}
use mathlib.Core.Logic.{inr}
use mathlib.Core.Bool.{Bool, true, false, not}
use lib.Dec.{eqb}
use borrow.Author.Tests.{eqb-true, eq-eqb}
use Rattle.rules.specs.Tokens.{has, single, join, within}
use Rattle.sets.proofs.Laws.{has_join, within_true, within_single, join_within}

same_tests : (p q : Bool) → (p ≡ true → q ≡ true) → (q ≡ true → p ≡ true) → p ≡ q
same_tests true q f g = sym (f refl)
same_tests false true f g = g refl
same_tests false false f g = refl

module _ (a b : ℕ) where
  within_if_same : eqb (join a b) a ≡ true → within b a ≡ true
  within_if_same e = (within_true b a).1 (λ t h. rw (eqb-true (join a b) a e) at ((has_join a b t).1 (inr h)))

  pub joined_changed : not (within b a) ≡ not (eqb (join a b) a)
  joined_changed = ap not (same_tests (within b a) (eqb (join a b) a) (λ e. eq-eqb _ _ (join_within a b e)) within_if_same)

pub inserted_changed : (a t : ℕ) → not (has a t) ≡ not (eqb (join a (single t)) a)
inserted_changed a t = ap not (sym (within_single t a)) ∙ joined_changed a (single t)
