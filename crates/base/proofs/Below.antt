-- What it says that a search answered a place, and that it answered none.
use Prim.Native.Nat.{ℕ, ◌<◌, ◌≤◌}
use mathlib.Core.Path.{◌≡◌, sym, ◌∙◌}
use mathlib.Core.Logic.{◌⊎◌, inl, inr}
use borrow.Author.Rules.{rules}
use borrow.Author.Tests.{tests, lt-ltb, le-ltb}
use Rattle.std.proofs.Common.{Option, Some, None}
use Rattle.std.proofs.lemmas.Bool.{cases_lt}
use Rattle.base.specs.Loops.{place_below}

module _ (n i : ℕ) (r : Option ℕ) (e : r ≡ place_below n i) where
  pub placed : (k : ℕ) → r ≡ Some k → (k ≡ i) × (k < n)
  placed k f = by (cases_lt i n) (sym f ∙ e)
    where
      by : (i < n) ⊎ (n ≤ i) → Some k ≡ place_below n i → (k ≡ i) × (k < n)
      by (inl h) g = let q : Some k ≡ Some i = rw (lt-ltb i n h) at g in search (rules, tests)
      by (inr h) g = let q : Some k ≡ None = rw (le-ltb i n h) at g in search (rules, tests)

  pub unplaced : ((k : ℕ) → r ≡ Some k → ⊥) → n ≤ i
  unplaced not_one = by (cases_lt i n)
    where
      by : (i < n) ⊎ (n ≤ i) → n ≤ i
      by (inl h) = absurd (not_one i (e ∙ rw (lt-ltb i n h)))
      by (inr h) = h
