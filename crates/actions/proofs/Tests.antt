-- The tests of a state's actions, in the form that a search at a need goes by.
use Prim.Native.Nat.{ℕ}
use mathlib.Core.Path.{◌≡◌, refl, sym, ap, ◌∙◌}
use mathlib.Core.Bool.{Bool, true, false, not, ◌&&◌, ◌||◌}
use mathlib.Core.List.{List, [], ◌∷◌}
use native.Mathlib.Omega.{arith}
use lib.ListN.{length}
use lib.Dec.{eqb}
use borrow.Author.Tests.{ne_eqb}
use Rattle.base.specs.Pick.{pick}
use Rattle.base.specs.Lists.{keep, some_of, each_of}
use Rattle.rules.specs.Records.{Grammar}
use Rattle.rules.specs.Tokens.{has, disjoint}
use Rattle.rules.specs.Grammar.{at_end}
use Rattle.rules.specs.States.{Entry, reductions, shifts}
use Rattle.rules.specs.Lanes.{meets_none, shift_conflicts, reduce_conflicts}
use Rattle.room.specs.Areas.{Room}
use Rattle.states.specs.StatesIn.{entry_in, run_in}
use Rattle.conflicts.specs.Counts.{held_shifts, held_shifts_in}
use Rattle.actions.specs.Conflicting.{reduces_on, meets_other, shift_conflicts_in, meets_other_in, reduce_conflicts_in}

-- ---- tests of what is kept of a list
module _ {A : Type 0} (kept test : A → Bool) where
  some_kept : (xs : List A) → some_of (λ x. kept x && test x) xs ≡ some_of test (keep kept xs)
  unfolding some_of keep
  some_kept [] = refl
  some_kept (x ∷ xs) = go (kept x) (some_kept xs)
    where
      go : (b : Bool) → some_of (λ x. kept x && test x) xs ≡ some_of test (keep kept xs) → pick (b && test x) true (some_of (λ x. kept x && test x) xs) ≡ some_of test (pick b (x ∷ keep kept xs) (keep kept xs))
      go true same = ap (pick (test x) true) same
      go false same = same

  not_each_kept : (xs : List A) → some_of (λ x. kept x && not (test x)) xs ≡ not (each_of test (keep kept xs))
  unfolding some_of each_of keep
  not_each_kept [] = refl
  not_each_kept (x ∷ xs) = go (kept x) (test x) refl (not_each_kept xs)
    where
      go : (b d : Bool) → test x ≡ d → some_of (λ x. kept x && not (test x)) xs ≡ not (each_of test (keep kept xs))
          → pick (b && not (test x)) true (some_of (λ x. kept x && not (test x)) xs) ≡ not (each_of test (pick b (x ∷ keep kept xs) (keep kept xs)))
      go true true e same = rw e same
      go true false e same = rw e
      go false d e same = same

some_none : {A : Type 0} (test : A → Bool) (xs : List A) → length (keep test xs) ≡ 0 → some_of test xs ≡ false
unfolding some_of keep
some_none test [] e = refl
some_none test (x ∷ xs) e = go (test x) (some_none test xs) e
  where
    go : (b : Bool) → (length (keep test xs) ≡ 0 → some_of test xs ≡ false) → length (pick b (x ∷ keep test xs) (keep test xs)) ≡ 0 → pick b true (some_of test xs) ≡ false
    go true later e = absurd (omega arith)
    go false later e = later e

some_one : {A : Type 0} (test : A → Bool) (xs : List A) → (length (keep test xs) ≡ 0 → ⊥) → some_of test xs ≡ true
unfolding some_of keep
some_one test [] ne = absurd (ne refl)
some_one test (x ∷ xs) ne = go (test x) (some_one test xs) ne
  where
    go : (b : Bool) → ((length (keep test xs) ≡ 0 → ⊥) → some_of test xs ≡ true) → (length (pick b (x ∷ keep test xs) (keep test xs)) ≡ 0 → ⊥) → pick b true (some_of test xs) ≡ true
    go true later ne = refl
    go false later ne = later ne

-- ---- a test of the entries is one of the reductions among them
pub shift_whole : (g : Grammar) (r : Room) (first end t : ℕ) → some_of (reduces_on g t) (run_in r first end) ≡ shift_conflicts_in g r first end t
unfolding reduces_on shift_conflicts reductions
shift_whole g r first end t = some_kept (λ (e : Entry). at_end g e.item) (λ (e : Entry). has e.set t) (run_in r first end)

pub meets_whole : (g : Grammar) (r : Room) (first end k : ℕ) → some_of (meets_other g (entry_in r k)) (run_in r first end) ≡ meets_other_in g r first end k
unfolding meets_other meets_none reductions
meets_whole g r first end k =
    not_each_kept (λ (f : Entry). at_end g f.item) (λ (f : Entry). eqb (entry_in r k).item f.item || disjoint (entry_in r k).set f.set) (run_in r first end)

-- ---- a reduction
module _ (g : Grammar) (r : Room) (first end k h : ℕ) (held : h ≡ held_shifts_in g r first end k) where
  pub reduce_holds : (h ≡ 0 → ⊥) → not (eqb h 0) ≡ reduce_conflicts_in g r first end k
  unfolding reduce_conflicts held_shifts
  reduce_holds ne = rw (ne_eqb h 0 ne, some_one (has (entry_in r k).set) (shifts g (run_in r first end)) (λ e. ne (held ∙ e)))

  pub reduce_meets : (b : Bool) → h ≡ 0 → b ≡ meets_other_in g r first end k → b ≡ reduce_conflicts_in g r first end k
  unfolding reduce_conflicts held_shifts
  reduce_meets b e is = rw (some_none (has (entry_in r k).set) (shifts g (run_in r first end)) (sym held ∙ e)) is
