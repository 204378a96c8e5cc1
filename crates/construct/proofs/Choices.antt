-- Which state stands in a successor's place: the successor itself, the oldest of its clones that joins, or a new one.
use Prim.Native.Nat.{ℕ, zero, suc, ◌+◌, ◌-◌, ◌<◌, ◌≤◌}
use mathlib.Core.Path.{◌≡◌, refl, sym, ap, ap₂, ◌∙◌}
use mathlib.Core.Bool.{Bool, true, false, not, ◌&&◌, false≢true}
use mathlib.Core.List.{List, ◌∷◌}
use native.Mathlib.Omega.{arith}
use lib.ListN.{length, get_or}
use lib.Dec.{eqb}
use borrow.Author.Tests.{eq-eqb, ne_eqb, lt-ltb, le-ltb}
use Rattle.base.specs.Pick.{pick}
use Rattle.base.specs.Loops.{first_from}
use Rattle.base.specs.Lists.{numbers_from, up_to, keep, place_of}
use Rattle.base.proofs.Found.{at_first}
use Rattle.base.proofs.Turns.{first_at, first_turn}
use Rattle.rules.specs.Limits.{limits}
use Rattle.rules.specs.Records.{Grammar}
use Rattle.rules.specs.States.{Outcome, done}
use Rattle.rules.specs.Lanes.{LaneTable}
use Rattle.rules.specs.Merge.{Merge, Joining, origin_of, can_join, clones_of, joined, join_new, with_new, place_joining, join_successor}
use Rattle.room.specs.Areas.{Room}
use Rattle.lane.specs.declared.Lanes.{Lanes}
use Rattle.groups.specs.MergeIn.{origin_in, merge_in, table_of}
use Rattle.groups.specs.Groups.{OnlyClosure}
use Rattle.groups.proofs.Merged.{origin_at}
use Rattle.construct.specs.Joins.{joins_as_clone}
use Rattle.construct.proofs.Changes.{closure_merge, closure_only}
use Rattle.construct.proofs.Frames.{table_kept}

-- ---- one clone
module _ (lanes : Lanes) (count s successor c o : ℕ) (v : Room) (low : c < count) (is : o ≡ origin_in v c) where
  pub no_clone : (r : Bool) → r ≡ eqb o successor → (o ≡ successor → ⊥) → r ≡ joins_as_clone (table_of lanes v) (merge_in v count) s successor c
  unfolding joins_as_clone
  no_clone r tested ne =
      let e : eqb (origin_of (merge_in v count) c) successor ≡ false = ne_eqb _ _ (λ z. ne (is ∙ sym (origin_at v count c low) ∙ z)) in
      rw e (tested ∙ ne_eqb o successor ne)

  module _ (from : o ≡ successor) where
    cloned_from : eqb (origin_of (merge_in v count) c) successor ≡ true
    cloned_from = eq-eqb _ _ (origin_at v count c low ∙ sym is ∙ from)

    pub clone_itself : (r : Bool) → r ≡ not (eqb c successor) → c ≡ successor → r ≡ joins_as_clone (table_of lanes v) (merge_in v count) s successor c
    unfolding joins_as_clone
    clone_itself r tested e = rw (cloned_from, eq-eqb c successor e) (tested ∙ ap not (eq-eqb c successor e))

    pub clone_tested : (r : Bool) → (c ≡ successor → ⊥) → r ≡ can_join (table_of lanes v) (merge_in v count) s c → r ≡ joins_as_clone (table_of lanes v) (merge_in v count) s successor c
    unfolding joins_as_clone
    clone_tested r ne e = rw (cloned_from, ne_eqb c successor ne) e

-- ---- the loop over the clones; the room changes in the slots of the closure alone
module _ (lanes : Lanes) (count s successor : ℕ) (v q : Room) (only : OnlyClosure v q) where
  pub tests_stay : joins_as_clone (table_of lanes q) (merge_in q count) s successor ≡ joins_as_clone (table_of lanes v) (merge_in v count) s successor
  tests_stay = ap₂ (λ table m. joins_as_clone table m s successor) (table_kept v q (closure_only v q only) lanes) (closure_merge v q only count)

  module _ (c t : ℕ) (b : Bool) (here : c < count) (left : first_from (joins_as_clone (table_of lanes v) (merge_in v count) s successor) (count - c) c ≡ t) (tested : b ≡ joins_as_clone (table_of lanes q) (merge_in q count) s successor c) where
    test_is : b ≡ joins_as_clone (table_of lanes v) (merge_in v count) s successor c
    test_is = tested ∙ ap (λ (test : ℕ → Bool). test c) tests_stay

    pub clone_found : b ≡ true → (c ≡ t) × (t < count)
    clone_found e =
        let at = first_at (joins_as_clone (table_of lanes v) (merge_in v count) s successor) count c t b here left test_is e in
        (at, omega (arith, here))

    pub clone_passed : b ≡ false → first_from (joins_as_clone (table_of lanes v) (merge_in v count) s successor) (count - (c + 1)) (c + 1) ≡ t
    clone_passed e = first_turn (joins_as_clone (table_of lanes v) (merge_in v count) s successor) count c t b here left test_is e

-- ---- the first of the clones that joins
module _ (is_clone joins : ℕ → Bool) where
  abbrev both : ℕ → Bool
  both c = pick (is_clone c) (joins c) false

  -- where it stands among the clones
  place_found : (n i : ℕ) → first_from both n i < i + n → (place_of joins (keep is_clone (numbers_from i n)) < length (keep is_clone (numbers_from i n))) × (get_or (keep is_clone (numbers_from i n)) (place_of joins (keep is_clone (numbers_from i n))) 0 ≡ first_from both n i)
  unfolding first_from keep place_of numbers_from
  place_found zero i h = absurd (omega arith)
  place_found (suc n) i h = by_clone (is_clone i) (joins i) refl h (place_found n (suc i))
    where
      xs : List ℕ
      xs = keep is_clone (numbers_from (suc i) n)

      Later : Type 0
      Later = first_from both n (suc i) < suc i + n → (place_of joins (keep is_clone (numbers_from (suc i) n)) < length (keep is_clone (numbers_from (suc i) n))) × (get_or (keep is_clone (numbers_from (suc i) n)) (place_of joins (keep is_clone (numbers_from (suc i) n))) 0 ≡ first_from both n (suc i))

      by_clone : (x y : Bool) → joins i ≡ y → pick (pick x y false) i (first_from both n (suc i)) < i + suc n → Later
          → (place_of joins (pick x (i ∷ keep is_clone (numbers_from (suc i) n)) (keep is_clone (numbers_from (suc i) n))) < length (pick x (i ∷ keep is_clone (numbers_from (suc i) n)) (keep is_clone (numbers_from (suc i) n))))
          × (get_or (pick x (i ∷ keep is_clone (numbers_from (suc i) n)) (keep is_clone (numbers_from (suc i) n))) (place_of joins (pick x (i ∷ keep is_clone (numbers_from (suc i) n)) (keep is_clone (numbers_from (suc i) n)))) 0 ≡ pick (pick x y false) i (first_from both n (suc i)))
      by_clone true true e h more = rw e (omega arith, refl)
      by_clone true false e h more = let (a, b) = more (omega arith) in rw e (omega arith, b)
      by_clone false true e h more = more (omega arith)
      by_clone false false e h more = more (omega arith)

  place_none : (n i : ℕ) → i + n ≤ first_from both n i → place_of joins (keep is_clone (numbers_from i n)) ≡ length (keep is_clone (numbers_from i n))
  unfolding first_from keep place_of numbers_from
  place_none zero i h = refl
  place_none (suc n) i h = by_clone (is_clone i) (joins i) refl h (place_none n (suc i))
    where
      Later : Type 0
      Later = suc i + n ≤ first_from both n (suc i) → place_of joins (keep is_clone (numbers_from (suc i) n)) ≡ length (keep is_clone (numbers_from (suc i) n))

      by_clone : (x y : Bool) → joins i ≡ y → i + suc n ≤ pick (pick x y false) i (first_from both n (suc i)) → Later
          → place_of joins (pick x (i ∷ keep is_clone (numbers_from (suc i) n)) (keep is_clone (numbers_from (suc i) n))) ≡ length (pick x (i ∷ keep is_clone (numbers_from (suc i) n)) (keep is_clone (numbers_from (suc i) n)))
      by_clone true true e h more = absurd (omega arith)
      by_clone true false e h more = rw e (ap suc (more (omega arith)))
      by_clone false true e h more = more (omega arith)
      by_clone false false e h more = more (omega arith)

-- a clone is another state than the successor
pub clone_other : (table : LaneTable) (m : Merge) (s successor count c : ℕ) → c ≡ first_from (joins_as_clone table m s successor) count 0 → c < count → c ≡ successor → ⊥
unfolding joins_as_clone
clone_other table m s successor count c is h e =
    let k : first_from (joins_as_clone table m s successor) count 0 < 0 + count = omega (arith, is) in
    let t : joins_as_clone table m s successor c ≡ true = rw is (at_first (joins_as_clone table m s successor) count 0 k) in
    false≢true (sym (never (eqb (origin_of m c) successor) (can_join table m s c) (eqb c successor) (eq-eqb c successor e)) ∙ t)
  where
    never : (x y z : Bool) → z ≡ true → pick (x && not z) y false ≡ false
    never true y true p = refl
    never false y true p = refl
    never x y false p = absurd (false≢true p)

-- ---- which state stands in the successor's place
module _ (g : Grammar) (table : LaneTable) (s successor count : ℕ) (m : Merge) (counts : length m.states ≡ count) where
  abbrev old : ℕ → Outcome Joining
  old t = done (record { merge = joined g s successor t m; state = t })

  abbrev is_clone : ℕ → Bool
  is_clone c = eqb (origin_of m c) successor && not (eqb c successor)

  pub takes_successor : can_join table m s successor ≡ true → join_successor limits g table s successor m ≡ old successor
  unfolding join_successor place_joining place_of
  takes_successor e = rw (e, lt-ltb 0 (suc (length (clones_of m successor))) (omega arith))

  clones_are : clones_of m successor ≡ keep is_clone (numbers_from 0 count)
  unfolding clones_of up_to
  clones_are = rw counts

  module _ (no : can_join table m s successor ≡ false) where
    pub takes_clone : (c : ℕ) → c ≡ first_from (joins_as_clone table m s successor) count 0 → c < count → join_successor limits g table s successor m ≡ old c
    unfolding join_successor place_joining place_of joins_as_clone
    takes_clone c is h =
        let (a, b) = place_found is_clone (can_join table m s) count 0 (omega (arith, is)) in
        rw (no, clones_are, lt-ltb (suc (place_of (can_join table m s) (keep is_clone (numbers_from 0 count)))) (suc (length (keep is_clone (numbers_from 0 count)))) (omega arith), b, ← is)

    pub takes_new : (c : ℕ) → c ≡ first_from (joins_as_clone table m s successor) count 0 → count ≤ c → join_successor limits g table s successor m ≡ with_new count (join_new limits g table s successor m)
    unfolding join_successor place_joining place_of joins_as_clone
    takes_new c is h =
        let a = place_none is_clone (can_join table m s) count 0 (omega (arith, is)) in
        rw (no, clones_are, le-ltb (suc (place_of (can_join table m s) (keep is_clone (numbers_from 0 count)))) (suc (length (keep is_clone (numbers_from 0 count)))) (omega arith), counts)
