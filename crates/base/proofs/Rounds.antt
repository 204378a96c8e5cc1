-- Rounds of a step for each of a list of numbers, those below a count that pass a test. A step that finds what it would add changes
-- nothing; so a round says whether something was lacking, and one that says no is the last.
use Prim.Native.Nat.{ℕ, ◌+◌, ◌-◌, ◌≤◌, ◌<◌}
use mathlib.Core.Path.{◌≡◌, refl, sym, ap, ◌∙◌}
use mathlib.Core.Bool.{Bool, true, false, not, false≢true}
use mathlib.Core.List.{List, [], ◌∷◌}
use borrow.Author.Tests.{not-true, not-false}
use Rattle.base.specs.Pick.{pick}
use Rattle.base.specs.Loops.{until}
use Rattle.base.specs.Lists.{each_of, fold_over}
use Rattle.base.proofs.ListLoops.{kept, kept_each_turn, kept_each_fails, kept_each_end, until_turn, until_end}

module _ {A : Type 0} (step : ℕ → A → A) (holds : A → ℕ → Bool) (rests : (i : ℕ) (a : A) → holds a i ≡ true → step i a ≡ a) where
  pub fold_rests : (is : List ℕ) (a : A) → each_of (holds a) is ≡ true → fold_over step is a ≡ a
  unfolding fold_over each_of
  fold_rests [] a e = refl
  fold_rests (i ∷ is) a e = by_first (holds a i) refl e (fold_rests is a)
    where
      by_first : (b : Bool) → holds a i ≡ b → pick b (each_of (holds a) is) false ≡ true → (each_of (holds a) is ≡ true → fold_over step is a ≡ a) → fold_over step is (step i a) ≡ a
      by_first true f e more = rw (rests i a f) (more e)
      by_first false f e more = absurd (false≢true e)

  -- ---- one round, at number i of count: something was lacking, or what is left says whether something is
  module _ (test : ℕ → Bool) where
    module _ (count i : ℕ) (a later : A) (new changed after t : Bool) (h : i < count)
        (e : pick changed true (not (each_of (holds a) (kept test count i))) ≡ t)
        (made : later ≡ pick (test i) (step i a) a) (says : new ≡ pick (test i) (not (holds a i)) false) where
      unchanged : new ≡ false → later ≡ a
      unchanged z = by_test (test i) refl
        where
          by_test : (b : Bool) → test i ≡ b → later ≡ a
          by_test true f =
              let held : holds a i ≡ true = not-false (holds a i) (sym (says ∙ rw f) ∙ z) in
              made ∙ rw f (rests i a held)
          by_test false f = made ∙ rw f

      pub changed_turn : after ≡ pick changed true new → pick after true (not (each_of (holds later) (kept test count (i + 1)))) ≡ t
      changed_turn p = by_changed changed refl new refl
        where
          goal : Bool → Type 0
          goal b = pick b true (not (each_of (holds later) (kept test count (i + 1)))) ≡ t

          by_changed : (c : Bool) → changed ≡ c → (d : Bool) → new ≡ d → goal after
          by_changed true f d z = rw (p, f) (rw f at e)
          by_changed false f true z =
              let fails : false ≡ each_of (holds a) (kept test count i) = kept_each_fails test (holds a) count i _ new h refl says z in
              let whole : true ≡ t = ap not fails ∙ rw f at e in
              rw (p, f, z) whole
          by_changed false f false z =
              let same : each_of (holds a) (kept test count (i + 1)) ≡ each_of (holds a) (kept test count i) = kept_each_turn test (holds a) count i _ new h refl says z in
              rw (p, f, z, unchanged z, same) (rw f at e)

    pub changed_end : (count i : ℕ) (a : A) (changed t : Bool) → count ≤ i → pick changed true (not (each_of (holds a) (kept test count i))) ≡ t → changed ≡ t
    changed_end count i a true t h e = e
    changed_end count i a false t h e = ap not (kept_each_end test (holds a) count i _ h refl) ∙ e

  -- ---- the rounds, turn of bound made
  module _ (is : List ℕ) (settled : A → Bool) (round : A → A) (all_hold : (a : A) → settled a ≡ each_of (holds a) is) (each-made : (a : A) → round a ≡ fold_over step is a)
      (bound turn : ℕ) (a later t : A) (new : Bool) (e : until settled round (bound - turn) a ≡ t) (says : new ≡ not (settled a)) (made : later ≡ round a) where
    pub rounds_turn : turn < bound → not new ≡ false → until settled round (bound - (turn + 1)) later ≡ t
    rounds_turn h z = until_turn settled round bound turn a t later (settled a) h e refl (not-true (settled a) (sym says ∙ not-false new z)) made

    pub rounds_stop : not new ≡ true → later ≡ t
    rounds_stop z =
        let over : settled a ≡ true = not-false (settled a) (sym says ∙ not-true new z) in
        made ∙ each-made a ∙ fold_rests is a (sym (all_hold a) ∙ over) ∙ until_end settled round bound turn a t (settled a) e refl over
