-- A loop over those of 0, 1, .., n - 1 that pass a test, as long as no step refuses: what is left of it gives the same outcome.
use Prim.Native.Nat.{ℕ, ◌+◌, ◌<◌, ◌≤◌}
use mathlib.Core.Path.{◌≡◌, refl, sym, ap, ◌∙◌}
use mathlib.Core.Bool.{Bool, true, false}
use mathlib.Core.List.{List, [], ◌∷◌}
use Rattle.base.specs.Lists.{fold_over}
use Rattle.base.proofs.ListLoops.{kept, kept_fold_turn, kept_fold_end}
use Rattle.rules.specs.States.{Outcome, done, refused, each_in_turn}
use Rattle.rules.specs.declared.BuildRefusal.{BuildRefusal}

-- ---- steps in turn are a fold over outcomes
module _ {A B : Type 0} (step : A → B → Outcome B) where
  abbrev step_on : A → Outcome B → Outcome B
  step_on x (done b) = step x b
  step_on x (refused why) = refused why

  stays_refused : (why : BuildRefusal) (xs : List A) → fold_over step_on xs (refused why) ≡ refused why
  unfolding fold_over
  stays_refused why [] = refl
  stays_refused why (x ∷ xs) = stays_refused why xs

  as_fold : (xs : List A) (b : B) → each_in_turn step xs b ≡ fold_over step_on xs (done b)
  unfolding each_in_turn fold_over
  as_fold [] b = refl
  as_fold (x ∷ xs) b = by_first (step x b) (as_fold xs)
    where
      by_first : (o : Outcome B) → ((b : B) → each_in_turn step xs b ≡ fold_over step_on xs (done b)) → elim o [ done b' ↦ each_in_turn step xs b' | refused why ↦ refused why ] ≡ fold_over step_on xs o
      by_first (done b') more = more b'
      by_first (refused why) more = sym (stays_refused why xs)

-- ---- the loop
module _ {B : Type 0} (test : ℕ → Bool) (step : ℕ → B → Outcome B) (n i : ℕ) (a : B) (t : Outcome B) (left : each_in_turn step (kept test n i) a ≡ t) where
  as_left : fold_over (step_on step) (kept test n i) (done a) ≡ t
  as_left = sym (as_fold step (kept test n i) a) ∙ left

  pub turn_passed : i < n → test i ≡ false → each_in_turn step (kept test n (i + 1)) a ≡ t
  turn_passed h f = as_fold step (kept test n (i + 1)) a ∙ kept_fold_turn test (step_on step) n i (done a) t (done a) h as_left (rw f)

  after_step : i < n → test i ≡ true → fold_over (step_on step) (kept test n (i + 1)) (step i a) ≡ t
  after_step h f = kept_fold_turn test (step_on step) n i (done a) t (step i a) h as_left (rw f)

  pub turn_done : i < n → test i ≡ true → (b : B) → step i a ≡ done b → each_in_turn step (kept test n (i + 1)) b ≡ t
  turn_done h f b e = as_fold step (kept test n (i + 1)) b ∙ ap (fold_over (step_on step) (kept test n (i + 1))) (sym e) ∙ after_step h f

  pub turn_refused : i < n → test i ≡ true → (why : BuildRefusal) → step i a ≡ refused why → refused why ≡ t
  turn_refused h f why e = sym (stays_refused step why (kept test n (i + 1))) ∙ ap (fold_over (step_on step) (kept test n (i + 1))) (sym e) ∙ after_step h f

  pub turn_end : n ≤ i → done a ≡ t
  turn_end h = kept_fold_end test (step_on step) n i (done a) t h as_left
