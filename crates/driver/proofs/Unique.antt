-- No second answer meets the promises of a move, of a run and of the driver: answer, stack and list are determined.
use Prim.Native.Nat.{ℕ}
use mathlib.Core.Path.{◌≡◌, refl, sym, ap, ◌∙◌}
use mathlib.Core.List.{List}
use Rattle.std.specs.Prelude.{Result}
use Rattle.rules.specs.Run as run
use Rattle.rules.specs.Run.{RunResult}
use Rattle.rules.specs.Drive.{DriveResult}
use Rattle.rules.specs.declared.RunAnswer.{RunAnswer}
use Rattle.rules.specs.declared.DriveRefusal.{DriveRefusal}
use Rattle.driver.specs.declared.moves.Standing.{Standing}
use Rattle.std.proofs.Common.{Continue, Break}
use Rattle.driver.specs.Standings.{Moved, moved}
use Rattle.driver.specs.Results.{ran_in, drove_in}

-- a move's answer and rooms are seen in what it says
abbrev standing_of : run.Moved ℕ → run.Standing ℕ
standing_of (run.goes s) = s
standing_of (run.ends end s) = s

abbrev without_rooms : run.Standing ℕ → Standing
without_rooms s = record { depth = s.depth; listed = s.listed; steps = s.steps; place = s.place }

abbrev moved_by : run.Moved ℕ → Moved
moved_by (run.goes s) = Continue (without_rooms s)
moved_by (run.ends end s) = Break (end, without_rooms s)

module _ (stack list : List ℕ) where
  moved_back : (m : Moved) → moved_by (moved stack list m) ≡ m
  moved_back (Continue s) = refl
  moved_back (Break (end, s)) = refl

  stack_back : (m : Moved) → (standing_of (moved stack list m)).stack ≡ stack
  stack_back (Continue s) = refl
  stack_back (Break (end, s)) = refl

  list_back : (m : Moved) → (standing_of (moved stack list m)).list ≡ list
  list_back (Continue s) = refl
  list_back (Break (end, s)) = refl

module _ (stack stack' list list' : List ℕ) where
  pub move_one : (promised : run.Moved ℕ) (m m' : Moved) → moved stack list m ≡ promised → moved stack' list' m' ≡ promised
      → (m ≡ m') × (stack ≡ stack') × (list ≡ list')
  move_one promised m m' e f =
      let same = e ∙ sym f in (
        sym (moved_back stack list m) ∙ ap moved_by same ∙ moved_back stack' list' m',
        sym (stack_back stack list m) ∙ ap (λ (r : run.Moved ℕ). (standing_of r).stack) same ∙ stack_back stack' list' m',
        sym (list_back stack list m) ∙ ap (λ (r : run.Moved ℕ). (standing_of r).list) same ∙ list_back stack' list' m',
      )

  pub drive_one : (promised : DriveResult) (a b : Result RunAnswer DriveRefusal) → drove_in a stack list ≡ promised → drove_in b stack' list' ≡ promised
      → (a ≡ b) × (stack ≡ stack') × (list ≡ list')
  drive_one promised a b e f =
      let same = e ∙ sym f in
      (ap (λ (r : DriveResult). r.answer) same, ap (λ (r : DriveResult). r.stack) same, ap (λ (r : DriveResult). r.list) same)

  pub run_one : (promised : RunResult ℕ) (a b : RunAnswer) → ran_in a stack list ≡ promised → ran_in b stack' list' ≡ promised
      → (a ≡ b) × (stack ≡ stack') × (list ≡ list')
  run_one promised a b e f =
      let same = e ∙ sym f in
      (ap (λ (r : RunResult ℕ). r.answer) same, ap (λ (r : RunResult ℕ). r.stack) same, ap (λ (r : RunResult ℕ). r.list) same)
