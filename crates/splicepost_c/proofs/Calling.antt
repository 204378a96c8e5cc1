-- The whole calls: what the builder and the driver gave, in numbers.
use Prim.Native.Nat.{ℕ}
use mathlib.Core.Path.{◌≡◌, sym, ap, ◌∙◌}
use mathlib.Core.List.{List}
use Rattle.std.specs.Prelude.{Result}
use Rattle.rules.specs.Limits.{limits}
use Rattle.rules.specs.Answers.{build_said, drive_said}
use Rattle.rules.specs.Answers as rules
use Rattle.rules.specs.Build.{BuildResult, build}
use Rattle.rules.specs.Drive.{DriveResult, drive}
use Rattle.rules.specs.declared.BuildRefusal.{BuildRefusal}
use Rattle.rules.specs.declared.DriveRefusal.{DriveRefusal}
use Rattle.rules.specs.declared.TableSize.{TableSize}
use Rattle.rules.specs.declared.RunAnswer.{RunAnswer}
use Rattle.table_records.specs.Result.{gave_in}
use Rattle.driver.specs.Results.{drove_in}
use Rattle.answers.specs.Meant.{meant}
use Rattle.answers.specs.declared.Said.{Said}
use Rattle.splicepost_c.specs.Numbers.{number, numbers, with_numbers}
use Rattle.splicepost_c.specs.Calls.{built_in, driven_in, built_told, driven_told, build_call, drive_call}

module _ (answer after : List ℕ) (r : ℕ) where
  -- the number and the cells of s
  abbrev Tells : rules.Said → Type 0
  Tells s = (r ≡ number s) × (after ≡ with_numbers (numbers s) answer)

  module _ {A : Type 0} (call : ℕ → List ℕ → A) where
    as_meant : (s t : rules.Said) → s ≡ t → Tells t → call r after ≡ call (number s) (with_numbers (numbers s) answer)
    as_meant s t is tells =
        ap (λ (n : ℕ). call n after) tells.0
        ∙ ap (call (number t)) tells.1
        ∙ ap (λ (u : rules.Said). call (number u) (with_numbers (numbers u) answer)) (sym is)

  module _ (said : Said) where
    pub build_called : (mode : ℕ) (grammar table work table' work' : List ℕ) (a : Result TableSize BuildRefusal) → gave_in a table' work' ≡ build limits mode grammar table work
        → build_said a ≡ meant said → Tells (meant said) → built_in r table' work' after ≡ build_call mode grammar table work answer
    unfolding build_call
    build_called mode grammar table work table' work' a gives is tells =
        as_meant (λ n cells. built_in n table' work' cells) (build_said a) (meant said) is tells ∙ ap (λ (b : BuildResult). built_told b answer) gives

    pub drive_called : (grammar table tokens : List ℕ) (limit : ℕ) (stack list stack' list' : List ℕ) (a : Result RunAnswer DriveRefusal)
        → drove_in a stack' list' ≡ drive limits grammar table tokens limit stack list
        → drive_said a ≡ meant said → Tells (meant said) → driven_in r stack' list' after ≡ drive_call grammar table tokens limit stack list answer
    unfolding drive_call
    drive_called grammar table tokens limit stack list stack' list' a gives is tells =
        as_meant (λ n cells. driven_in n stack' list' cells) (drive_said a) (meant said) is tells ∙ ap (λ (d : DriveResult). driven_told d answer) gives
