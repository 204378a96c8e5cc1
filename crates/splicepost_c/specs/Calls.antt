-- What the calls of the builder and of the driver give to a program in C: the number returned, the rooms, and the cells of the answer.
use Rattle.std.specs.Prelude.{ℕ, List}
use Rattle.rules.specs.Limits.{limits}
use Rattle.rules.specs.Answers.{build_said, drive_said}
use Rattle.rules.specs.Build.{BuildResult, build}
use Rattle.rules.specs.Drive.{DriveResult, drive}
use Rattle.splicepost_c.specs.Numbers.{number, numbers, with_numbers}

pub record BuildCall : Type 0 where
  pub returned : ℕ
  pub table : List ℕ
  pub work : List ℕ
  pub answer : List ℕ

pub record DriveCall : Type 0 where
  pub returned : ℕ
  pub stack : List ℕ
  pub list : List ℕ
  pub answer : List ℕ

-- what is returned, with the rooms and the answer
abbrev pub built_in : ℕ → List ℕ → List ℕ → List ℕ → BuildCall
built_in returned table work answer = record { returned = returned; table = table; work = work; answer = answer }

abbrev pub driven_in : ℕ → List ℕ → List ℕ → List ℕ → DriveCall
driven_in returned stack list answer = record { returned = returned; stack = stack; list = list; answer = answer }

-- a result in numbers
abbrev pub built_told : BuildResult → List ℕ → BuildCall
built_told r answer = built_in (number (build_said r.answer)) r.table r.work (with_numbers (numbers (build_said r.answer)) answer)

abbrev pub driven_told : DriveResult → List ℕ → DriveCall
driven_told r answer = driven_in (number (drive_said r.answer)) r.stack r.list (with_numbers (numbers (drive_said r.answer)) answer)

-- ---- the calls
unfoldable pub build_call : ℕ → List ℕ → List ℕ → List ℕ → List ℕ → BuildCall
unfolding build build_said number numbers with_numbers
build_call mode grammar table work answer = built_told (build limits mode grammar table work) answer

unfoldable pub drive_call : List ℕ → List ℕ → List ℕ → ℕ → List ℕ → List ℕ → List ℕ → DriveCall
unfolding drive drive_said number numbers with_numbers
drive_call grammar table tokens limit stack list answer = driven_told (drive limits grammar table tokens limit stack list) answer
