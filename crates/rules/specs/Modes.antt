-- The modes of the builder: 0 is lane, 1 canonical.
use Rattle.std.specs.Prelude.{ℕ, ◌≡◌, ◌<◌, Result, Ok, Err}
use Rattle.rules.specs.declared.Mode.{Mode}
use Rattle.rules.specs.declared.Mode.TheVariants.{Lane, Canonical}
use Rattle.rules.specs.declared.BuildRefusal.{BuildRefusal}
use Rattle.rules.specs.declared.BuildRefusal.TheVariants.{Mode as NoMode}

abbrev pub mode_number : Mode → ℕ
mode_number Lane = 0
mode_number Canonical = 1

-- what a number gives: its mode, or refusal 1
abbrev pub GivesMode : ℕ → Result Mode BuildRefusal → Type 0
GivesMode number (Ok mode) = number ≡ mode_number mode
GivesMode number (Err why) = (1 < number) × (why ≡ NoMode)
