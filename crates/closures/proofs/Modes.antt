-- Which construction the states of a mode are closed for.
use mathlib.Core.Path.{◌≡◌, ap}
use mathlib.Core.Bool.{true, false}
use Rattle.rules.specs.declared.Mode.{Mode}
use Rattle.rules.specs.declared.Mode.TheVariants.{Lane, Canonical}
use Rattle.closures.specs.Closures.{is_canonical}

pub by_canonical : (mode : Mode) → mode ≡ Canonical → is_canonical mode ≡ true
by_canonical mode is = ap is_canonical is

pub by_lane : (mode : Mode) → mode ≡ Lane → is_canonical mode ≡ false
by_lane mode is = ap is_canonical is
