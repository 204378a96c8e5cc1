-- What the search for a token not below n goes by.
use Prim.Native.Nat.{ℕ, ◌-◌}
use mathlib.Core.Path.{◌≡◌, ◌∙◌}
use mathlib.Core.List.{List}
use native.Mathlib.Nat.{sub-zero}
use lib.ListN.{length, get_or}
use lib.Dec.{leb}
use Rattle.std.specs.Prelude.{Option}
use Rattle.base.specs.Loops.{first_from, place_below}
use Rattle.rules.specs.Records.{Grammar}
use Rattle.rules.specs.Grammar.{terminal_count}
use Rattle.rules.specs.Drive.{first_no_token}
use Rattle.driver.specs.Results.{no_token}

pub first_token : (g : Grammar) (tokens : List ℕ) (n : ℕ) (r : Option ℕ) → n ≡ terminal_count g
    → r ≡ place_below (length tokens) (first_from (no_token n tokens) (length tokens - 0) 0) → r ≡ place_below (length tokens) (first_no_token g tokens)
unfolding first_no_token no_token
first_token g tokens n r e f = f ∙ rw (sub-zero, e)

pub token_tested : (tokens : List ℕ) (n i x : ℕ) → x ≡ get_or tokens i 0 → leb n x ≡ no_token n tokens i
unfolding no_token
token_tested tokens n i x e = rw e
