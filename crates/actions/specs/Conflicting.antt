-- The tests of a state's actions for conflicts, entry by entry, as the code makes them.
use Rattle.std.specs.Prelude.{ℕ, Bool, ◌&&◌, ◌||◌, not, eqb}
use Rattle.rules.specs.Records.{Grammar}
use Rattle.rules.specs.Tokens.{has, disjoint}
use Rattle.rules.specs.Grammar.{at_end}
use Rattle.rules.specs.States.{Entry, reductions, shifts}
use Rattle.rules.specs.Lanes.{meets_none, shift_conflicts, reduce_conflicts}
use Rattle.room.specs.Areas.{Room}
use Rattle.states.specs.StatesIn.{entry_in, run_in}

-- the entry is a reduction with terminal t in its set
unfoldable pub reduces_on : Grammar → ℕ → Entry → Bool
reduces_on g t e = at_end g e.item && has e.set t

-- the entry f is a reduction by another item than e, and their sets meet
unfoldable pub meets_other : Grammar → Entry → Entry → Bool
meets_other g e f = at_end g f.item && not (eqb e.item f.item || disjoint e.set f.set)

-- ---- the tests of rules, of the entries in the room from one place up to another
abbrev pub shift_conflicts_in : Grammar → Room → ℕ → ℕ → ℕ → Bool
shift_conflicts_in g r first end t = shift_conflicts (reductions g (run_in r first end)) t

abbrev pub meets_other_in : Grammar → Room → ℕ → ℕ → ℕ → Bool
meets_other_in g r first end k = not (meets_none (reductions g (run_in r first end)) (entry_in r k))

abbrev pub reduce_conflicts_in : Grammar → Room → ℕ → ℕ → ℕ → Bool
reduce_conflicts_in g r first end k = reduce_conflicts (shifts g (run_in r first end)) (reductions g (run_in r first end)) (entry_in r k)
