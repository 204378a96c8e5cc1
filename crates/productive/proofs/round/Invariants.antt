-- `productive::round` meets its contract. The loop's invariant: what is left of the round, from the set at hand, gives the round's set. The measure is what is left of the records.
use Prim.Native.Nat.{◌≤◌}
use mathlib.Core.Path.{◌≡◌}
use Rattle.base.specs.Lists.{fold_over}
use Rattle.base.proofs.ListLoops.{kept}
use Rattle.rules.specs.Grammar.{at_start, left_sides, collect}
use Rattle.rules.specs.Records.{records}
use Rattle.productive.proofs.round.Given as goal

abbrev pub invariant-loop-i : goal.invariant-loop-i
invariant-loop-i l = (l.i ≤ l.n) × (fold_over (collect (records l.g)) (kept (at_start (records l.g)) l.n l.i) l.set ≡ fold_over (collect (records l.g)) (left_sides (records l.g)) l.found)
