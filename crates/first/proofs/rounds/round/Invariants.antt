-- `first::rounds::round` meets its contract. The loop's invariant: what is left of the round, from the sets at hand, gives the round's sets, and a set has changed or
-- what is left says whether the sets at hand are settled. The measure is what is left of the records.
use Prim.Native.Nat.{◌≤◌}
use mathlib.Core.Path.{◌≡◌}
use mathlib.Core.Bool.{true, not}
use lib.ListN.{length}
use Rattle.base.specs.Pick.{pick}
use Rattle.base.specs.Lists.{each_of, fold_over}
use Rattle.base.proofs.ListLoops.{kept}
use Rattle.rules.specs.Records.{records}
use Rattle.rules.specs.Grammar.{at_start, left_sides}
use Rattle.rules.specs.First.{add_first, first_settled}
use Rattle.room.specs.Areas.{view}
use Rattle.first.specs.Firsts.{firsts_in, has_first, OnlyFirsts}
use Rattle.first.proofs.rounds.round.Given as goal

abbrev pub invariant-loop-i : goal.invariant-loop-i
invariant-loop-i l =
    (l.i ≤ l.count) × (length l.work ≡ length l.initial.work) × OnlyFirsts (records l.g) (view l.initial.work) (view l.work)
    × (fold_over (add_first (records l.g) l.n) (kept (at_start (records l.g)) l.count l.i) (firsts_in (records l.g) (view l.work)) ≡ fold_over (add_first (records l.g) l.n) (left_sides (records l.g)) (firsts_in (records l.g) (view l.initial.work)))
    × (pick l.changed true (not (each_of (has_first (records l.g) l.n (firsts_in (records l.g) (view l.work))) (kept (at_start (records l.g)) l.count l.i))) ≡ not (first_settled (records l.g) l.n (firsts_in (records l.g) (view l.initial.work))))
