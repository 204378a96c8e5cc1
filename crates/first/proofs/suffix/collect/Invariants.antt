-- `first::suffix::collect` meets its contract. The loop's invariant: what was collected, joined with FIRST of the symbols that are left, gives FIRST. The measure is what is left of the records.
use Prim.Native.Nat.{◌≤◌}
use mathlib.Core.Path.{◌≡◌}
use lib.ListN.{length}
use Rattle.rules.specs.Records.{records}
use Rattle.rules.specs.Grammar.{symbols_behind}
use Rattle.rules.specs.First.{first0}
use Rattle.room.specs.Areas.{view}
use Rattle.first.specs.Firsts.{firsts_in}
use Rattle.first.proofs.Collects.{Collected}
use Rattle.first.proofs.suffix.collect.Given as goal

abbrev pub invariant-loop-k : goal.invariant-loop-k
invariant-loop-k l =
    (l.k ≤ l.count) × (length l.work ≡ length l.initial.work) × Collected (records l.g) l.n l.slot (view l.initial.work) (first0 l.n (firsts_in (records l.g) (view l.initial.work)) (symbols_behind (records l.g) l.i)) l.k (view l.work)
