-- `context_set::clear_columns` meets its contract. The loop's invariant: the columns before c are empty. The measure is what is left of them.
use Rattle.context_set.proofs.Columns.{Upto}
use Rattle.room.specs.Areas.{view}
use lib.ListN.{length}
use mathlib.Core.Path.{◌≡◌}
use Prim.Native.Nat.{◌≤◌}
use Rattle.context_set.proofs.clear_columns.Given as goal

abbrev pub invariant-loop-c : goal.invariant-loop-c
invariant-loop-c l = (l.c ≤ l.width) × (length l.work ≡ length l.initial.work) × Upto (λ k. 0) l.at l.c (view l.initial.work) (view l.work)
