-- `context_set::join_columns` meets its contract. The loop's invariant: the columns before c are joined. The measure is what is left of them.
use Rattle.context_set.proofs.Columns.{both_at, Upto}
use Rattle.room.specs.Areas.{view}
use lib.ListN.{length}
use mathlib.Core.Path.{◌≡◌}
use Prim.Native.Nat.{◌≤◌}
use Rattle.context_set.proofs.join_columns.Given as goal

abbrev pub invariant-loop-c : goal.invariant-loop-c
invariant-loop-c l = (l.c ≤ l.width) × (length l.work ≡ length l.initial.work) × Upto (both_at l.into l.from (view l.initial.work)) l.into l.c (view l.initial.work) (view l.work)
