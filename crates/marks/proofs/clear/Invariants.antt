-- `marks::clear` meets its contract. The loop's invariant: the words before k are zero. The measure is what is left of them.
use Prim.Native.Nat.{◌≤◌}
use mathlib.Core.Path.{◌≡◌}
use lib.ListN.{length}
use Rattle.room.specs.Areas.{view}
use Rattle.marks.specs.MarksLaws.{emptied}
use Rattle.marks.proofs.clear.Given as goal

abbrev pub invariant-loop-k : goal.invariant-loop-k
invariant-loop-k g l = let m = g.M.Marks in (l.k ≤ m.WORDS) × (length l.work ≡ length l.initial.work) × (view l.work ≡ emptied (m.put_word l.of) l.k (view l.initial.work))
