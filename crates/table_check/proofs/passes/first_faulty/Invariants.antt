-- `table_check::passes::first_faulty` meets its contract. The loop's invariant: no record so far has a fault that those up to it show. The measure is what is left of the records.
use Prim.Native.Nat.{◌≤◌}
use Rattle.rules.specs.Table.{table_records}
use Rattle.table_check.proofs.Passing.{Passed}
use Rattle.table_check.proofs.passes.first_faulty.Given as goal

abbrev pub invariant-loop-i : goal.invariant-loop-i
invariant-loop-i l = (l.i ≤ l.count) × Passed l.sizes.terminals l.sizes.nonterminals l.sizes.productions (table_records l.t) l.i
