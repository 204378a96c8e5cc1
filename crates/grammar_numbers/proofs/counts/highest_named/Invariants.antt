-- `grammar_numbers::counts::highest_named` meets its contract. The loop's invariant: the highest so far and what is left give the highest. The measure is what is left of the records.
use Prim.Native.Nat.{◌≤◌, max}
use mathlib.Core.List.{map}
use mathlib.Core.Path.{◌≡◌}
use lib.ListN.{drop}
use Rattle.base.specs.Lists.{greatest}
use Rattle.rules.specs.Records.{records}
use Rattle.grammar.specs.Tests.{count_named}
use Rattle.grammar_numbers.specs.Tests.{is_of_terminals, highest_named}
use Rattle.grammar_numbers.proofs.counts.highest_named.Given as goal

abbrev pub invariant-loop-i : goal.invariant-loop-i
invariant-loop-i l = (l.i ≤ l.n) × (l.highest ≤ 65536) × (max l.highest (greatest (map (count_named (is_of_terminals l.kind)) (drop l.i (records l.g)))) ≡ highest_named (is_of_terminals l.kind) (records l.g))
