-- The records of a table without fault ascend.
use mathlib.Core.Path.{◌≡◌, ◌∙◌}
use mathlib.Core.Bool.{false}
use mathlib.Core.List.{List}
use native.Mathlib.Omega.{arith}
use lib.ListN.{length}
use borrow.Author.Tests.{ne_eqb, not-false}
use Rattle.base.proofs.ListLoops.{first_never}
use Rattle.base.proofs.Tests.{or_false}
use Rattle.rules.specs.Limits.{limits}
use Rattle.rules.specs.Records.{Grammar}
use Rattle.rules.specs.Grammar.{terminal_count, nonterminal_count, production_count}
use Rattle.rules.specs.Table.{TableRecord}
use Rattle.rules.specs.Drive.{table_at, malformed, first_malformed}
use Rattle.record.specs.Search.{Ascending}
use Rattle.table_check.specs.Faults.{bad_alone, out_of_order, misplaced, faulty}
use Rattle.table_check.proofs.Lowest.{same_fault}

pub well_formed_ascends : (g : Grammar) (rs : List TableRecord) → first_malformed limits g rs ≡ length rs → Ascending rs (length rs)
unfolding first_malformed faulty misplaced out_of_order
well_formed_ascends g rs e = record {
  next = λ i a h.
      let fine : malformed limits g rs i ≡ false = first_never (malformed limits g rs) (length rs) 0 i (e ∙ omega arith) (omega arith) (omega arith) in
      let place = (or_false (misplaced (terminal_count g) (nonterminal_count g) (production_count g) rs i) _ (same_fault g rs i ∙ fine)).0 in
      let order = (or_false (bad_alone (terminal_count g) (nonterminal_count g) (production_count g) (table_at rs i)) _ place).1 in
      not-false _ (rw (ne_eqb i 0 (λ z. omega arith)) at order);
}
