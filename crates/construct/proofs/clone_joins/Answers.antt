-- `construct::clone_joins` meets its contract.
use mathlib.Core.Path.{◌≡◌}
use mathlib.Core.Logic.{inl, inr}
use Rattle.construct.proofs.Choices.{no_clone, clone_itself, clone_tested}
use borrow.Author.Rules.{rules}
use Rattle.construct.proofs.clone_joins.Goals.{then-origin-successor, else-origin-successor}
use Rattle.construct.proofs.clone_joins.Goals as goal

pub returns-then-c-successor-clause-value : goal.returns-then-c-successor-clause-value
returns-then-c-successor-clause-value c = search (rules, clone_tested)

pub returns-else-c-successor-clause-value : goal.returns-else-c-successor-clause-value
returns-else-c-successor-clause-value c = elim c.if-origin-successor.branch [
  | then-origin-successor w ↦
      let e : c.args.c.0 ≡ c.args.successor.0 = elim c.if-c-successor.either [ inl p ↦ p.1 | inr q ↦ absurd (q w.if-origin-successor.true) ] in
      search (rules, clone_itself, e)
  | else-origin-successor w ↦ search (rules, no_clone)
]
