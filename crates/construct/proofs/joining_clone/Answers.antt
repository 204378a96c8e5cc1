use Rattle.base.proofs.Turns.{first_start_lem, first_over}
use Rattle.groups.proofs.Members.{columns_none, columns_both}
use Rattle.construct.proofs.Changes.{closure_grouped}
use Rattle.construct.proofs.Choices.{clone_found, clone_passed}
use borrow.Author.Rules.{rules}
use native.Mathlib.Omega.{arith}
use Rattle.construct.proofs.joining_clone.Goals as goal

pub loop-c-init : goal.loop-c-init
loop-c-init c = (search rules, search rules, search rules, search (rules, columns_none), search (rules, first_start_lem))

pub returns-then-clone_joins-clause-value : goal.returns-then-clone_joins-clause-value
returns-then-clone_joins-clause-value c = search (rules, clone_found)

pub returns-then-clone_joins-clause-only_closure : goal.returns-then-clone_joins-clause-only_closure
returns-then-clone_joins-clause-only_closure c = search (rules, columns_both)

pub loop-c-preserved : goal.loop-c-preserved
loop-c-preserved c = (search rules, search rules, search (rules, closure_grouped), search (rules, columns_both), search (rules, clone_passed))

pub returns-clause-value : goal.returns-clause-value
returns-clause-value c = let e = first_over _ _ _ _ c.loop-c.invariant.0 c.loop-c-test.false c.loop-c.invariant.4 in omega arith
