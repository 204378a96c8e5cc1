-- Where the code's run stands, in the words of `rules`, and what its moves ask.
use Rattle.std.specs.Prelude.{ℕ, ◌+◌, ◌-◌, ◌≤◌, ◌<◌, ◌≡◌, List, length}
use Rattle.base.specs.Pick.{pick}
use Rattle.rules.specs.Records.{records}
use Rattle.rules.specs.Grammar.{terminal_count}
use Rattle.rules.specs.Table.{table_records, table_in}
use Rattle.rules.specs.Run.{list_full, stack_full, reduced}
use Rattle.rules.specs.Run as run
use Rattle.rules.specs.declared.RunEnd.{RunEnd}
use Rattle.rules.specs.declared.RunEnd.TheVariants.{ListFull, StackFull}
use Rattle.grammar.specs.Asked.{Faultless}
use Rattle.record.specs.Search.{Ascends}
use Rattle.driver.specs.declared.moves.Standing.{Standing}
use Rattle.std.proofs.Common.{ControlFlow, Continue, Break}

-- a standing with the rooms
abbrev pub standing : List ℕ → List ℕ → Standing → run.Standing ℕ
standing stack list s = record { stack = stack; depth = s.depth; list = list; listed = s.listed; steps = s.steps; place = s.place }

-- what a move answers: where the run goes on, or how it ends and where
abbrev pub Moved : Type 0
Moved = ControlFlow (RunEnd × Standing) Standing

abbrev pub moved : List ℕ → List ℕ → Moved → run.Moved ℕ
moved stack list (Continue s) = run.goes (standing stack list s)
moved stack list (Break (end, s)) = run.ends end (standing stack list s)

-- what is left of a run from a standing on; a move is a step, and none is made at the limit
abbrev pub left_run : List ℕ → List ℕ → List ℕ → ℕ → List ℕ → List ℕ → Standing → run.RunResult ℕ
left_run g t tokens limit stack list s =
    run.run_from (table_in (table_records t)) (records g) tokens limit (limit + 1 - s.steps) (standing stack list s)

-- the highest step limit
abbrev pub max_limit : ℕ
max_limit = 18446744073709551615

-- the topmost state lies in the stack, and one more move can be counted
pub record Moveable (stack : List ℕ) (s : Standing) : Type 0 where
  pub grounded : 0 < s.depth
  pub within : s.depth ≤ length stack
  pub placed : s.place ≤ s.steps
  pub counts : s.steps < max_limit

-- the same under a step limit, which may have been reached
pub record Stands (limit : ℕ) (stack : List ℕ) (s : Standing) : Type 0 where
  pub grounded : 0 < s.depth
  pub within : s.depth ≤ length stack
  pub placed : s.place ≤ s.steps
  pub limited : s.steps ≤ limit

-- what a run goes by: a grammar without fault 4 or 5, of n terminals, and a table that ascends
pub record Runnable (g t : List ℕ) (n : ℕ) : Type 0 where
  pub faultless : Faultless g
  pub ascends : Ascends t
  pub terminals : n ≡ terminal_count (records g)

-- production p, of that many symbols, and the state that is put for them
unfoldable pub put_reduction : ℕ → ℕ → ℕ → run.Standing ℕ → run.Moved ℕ
unfolding list_full stack_full
put_reduction p symbols to s =
    pick (list_full s) (run.ends ListFull s)
    (pick (stack_full s (s.depth - symbols)) (run.ends StackFull s)
    (run.goes (reduced p symbols to s)))
