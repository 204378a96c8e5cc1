-- The builder: the whole call, for every mode, every byte string, and every room. It gives the answer and what it leaves in the table
-- room and in the work room. Refusals 1 to 3 come first, then 4 to 8, then 9 to 12 where the construction meets them, then 13, then 14.
use Rattle.std.specs.Prelude.{ℕ, zero, suc, ◌*◌, List, length, ltb, Result, Ok, Err}
use Rattle.base.specs.Pick.{pick}
use Rattle.rules.specs.Limits.{Limits}
use Rattle.rules.specs.Records.{Grammar, records}
use Rattle.rules.specs.Grammar.{grammar_answer}
use Rattle.rules.specs.States.{State, Outcome, done, refused, canonical}
use Rattle.rules.specs.Merge.{lanes}
use Rattle.rules.specs.FinalCheck.{checked}
use Rattle.rules.specs.Table.{TableRecord, table_of, table_bytes}
use Rattle.rules.specs.Rooms.{cleared, overwritten}
use Rattle.rules.specs.declared.GrammarRefusal.{GrammarRefusal}
use Rattle.rules.specs.declared.TableSize.{TableSize}
use Rattle.rules.specs.Answers.{table_size}
use Rattle.rules.specs.declared.BuildRefusal.{BuildRefusal}
use Rattle.rules.specs.declared.BuildRefusal.TheVariants.{Mode, WorkRoom, Grammar as NoGrammar, TableRoom}

pub record BuildResult : Type 0 where
  pub answer : Result TableSize BuildRefusal
  pub table : List ℕ
  pub work : List ℕ

-- the states that a mode gives: 0 lane, 1 canonical; every other mode is refused
unfoldable pub constructed : Limits → Grammar → ℕ → Outcome (List State)
unfolding checked lanes canonical
constructed l g zero = checked g (lanes l g)
constructed l g (suc zero) = canonical l g
constructed l g (suc (suc mode)) = refused Mode

-- a refusal changes no byte of the table room
unfoldable pub not_built : BuildRefusal → List ℕ → List ℕ → BuildResult
not_built why table work = record { answer = Err why; table = table; work = work }

-- refusal 14, or the records written
unfoldable pub written : ℕ → List TableRecord → List ℕ → List ℕ → BuildResult
unfolding not_built overwritten table_bytes
written count rs table work =
    pick (ltb (length table) (8 * length rs)) (not_built (TableRoom (length rs)) table work)
    (record { answer = Ok (table_size count (length rs)); table = overwritten (table_bytes rs) table; work = work })

unfoldable pub result_of : Grammar → Outcome (List State) → List ℕ → List ℕ → BuildResult
unfolding written table_of not_built
result_of g (done states) table work = written (length states) (table_of g states) table work
result_of g (refused why) table work = not_built why table work

unfoldable pub build_coded : Limits → ℕ → List ℕ → Result (Unit {0}) GrammarRefusal → List ℕ → List ℕ → BuildResult
unfolding result_of constructed records not_built
build_coded l mode bytes (Ok tt) table work = result_of (records bytes) (constructed l (records bytes) mode) table work
build_coded l mode bytes (Err why) table work = not_built (NoGrammar why) table work

unfoldable pub build : Limits → ℕ → List ℕ → List ℕ → List ℕ → BuildResult
unfolding build_coded grammar_answer cleared not_built
build l mode bytes table work =
    let from3 : BuildResult = build_coded l mode bytes (grammar_answer l bytes) table (cleared l work) in
    let from2 : BuildResult = pick (ltb (length work) l.work) (not_built WorkRoom table work) from3 in
    pick (ltb 1 mode) (not_built Mode table work) from2
