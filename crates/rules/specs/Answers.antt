-- Document 01's number and place for every answer, with the counts that come beside it.
use Rattle.std.specs.Prelude.{ℕ, ◌≡◌, Result, Ok, Err}
use Rattle.rules.specs.declared.GrammarRefusal.{GrammarRefusal}
use Rattle.rules.specs.declared.GrammarRefusal.TheVariants.{Length, BadRecord, OutOfSequence, StartAgain, NoProduction, NoString}
use Rattle.rules.specs.declared.DriveRefusal.{DriveRefusal}
use Rattle.rules.specs.declared.TableSize.{TableSize}
use Rattle.rules.specs.declared.RunAnswer.{RunAnswer}
use Rattle.rules.specs.declared.DriveRefusal.TheVariants.{Grammar as NoGrammar, Table as NoTable, Token as NoToken}
use Rattle.rules.specs.declared.BuildRefusal.{BuildRefusal}
use Rattle.rules.specs.declared.BuildRefusal.TheVariants.{Mode, WorkRoom, Grammar, States, Items, Actions, Conflicts, FinalCheck, TableRoom}
use Rattle.rules.specs.declared.RunEnd.{RunEnd}
use Rattle.rules.specs.declared.RunEnd.TheVariants.{Accepted, Rejected, Broken, ListFull, StackFull, StepLimit}

-- what document 01 says of an answer
pub data Said : Type 0 where
  -- the bytes are a coded grammar
  coded : Said
  -- counts of states and records
  built : ℕ → ℕ → Said
  -- number and place
  refused : ℕ → ℕ → Said
  -- steps and list length
  accepted : ℕ → ℕ → Said
  -- number and place of a run's end, steps and list length
  stopped : ℕ → ℕ → ℕ → ℕ → Said

unfoldable pub grammar_refusal_said : GrammarRefusal → Said
grammar_refusal_said Length = refused 3 0
grammar_refusal_said (BadRecord record') = refused 4 record'
grammar_refusal_said (OutOfSequence record') = refused 5 record'
grammar_refusal_said (StartAgain production) = refused 6 production
grammar_refusal_said (NoProduction nonterminal) = refused 7 nonterminal
grammar_refusal_said (NoString nonterminal) = refused 8 nonterminal

unfoldable pub grammar_said : Result (Unit {0}) GrammarRefusal → Said
unfolding grammar_refusal_said
grammar_said (Ok tt) = coded
grammar_said (Err why) = grammar_refusal_said why

unfoldable pub build_refusal_said : BuildRefusal → Said
unfolding grammar_refusal_said
build_refusal_said Mode = refused 1 0
build_refusal_said WorkRoom = refused 2 0
build_refusal_said (Grammar why) = grammar_refusal_said why
build_refusal_said States = refused 9 0
build_refusal_said Items = refused 10 0
build_refusal_said (Actions state) = refused 11 state.0
build_refusal_said (Conflicts count) = refused 12 count
build_refusal_said (FinalCheck state) = refused 13 state.0
build_refusal_said (TableRoom wanted) = refused 14 wanted

-- a table's size
abbrev pub table_size : ℕ → ℕ → TableSize
table_size states records = record { states = states; records = records }

-- "given room": neither 9 nor 10 is met
abbrev pub GivenRoom : Result TableSize BuildRefusal → Type 0
GivenRoom answer = (answer ≡ Err States → ⊥) × (answer ≡ Err Items → ⊥)

unfoldable pub build_said : Result TableSize BuildRefusal → Said
unfolding build_refusal_said
build_said (Ok size) = built size.states size.records
build_said (Err why) = build_refusal_said why

unfoldable pub run_end_said : RunEnd → ℕ → ℕ → ℕ → Said
run_end_said Accepted place steps listed = accepted steps listed
run_end_said Rejected place steps listed = stopped 17 place steps listed
run_end_said Broken place steps listed = stopped 18 place steps listed
run_end_said ListFull place steps listed = stopped 19 place steps listed
run_end_said StackFull place steps listed = stopped 20 place steps listed
run_end_said StepLimit place steps listed = stopped 21 place steps listed

unfoldable pub drive_said : Result RunAnswer DriveRefusal → Said
unfolding grammar_refusal_said run_end_said
drive_said (Err (NoGrammar why)) = grammar_refusal_said why
drive_said (Err (NoTable record')) = refused 15 record'
drive_said (Err (NoToken token)) = refused 16 token
drive_said (Ok run) = run_end_said run.end run.place run.steps run.listed
