-- What is returned says how a call ended: 0 only if the table is built, or the tokens are accepted.
use Prim.Native.Nat.{ℕ}
use mathlib.Core.Path.{◌≡◌, refl}
use native.Mathlib.Omega.{arith}
use Rattle.std.specs.Prelude.{Result, Ok, Err}
use Rattle.rules.specs.Answers.{grammar_refusal_said, build_refusal_said, build_said, run_end_said, drive_said, table_size}
use Rattle.rules.specs.declared.GrammarRefusal.{GrammarRefusal}
use Rattle.rules.specs.declared.GrammarRefusal.TheVariants.{Length, BadRecord, OutOfSequence, StartAgain, NoProduction, NoString}
use Rattle.rules.specs.declared.BuildRefusal.{BuildRefusal}
use Rattle.rules.specs.declared.BuildRefusal.TheVariants.{Mode, WorkRoom, Grammar, States, Items, Actions, Conflicts, FinalCheck, TableRoom}
use Rattle.rules.specs.declared.DriveRefusal.{DriveRefusal}
use Rattle.rules.specs.declared.TableSize.{TableSize}
use Rattle.rules.specs.declared.DriveRefusal.TheVariants.{Grammar as NoGrammar, Table as NoTable, Token as NoToken}
use Rattle.rules.specs.declared.RunEnd.{RunEnd}
use Rattle.rules.specs.declared.RunEnd.TheVariants.{Accepted, Rejected, Broken, ListFull, StackFull, StepLimit}
use Rattle.rules.specs.declared.RunAnswer.{RunAnswer}
use Rattle.splicepost_c.specs.Numbers.{number}

no_grammar : (why : GrammarRefusal) → number (grammar_refusal_said why) ≡ 0 → ⊥
unfolding number grammar_refusal_said
no_grammar Length e = omega (arith, e)
no_grammar (BadRecord i) e = omega (arith, e)
no_grammar (OutOfSequence i) e = omega (arith, e)
no_grammar (StartAgain p) e = omega (arith, e)
no_grammar (NoProduction a) e = omega (arith, e)
no_grammar (NoString a) e = omega (arith, e)

not_built_lem : (why : BuildRefusal) → number (build_refusal_said why) ≡ 0 → ⊥
unfolding number build_refusal_said
not_built_lem Mode e = omega (arith, e)
not_built_lem WorkRoom e = omega (arith, e)
not_built_lem (Grammar why) e = no_grammar why e
not_built_lem States e = omega (arith, e)
not_built_lem Items e = omega (arith, e)
not_built_lem (Actions state) e = omega (arith, e)
not_built_lem (Conflicts count) e = omega (arith, e)
not_built_lem (FinalCheck state) e = omega (arith, e)
not_built_lem (TableRoom wanted) e = omega (arith, e)

pub zero_is_built : (a : Result TableSize BuildRefusal) → number (build_said a) ≡ 0 → (states : ℕ) × (records : ℕ) × (a ≡ Ok (table_size states records))
unfolding build_said
zero_is_built (Ok size) e = (size.states, size.records, refl)
zero_is_built (Err why) e = absurd (not_built_lem why e)

accepted : (end : RunEnd) (place steps listed : ℕ) → number (run_end_said end place steps listed) ≡ 0 → end ≡ Accepted
unfolding number run_end_said
accepted Accepted place steps listed e = refl
accepted Rejected place steps listed e = absurd (omega (arith, e))
accepted Broken place steps listed e = absurd (omega (arith, e))
accepted ListFull place steps listed e = absurd (omega (arith, e))
accepted StackFull place steps listed e = absurd (omega (arith, e))
accepted StepLimit place steps listed e = absurd (omega (arith, e))

pub zero_is_accepted : (a : Result RunAnswer DriveRefusal) → number (drive_said a) ≡ 0 → (run : RunAnswer) × (a ≡ Ok run) × (run.end ≡ Accepted)
unfolding drive_said number
zero_is_accepted (Err (NoGrammar why)) e = absurd (no_grammar why e)
zero_is_accepted (Err (NoTable i)) e = absurd (omega (arith, e))
zero_is_accepted (Err (NoToken i)) e = absurd (omega (arith, e))
zero_is_accepted (Ok run) e = (run, refl, accepted run.end run.place run.steps run.listed e)
