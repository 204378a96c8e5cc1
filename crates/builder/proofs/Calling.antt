-- The whole call: refusals 1 to 8, and what is left in the work room.
use Prim.Native.Nat.{ℕ, ◌*◌, ◌<◌, ◌≤◌}
use mathlib.Core.Path.{◌≡◌, sym, ap, ◌∙◌}
use mathlib.Core.Bool.{Bool}
use mathlib.Core.List.{List}
use native.Mathlib.Omega.{arith}
use lib.ListN.{length}
use lib.Dec.{ltb}
use borrow.Author.Tests.{lt-ltb, le-ltb}
use Rattle.std.specs.Prelude.{Result, Ok, Err}
use Rattle.base.specs.Pick.{pick}
use Rattle.rules.specs.Limits.{limits, work_size}
use Rattle.rules.specs.Records.{records}
use Rattle.rules.specs.Grammar.{grammar_answer, terminal_count, nonterminal_count}
use Rattle.rules.specs.Rooms.{cleared}
use Rattle.rules.specs.Build.{BuildResult, constructed, not_built, result_of, build_coded, build}
use Rattle.rules.specs.declared.GrammarRefusal.{GrammarRefusal}
use Rattle.rules.specs.declared.BuildRefusal.{BuildRefusal}
use Rattle.rules.specs.declared.TableSize.{TableSize}
use Rattle.rules.specs.declared.BuildRefusal.TheVariants.{Mode as NoMode, WorkRoom, Grammar as NoGrammar}
use Rattle.rules.specs.declared.Mode.{Mode}
use Rattle.rules.specs.declared.Mode.TheVariants.{Lane, Canonical}
use Rattle.rules.specs.Modes.{mode_number}
use Rattle.rules.proofs.Rooms.{built_keeps_rest}
use Rattle.grammar.proofs.Coded.{coded_faultless, terminal_count_below, nonterminal_count_below}
use Rattle.room.specs.Areas.{view}
use Rattle.room.proofs.Clearing.{cleared_same}
use Rattle.first.specs.Asked.{Counted}
use Rattle.collection.specs.Collections.{Collectable}
use Rattle.collection.proofs.Asked.{coded_collectable}
use Rattle.table_records.specs.Result.{gave_in}
use Rattle.builder.specs.Results.{Gives}

-- ---- what a number says of the mode
mode_known : (mode : Mode) → mode_number mode ≤ 1
mode_known Lane = omega arith
mode_known Canonical = omega arith

-- ---- refusals 1 and 2, and then what the grammar says
module _ (number : ℕ) (bytes table work : List ℕ) where
  abbrev from3 : BuildResult
  from3 = build_coded limits number bytes (grammar_answer limits bytes) table (cleared limits work)

  abbrev from2 : Bool → BuildResult
  from2 short = pick short (not_built WorkRoom table work) from3

  abbrev from1 : Bool → BuildResult
  from1 other = pick other (not_built NoMode table work) (from2 (ltb (length work) work_size))

  pub bad_mode : (why : BuildRefusal) → (1 < number) × (why ≡ NoMode) → gave_in (Err why) table work ≡ build limits number bytes table work
  unfolding build limits not_built
  bad_mode why (h, e) = ap (λ (why : BuildRefusal). gave_in (Err why) table work) e ∙ sym (ap from1 (lt-ltb 1 number h))

  module _ (mode : Mode) (named : number ≡ mode_number mode) where
    known : number ≤ 1
    known = omega (arith, mode_known mode)

    pub short_room : length work < work_size → gave_in (Err WorkRoom) table work ≡ build limits number bytes table work
    unfolding build limits not_built
    short_room h = sym (ap from1 (le-ltb 1 number known) ∙ ap from2 (lt-ltb (length work) work_size h))

    pub table_built : work_size ≤ length work → (answer : Result TableSize BuildRefusal) (after left last : List ℕ)
        → Gives (build_coded limits (mode_number mode) bytes (grammar_answer limits bytes) table) answer after
        → (view left).rest ≡ (view work).rest → last ≡ cleared limits left
        → gave_in answer after last ≡ build limits number bytes table work
    unfolding build limits
    table_built long answer after left last gives kept end =
        ap (gave_in answer after) (end ∙ cleared_same left work kept) ∙ gives (cleared limits work)
        ∙ ap (λ (k : ℕ). build_coded limits k bytes (grammar_answer limits bytes) table (cleared limits work)) (sym named)
        ∙ sym (ap from1 (le-ltb 1 number known) ∙ ap from2 (le-ltb (length work) work_size long))

-- ---- refusals 3 to 8, and then the construction; a is what the check of the grammar answered
module _ (mode : Mode) (bytes table : List ℕ) (a : Result (Unit {0}) GrammarRefusal) (is : a ≡ grammar_answer limits bytes) where
  abbrev from4 : Result (Unit {0}) GrammarRefusal → List ℕ → BuildResult
  from4 answer left = build_coded limits (mode_number mode) bytes answer table left

  pub no_grammar : (why : GrammarRefusal) → a ≡ Err why
      → Gives (build_coded limits (mode_number mode) bytes (grammar_answer limits bytes) table) (Err (NoGrammar why)) table
  unfolding build_coded not_built
  no_grammar why e left = sym (ap (λ (answer : Result (Unit {0}) GrammarRefusal). from4 answer left) (sym is ∙ e))

  pub coded_given : a ≡ Ok tt → (answer : Result TableSize BuildRefusal) (after : List ℕ)
      → Gives (result_of (records bytes) (constructed limits (records bytes) (mode_number mode)) table) answer after
      → Gives (build_coded limits (mode_number mode) bytes (grammar_answer limits bytes) table) answer after
  unfolding build_coded
  coded_given e answer after gives left = gives left ∙ sym (ap (λ (answer : Result (Unit {0}) GrammarRefusal). from4 answer left) (sym is ∙ e))

-- ---- a coded grammar is what the construction asks
pub known_coded : (bytes : List ℕ) (a : Result (Unit {0}) GrammarRefusal) → a ≡ grammar_answer limits bytes → a ≡ Ok tt → grammar_answer limits bytes ≡ Ok tt
known_coded bytes a is e = sym is ∙ e

module _ (bytes : List ℕ) (n m : ℕ) (coded : grammar_answer limits bytes ≡ Ok tt) (are-n : n ≡ terminal_count (records bytes)) (are-m : m ≡ nonterminal_count (records bytes)) where
  pub numbers_counted : Counted bytes n m
  numbers_counted = record {
    few_terminals = omega (arith, terminal_count_below (records bytes) (coded_faultless bytes coded));
    terminals = are-n;
    few_nonterminals = omega (arith, nonterminal_count_below (records bytes) (coded_faultless bytes coded));
    nonterminals = are-m;
  }

  pub collectable : (size : ℕ) (work : List ℕ) → work_size ≤ size → length work ≡ size → Collectable bytes n m work
  collectable size work long same = coded_collectable bytes n m work coded are-n are-m (omega arith)

-- ---- the records of a built table lie within the room
pub built_fits : (mode : ℕ) (bytes table work : List ℕ) (answer : Result TableSize BuildRefusal) (after left : List ℕ) → gave_in answer after left ≡ build limits mode bytes table work
    → length after ≡ length table → (size : TableSize) → answer ≡ Ok size → 8 * size.records ≤ length after
built_fits mode bytes table work answer after left e same size is =
    omega (arith, same, (built_keeps_rest limits mode bytes table work size.states size.records (sym (ap (λ (r : BuildResult). r.answer) e) ∙ is)).1)
