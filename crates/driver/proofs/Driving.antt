-- The ways of the whole call, against the definition of the driver.
use Prim.Native.Nat.{ℕ, ◌%◌, ◌≤◌}
use mathlib.Core.Path.{◌≡◌, sym, ◌∙◌}
use mathlib.Core.List.{List}
use native.Mathlib.Omega.{arith}
use lib.ListN.{length}
use borrow.Author.Tests.{eq-eqb, ne_eqb, lt-ltb, le-ltb}
use Rattle.std.specs.Prelude.{Option, Some, None, Result, Ok, Err}
use Rattle.base.specs.Loops.{place_below}
use Rattle.record.proofs.Below.{none_below, some_below}
use Rattle.base.proofs.ListLoops.{first_bound}
use Rattle.rules.specs.Limits.{limits}
use Rattle.rules.specs.Records.{records}
use Rattle.rules.specs.Grammar.{grammar_answer}
use Rattle.rules.specs.Table.{table_records, table_in}
use Rattle.rules.specs.Run.{run}
use Rattle.rules.specs.Drive.{DriveResult, malformed, first_malformed, first_no_token, not_driven, driven, drive_coded, drive}
use Rattle.rules.specs.declared.GrammarRefusal.{GrammarRefusal}
use Rattle.rules.specs.declared.DriveRefusal.TheVariants.{Grammar as NoGrammar, Table as NoTable, Token as NoToken}
use Rattle.rules.specs.declared.RunAnswer.{RunAnswer}
use Rattle.record.specs.Search.{Ascends}
use Rattle.table_check.proofs.WellFormed.{well_formed_ascends}
use Rattle.driver.specs.Results.{ran_in, drove_in}

-- ---- a table whose lowest record at fault is `fault`
module _ (bytes table : List ℕ) (fault : Option ℕ)
    (e : fault ≡ place_below (length (table_records table)) (first_malformed limits (records bytes) (table_records table))) where
  fine : fault ≡ None → length (table_records table) ≤ first_malformed limits (records bytes) (table_records table)
  fine h = none_below (length (table_records table)) (first_malformed limits (records bytes) (table_records table)) (sym e ∙ h)

  pub table_ascends : fault ≡ None → Ascends table
  unfolding first_malformed
  table_ascends h =
      let b = first_bound (malformed limits (records bytes) (table_records table)) (length (table_records table)) 0 in
      well_formed_ascends (records bytes) (table_records table) (omega (arith, fine h))

-- ---- refusals 15 and 16, and the run
module _ (bytes table tokens : List ℕ) (limit : ℕ) (stack list : List ℕ) where
  pub bad_length_lem : (length table % 8 ≡ 0 → ⊥)
      → drove_in (Err (NoTable 0)) stack list ≡ drive_coded limits bytes (Ok tt) table tokens limit stack list
  unfolding drive_coded not_driven
  bad_length_lem h = rw (ne_eqb (length table % 8) 0 h)

  module _ (whole : length table % 8 ≡ 0) (fault : Option ℕ)
      (e : fault ≡ place_below (length (table_records table)) (first_malformed limits (records bytes) (table_records table))) where
    pub bad_table : (i : ℕ) → fault ≡ Some i → drove_in (Err (NoTable i)) stack list ≡ drive_coded limits bytes (Ok tt) table tokens limit stack list
    unfolding drive_coded not_driven
    bad_table i h =
        let there = some_below (length (table_records table)) (first_malformed limits (records bytes) (table_records table)) i (sym e ∙ h) in
        rw (
          eq-eqb (length table % 8) 0 whole,
          lt-ltb (first_malformed limits (records bytes) (table_records table)) (length (table_records table)) (omega (arith, there.0, there.1)),
          there.1,
        )

    module _ (faultless : fault ≡ None) (place : Option ℕ) (f : place ≡ place_below (length tokens) (first_no_token (records bytes) tokens)) where
      pub bad_token : (i : ℕ) → place ≡ Some i
          → drove_in (Err (NoToken i)) stack list ≡ drive_coded limits bytes (Ok tt) table tokens limit stack list
      unfolding drive_coded not_driven
      bad_token i h =
          let there = some_below (length tokens) (first_no_token (records bytes) tokens) i (sym f ∙ h) in
          rw (
            eq-eqb (length table % 8) 0 whole,
            le-ltb (first_malformed limits (records bytes) (table_records table)) (length (table_records table)) (fine bytes table fault e faultless),
            lt-ltb (first_no_token (records bytes) tokens) (length tokens) (omega (arith, there.0, there.1)),
            there.1,
          )

      pub runs_then : (a : RunAnswer) (stack' list' : List ℕ) → place ≡ None
          → ran_in a stack' list' ≡ run (table_in (table_records table)) (records bytes) tokens limit stack list
          → drove_in (Ok a) stack' list' ≡ drive_coded limits bytes (Ok tt) table tokens limit stack list
      unfolding drive_coded driven
      runs_then a stack' list' h ran =
          rw (
            eq-eqb (length table % 8) 0 whole,
            le-ltb (first_malformed limits (records bytes) (table_records table)) (length (table_records table)) (fine bytes table fault e faultless),
            le-ltb (first_no_token (records bytes) tokens) (length tokens) (none_below (length tokens) (first_no_token (records bytes) tokens) (sym f ∙ h)),
            ← ran,
          )

-- ---- refusals 3 to 8 before them; a is what the check of the grammar answered
module _ (bytes table tokens : List ℕ) (limit : ℕ) (stack list : List ℕ) (a : Result (Unit {0}) GrammarRefusal) (e : a ≡ grammar_answer limits bytes) where
  pub no_grammar : (why : GrammarRefusal) → a ≡ Err why
      → drove_in (Err (NoGrammar why)) stack list ≡ drive limits bytes table tokens limit stack list
  unfolding drive drive_coded not_driven
  no_grammar why h = rw (← e, h)

  pub coded_then : (x : DriveResult) → a ≡ Ok tt → x ≡ drive_coded limits bytes (Ok tt) table tokens limit stack list
      → x ≡ drive limits bytes table tokens limit stack list
  unfolding drive
  coded_then x h d = d ∙ rw (← e, h)

pub known_coded : (bytes : List ℕ) (a : Result (Unit {0}) GrammarRefusal) → a ≡ grammar_answer limits bytes → a ≡ Ok tt → grammar_answer limits bytes ≡ Ok tt
known_coded bytes a e h = sym e ∙ h
