-- The driver on the bytes of a table of good states is the run on that table: neither 15 nor 16 is met.
use Prim.Native.Nat.{ℕ, ◌%◌, ◌<◌, ◌≤◌}
use mathlib.Core.Path.{◌≡◌, ap, ◌∙◌}
use mathlib.Core.Bool.{true, false}
use mathlib.Core.List.{List, []}
use native.Mathlib.Omega.{arith}
use lib.ListN.{length, get_or}
use lib.Dec.{eqb, leb, ltb}
use borrow.Author.Tests.{eq-eqb, le-ltb, lt-leb}
use Rattle.std.specs.Prelude.{Result, Ok}
use Rattle.base.specs.Among.{Among}
use Rattle.base.proofs.Lists.{among_at}
use Rattle.rules.specs.Limits.{Limits, limits}
use Rattle.rules.specs.Records.{Grammar, records}
use Rattle.rules.specs.Grammar.{nonterminal, terminal, terminal_count, grammar_answer}
use Rattle.rules.specs.States.{State}
use Rattle.rules.specs.Table.{TableRecord, table_record, table_of, table_bytes, table_records, table_in}
use Rattle.rules.specs.Run.{run}
use Rattle.rules.specs.Drive.{first_malformed, first_no_token, driven, drive_coded, drive}
use Rattle.rules.specs.declared.GrammarRefusal.{GrammarRefusal}
use Rattle.knuth.specs.Coded.{Checked}
use Rattle.knuth.proofs.Coded.{coded_is_checked, coded_has_a_record}
use Rattle.runs.specs.Good.{GoodStates}
use Rattle.runs.specs.Sentences.{AreTokens}
use Rattle.runs.specs.TwoBytes.{RecordFits, LimitsFit}
use Rattle.runs.proofs.Counts.{production_limited, terminals_limited, nonterminals_limited}
use Rattle.runs.proofs.StateRecords.{Says, a_shift, a_goto, a_reduction, table_says}
use Rattle.runs.proofs.Bytes.{bytes_length, records_read_back}
use Rattle.runs.proofs.WellFormed.{first_of_none, well_formed}

pub limits_fit : LimitsFit limits
unfolding limits
limits_fit = record { states = omega arith; terminals = omega arith; nonterminals = omega arith; productions = omega arith }

module _ (l : Limits) (fit : LimitsFit l) (bytes : List ℕ) (coded : grammar_answer l bytes ≡ Ok tt)
    (states : List State) (good : GoodStates (records bytes) states) (few : length states ≤ l.states) where
  abbrev g : Grammar
  g = records bytes

  abbrev rs : List TableRecord
  rs = table_of g states

  fine : Checked l g
  fine = coded_is_checked l bytes coded

  a_record : 0 < length g
  a_record = coded_has_a_record l bytes coded

  table_fits : (r : TableRecord) → Among r rs → RecordFits r
  unfolding table_record
  table_fits r m = let (s, h, says) = table_says g states m in go s h says
    where
      go : (s : ℕ) → s < length states → Says g s (get_or states s []) r → RecordFits r
      go s h (a_shift t e low k before q) =
          rw q (record {
            state = omega (arith, fit.states);
            symbol = omega (arith, fit.terminals, terminals_limited l g fine);
            target = omega (arith, fit.states, good.next_below s (terminal t) e k before);
          })
      go s h (a_goto a e low k before q) =
          rw q (record {
            state = omega (arith, fit.states);
            symbol = omega (arith, fit.nonterminals, nonterminals_limited l g fine);
            target = omega (arith, fit.states, good.next_below s (nonterminal a) e k before);
          })
      go s h (a_reduction t e low k end token q) =
          rw q (record {
            state = omega (arith, fit.states);
            symbol = omega (arith, fit.terminals, terminals_limited l g fine);
            target = omega (arith, fit.productions, production_limited l g fine a_record e.item);
          })

  tokens_fine : (w : List ℕ) → AreTokens g w → first_no_token g w ≡ length w
  unfolding first_no_token
  tokens_fine w below =
      first_of_none (λ (i : ℕ). leb (terminal_count g) (get_or w i 0)) (length w) (λ k h. lt-leb (terminal_count g) (get_or w k 0) (below (get_or w k 0) (among_at w k 0 h)))

  pub drive_is_run : (w : List ℕ) → AreTokens g w → (limit : ℕ) (stack list : List ℕ)
      → drive l bytes (table_bytes rs) w limit stack list ≡ driven (run (table_in rs) g w limit stack list)
  unfolding drive drive_coded
  drive_is_run w below limit stack list =
      let whole : eqb (length (table_bytes rs) % 8) 0 ≡ true = eq-eqb (length (table_bytes rs) % 8) 0 (omega (arith, bytes_length rs)) in
      let read : table_records (table_bytes rs) ≡ rs = records_read_back rs table_fits in
      let no15 : ltb (first_malformed l g rs) (length rs) ≡ false = le-ltb (first_malformed l g rs) (length rs) (omega (arith, well_formed l g fine a_record states good few)) in
      let no16 : ltb (first_no_token g w) (length w) ≡ false = le-ltb (first_no_token g w) (length w) (omega (arith, tokens_fine w below)) in
      ap (λ (a : Result (Unit {0}) GrammarRefusal). drive_coded l bytes a (table_bytes rs) w limit stack list) coded ∙ rw (whole, read, no15, no16)
