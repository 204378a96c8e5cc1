-- The driver: the whole call, over grammar bytes, table bytes, tokens, the rooms and the step limit. Refusals 3 to 8 come first, then 15,
-- then 16, then the run. Before the run begins neither stack nor list changes.
use Rattle.std.specs.Prelude.{ℕ, ◌-◌, ◌%◌, Bool, ◌&&◌, ◌||◌, not, List, length, get_or, eqb, leb, ltb, Result, Ok, Err}
use Rattle.base.specs.Pick.{pick}
use Rattle.base.specs.Loops.{first_from}
use Rattle.base.specs.Lists.{some_of}
use Rattle.rules.specs.Limits.{Limits}
use Rattle.rules.specs.Records.{Grammar, records}
use Rattle.rules.specs.Grammar.{grammar_answer, production_count, terminal_count, nonterminal_count}
use Rattle.rules.specs.Table.{TableRecord, table_record, table_records, is_for, table_in}
use Rattle.rules.specs.Run.{RunResult, run}
use Rattle.rules.specs.declared.GrammarRefusal.{GrammarRefusal}
use Rattle.rules.specs.declared.DriveRefusal.{DriveRefusal}
use Rattle.rules.specs.declared.RunAnswer.{RunAnswer}
use Rattle.rules.specs.declared.DriveRefusal.TheVariants.{Grammar as NoGrammar, Table as NoTable, Token as NoToken}

pub record DriveResult : Type 0 where
  pub answer : Result RunAnswer DriveRefusal
  pub stack : List ℕ
  pub list : List ℕ

-- ---- refusal 15: its place is the lowest record with any fault; a bad length is place 0 and comes first
unfoldable pub table_at : List TableRecord → ℕ → TableRecord
unfolding table_record
table_at rs i = get_or rs i (table_record 0 0 0 0)

-- a shift's symbol is below n, a goto's below m, a reduction's at most n
unfoldable pub bad_symbol : Grammar → TableRecord → Bool
unfolding terminal_count nonterminal_count
bad_symbol g r =
    pick (eqb r.kind 0) (leb (terminal_count g) r.symbol)
    (pick (eqb r.kind 1) (leb (nonterminal_count g) r.symbol) (ltb (terminal_count g) r.symbol))

unfoldable pub bad_target : Limits → Grammar → TableRecord → Bool
unfolding production_count
bad_target l g r = pick (eqb r.kind 2) (leb (production_count g) r.target) (leb l.states r.target)

-- r comes behind q in the order of state, kind, symbol
unfoldable pub ascends : TableRecord → TableRecord → Bool
ascends q r =
    ltb q.state r.state
    || (eqb q.state r.state && (ltb q.kind r.kind || (eqb q.kind r.kind && ltb q.symbol r.symbol)))

-- a reduction on a token that its state shifts
unfoldable pub reduces_shifted : List TableRecord → TableRecord → Bool
unfolding some_of is_for
reduces_shifted rs r = eqb r.kind 2 && some_of (is_for r.state 0 r.symbol) rs

unfoldable pub malformed : Limits → Grammar → List TableRecord → ℕ → Bool
unfolding table_at bad_symbol bad_target ascends reduces_shifted
malformed l g rs i =
    let r : TableRecord = table_at rs i in
    not (eqb r.zero_byte 0)
    || (ltb 2 r.kind
    || (leb l.states r.state
    || (bad_symbol g r
    || (bad_target l g r || ((not (eqb i 0) && not (ascends (table_at rs (i - 1)) r)) || reduces_shifted rs r)))))

unfoldable pub first_malformed : Limits → Grammar → List TableRecord → ℕ
unfolding first_from malformed
first_malformed l g rs = first_from (malformed l g rs) (length rs) 0

-- ---- refusal 16: the first token not below n
unfoldable pub first_no_token : Grammar → List ℕ → ℕ
unfolding first_from terminal_count
first_no_token g tokens = first_from (λ i. leb (terminal_count g) (get_or tokens i 0)) (length tokens) 0

-- ---- the call
unfoldable pub not_driven : Result RunAnswer DriveRefusal → List ℕ → List ℕ → DriveResult
not_driven answer stack list = record { answer = answer; stack = stack; list = list }

unfoldable pub driven : RunResult ℕ → DriveResult
driven r = record { answer = Ok r.answer; stack = r.stack; list = r.list }

unfoldable pub drive_coded : Limits → List ℕ → Result (Unit {0}) GrammarRefusal → List ℕ → List ℕ → ℕ → List ℕ → List ℕ → DriveResult
unfolding records table_records first_malformed first_no_token not_driven driven run table_in
drive_coded l bytes (Err why) table tokens limit stack list = not_driven (Err (NoGrammar why)) stack list
drive_coded l bytes (Ok tt) table tokens limit stack list =
    let g : Grammar = records bytes in
    let rs : List TableRecord = table_records table in
    let ran : DriveResult = driven (run (table_in rs) g tokens limit stack list) in
    let from16 : DriveResult = pick (ltb (first_no_token g tokens) (length tokens)) (not_driven (Err (NoToken (first_no_token g tokens))) stack list) ran in
    let from15 : DriveResult = pick (ltb (first_malformed l g rs) (length rs)) (not_driven (Err (NoTable (first_malformed l g rs))) stack list) from16 in
    pick (eqb (length table % 8) 0) from15 (not_driven (Err (NoTable 0)) stack list)

unfoldable pub drive : Limits → List ℕ → List ℕ → List ℕ → ℕ → List ℕ → List ℕ → DriveResult
unfolding drive_coded grammar_answer
drive l bytes table tokens limit stack list = drive_coded l bytes (grammar_answer l bytes) table tokens limit stack list
