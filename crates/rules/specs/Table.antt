-- Table records: 8 bytes, numbers little-endian. Bytes 0-1 state; 2 kind (0 shift, 1 goto, 2 reduce); 3 zero; 4-5 symbol; 6-7 target
-- state or production. They ascend by state, kind, symbol. A reduction has a record for each token, Eof being n.
--
-- S→A, A→a has the records 0 s 0 2, 0 g 1 1, 1 r 1 0, 2 r 1 1.
use Rattle.std.specs.Prelude.{ℕ, zero, suc, ◌+◌, ◌/◌, ◌%◌, Bool, ◌&&◌, List, [], ◌∷◌, ◌++◌, map, length, get_or, drop, eqb}
use Rattle.std.proofs.Math.Option.{Option, none, some}
use Rattle.base.specs.Pick.{pick}
use Rattle.base.specs.Lists.{up_to, keep, concat}
use Rattle.rules.specs.Records.{Grammar, at, number_at}
use Rattle.rules.specs.Tokens.{has}
use Rattle.rules.specs.Grammar.{nonterminal, terminal, is_before, terminal_count, nonterminal_count}
use Rattle.rules.specs.States.{Entry, State, reductions}
use Rattle.rules.specs.Run.{Act, shift, reduce, no_act, Table}

pub record TableRecord : Type 0 where
  pub state : ℕ
  pub kind : ℕ
  pub zero_byte : ℕ
  pub symbol : ℕ
  pub target : ℕ

-- ---- the records of states
unfoldable pub table_record : ℕ → ℕ → ℕ → ℕ → TableRecord
table_record s kind symbol target = record { state = s; kind = kind; zero_byte = 0; symbol = symbol; target = target }

-- the first of the entries before x tells where x leads, if there is one
unfoldable pub transition_over : ℕ → ℕ → ℕ → List Entry → List TableRecord
unfolding table_record
transition_over s kind symbol [] = []
transition_over s kind symbol (e ∷ es) = table_record s kind symbol e.next ∷ []

unfoldable pub shift_records : Grammar → ℕ → State → List TableRecord
unfolding concat transition_over keep is_before up_to terminal_count
shift_records g s state = concat (map (λ t. transition_over s 0 t (keep (λ e. is_before g (terminal t) e.item) state)) (up_to (terminal_count g)))

unfoldable pub goto_records : Grammar → ℕ → State → List TableRecord
unfolding concat transition_over keep is_before up_to nonterminal_count
goto_records g s state = concat (map (λ a. transition_over s 1 a (keep (λ e. is_before g (nonterminal a) e.item) state)) (up_to (nonterminal_count g)))

-- the tokens are the terminals and Eof
unfoldable pub reduce_records : Grammar → ℕ → State → List TableRecord
unfolding concat keep has reductions at up_to terminal_count table_record
reduce_records g s state =
    concat (map (λ t. map (λ e. table_record s 2 t (at g e.item).production) (keep (λ e. has e.set t) (reductions g state))) (up_to (terminal_count g + 1)))

unfoldable pub state_records : Grammar → ℕ → State → List TableRecord
unfolding shift_records goto_records reduce_records
state_records g s state = shift_records g s state ++ (goto_records g s state ++ reduce_records g s state)

-- the records of the states from number s on
unfoldable pub records_from : Grammar → ℕ → List State → List TableRecord
unfolding state_records
records_from g s [] = []
records_from g s (state ∷ states) = state_records g s state ++ records_from g (suc s) states

unfoldable pub table_of : Grammar → List State → List TableRecord
unfolding records_from
table_of g states = records_from g 0 states

-- ---- records as bytes
unfoldable pub two_bytes : ℕ → List ℕ
two_bytes v = v % 256 ∷ v / 256 % 256 ∷ []

unfoldable pub record_bytes : TableRecord → List ℕ
unfolding two_bytes
record_bytes r = two_bytes r.state ++ (r.kind ∷ r.zero_byte ∷ (two_bytes r.symbol ++ two_bytes r.target))

unfoldable pub table_bytes : List TableRecord → List ℕ
unfolding concat record_bytes
table_bytes rs = concat (map record_bytes rs)

-- ---- bytes as records
unfoldable pub table_record_at : List ℕ → ℕ → TableRecord
unfolding number_at
table_record_at bytes i = record {
  state = number_at bytes i;
  kind = get_or bytes (i + 2) 0;
  zero_byte = get_or bytes (i + 3) 0;
  symbol = number_at bytes (i + 4);
  target = number_at bytes (i + 6);
}

-- the first k records of the bytes
unfoldable pub table_records_of : ℕ → List ℕ → List TableRecord
unfolding table_record_at
table_records_of zero bytes = []
table_records_of (suc k) bytes = table_record_at bytes 0 ∷ table_records_of k (drop 8 bytes)

unfoldable pub table_records : List ℕ → List TableRecord
unfolding table_records_of
table_records bytes = table_records_of (length bytes / 8) bytes

-- ---- what records say
unfoldable pub is_for : ℕ → ℕ → ℕ → TableRecord → Bool
is_for s kind symbol r = eqb r.state s && (eqb r.kind kind && eqb r.symbol symbol)

unfoldable pub target_of : List TableRecord → ℕ → ℕ → ℕ → Option ℕ
unfolding is_for
target_of [] s kind symbol = none
target_of (r ∷ rs) s kind symbol = let later : Option ℕ = target_of rs s kind symbol in pick (is_for s kind symbol r) (some r.target) later

unfoldable pub act_by : Option ℕ → Option ℕ → Act ℕ
act_by (some s) reducing = shift s
act_by none (some p) = reduce p
act_by none none = no_act

-- the table that the driver runs on
unfoldable pub table_in : List TableRecord → Table ℕ
unfolding act_by target_of
table_in rs = record { act = λ s t. act_by (target_of rs s 0 t) (target_of rs s 2 t); goto = λ s a. target_of rs s 1 a; bottom = 0 }
