-- The coded grammar as records. A record has 8 bytes, numbers little-endian: bytes 0-1 production; 2-3 position (0 is the left
-- side, 1 upward the right side); 4 kind (0 nonterminal, 1 terminal); 5 zero; 6-7 symbol.
--
-- The smallest grammar is one record, eight zero bytes: production 0 has nonterminal 0 on its left and nothing on its right.
use Rattle.std.specs.Prelude.{ℕ, zero, suc, ◌+◌, ◌*◌, ◌-◌, ◌/◌, ◌%◌, Bool, ◌&&◌, ◌||◌, not, List, [], ◌∷◌, length, get_or, drop, eqb, leb, ltb}
use Rattle.base.specs.Pick.{pick}
use Rattle.rules.specs.Limits.{Limits}

pub record Record : Type 0 where
  pub production : ℕ
  pub position : ℕ
  pub kind : ℕ
  pub zero_byte : ℕ
  pub symbol : ℕ

abbrev pub Grammar : Type 0
Grammar = List Record

-- the little-endian number of two bytes, the first of which is byte i
unfoldable pub number_at : List ℕ → ℕ → ℕ
number_at bytes i = get_or bytes i 0 + 256 * get_or bytes (i + 1) 0

-- the record whose first byte is byte i
unfoldable pub record_at : List ℕ → ℕ → Record
unfolding number_at
record_at bytes i = record {
  production = number_at bytes i;
  position = number_at bytes (i + 2);
  kind = get_or bytes (i + 4) 0;
  zero_byte = get_or bytes (i + 5) 0;
  symbol = number_at bytes (i + 6);
}

-- the first k records of the bytes
unfoldable pub records_of : ℕ → List ℕ → Grammar
unfolding record_at
records_of zero bytes = []
records_of (suc k) bytes = record_at bytes 0 ∷ records_of k (drop 8 bytes)

unfoldable pub records : List ℕ → Grammar
unfolding records_of
records bytes = records_of (length bytes / 8) bytes

-- what is read behind the last record: the beginning of a production that is not there
unfoldable pub past : Record
past = record { production = 0; position = 0; kind = 0; zero_byte = 0; symbol = 0 }

unfoldable pub at : Grammar → ℕ → Record
unfolding past
at g i = get_or g i past

-- ---- refusal 3: length 0, over the limit, or no multiple of 8
unfoldable pub bad_length : Limits → List ℕ → Bool
bad_length l bytes = eqb (length bytes) 0 || (ltb l.bytes (length bytes) || not (eqb (length bytes % 8) 0))

-- ---- refusal 4: byte 5 not zero, kind over 1, or a symbol over the limit of its kind
unfoldable pub is_terminal : Record → Bool
is_terminal r = eqb r.kind 1

unfoldable pub bad_record : Limits → Record → Bool
unfolding is_terminal
bad_record l r =
    not (eqb r.zero_byte 0)
    || (ltb 1 r.kind || leb (pick (is_terminal r) l.terminals l.nonterminals) r.symbol)

-- ---- refusal 5: out of sequence, position 0 not a nonterminal, or production or position over the limit
unfoldable pub is_left_side : Record → Bool
is_left_side r = eqb r.position 0

-- r comes directly behind q: the next position of its production, or the next production's left side
unfoldable pub comes_behind : Record → Record → Bool
comes_behind q r =
    (eqb r.production q.production && eqb r.position (q.position + 1))
    || (eqb r.production (q.production + 1) && eqb r.position 0)

unfoldable pub in_sequence : Grammar → ℕ → Bool
unfolding at comes_behind
in_sequence g i = pick (eqb i 0) (eqb (at g i).production 0 && eqb (at g i).position 0) (comes_behind (at g (i - 1)) (at g i))

unfoldable pub out_of_sequence : Limits → Grammar → ℕ → Bool
unfolding at in_sequence is_left_side is_terminal
out_of_sequence l g i =
    not (in_sequence g i)
    || ((is_left_side (at g i) && is_terminal (at g i)) || (leb l.productions (at g i).production || ltb l.symbols (at g i).position))
