-- What the helpers of this crate answer, in the words of `rules`; of the grammar they know that it has n terminals, m nonterminals and
-- p productions.
use Rattle.std.specs.Prelude.{ℕ, ◌-◌, Bool, ◌&&◌, ◌||◌, not, List, length, eqb, leb, ltb}
use Rattle.base.specs.Pick.{pick}
use Rattle.base.specs.Loops.{first_from}
use Rattle.rules.specs.Limits.{max_states}
use Rattle.rules.specs.Table.{TableRecord}
use Rattle.rules.specs.Drive.{table_at, ascends, reduces_shifted}
use Rattle.record.specs.Search.{first_for}

-- ---- one record
unfoldable pub bad_symbol_by : ℕ → ℕ → TableRecord → Bool
bad_symbol_by n m r = pick (eqb r.kind 0) (leb n r.symbol) (pick (eqb r.kind 1) (leb m r.symbol) (ltb n r.symbol))

unfoldable pub bad_target_by : ℕ → TableRecord → Bool
bad_target_by p r = pick (eqb r.kind 2) (leb p r.target) (leb max_states r.target)

-- a fault that the record shows alone
unfoldable pub bad_alone : ℕ → ℕ → ℕ → TableRecord → Bool
unfolding bad_symbol_by bad_target_by
bad_alone n m p r =
    not (eqb r.zero_byte 0) || (ltb 2 r.kind || (leb max_states r.state || (bad_symbol_by n m r || bad_target_by p r)))

-- ---- record i among the others
unfoldable pub out_of_order : List TableRecord → ℕ → Bool
unfolding table_at ascends
out_of_order rs i = not (eqb i 0) && not (ascends (table_at rs (i - 1)) (table_at rs i))

unfoldable pub misplaced : ℕ → ℕ → ℕ → List TableRecord → ℕ → Bool
unfolding bad_alone table_at out_of_order
misplaced n m p rs i = bad_alone n m p (table_at rs i) || out_of_order rs i

-- a reduction on a token that a record before it shifts
unfoldable pub shifted_before : List TableRecord → ℕ → Bool
unfolding table_at first_for
shifted_before rs i = let r : TableRecord = table_at rs i in eqb r.kind 2 && ltb (first_for rs i r.state 0 r.symbol) i

-- ---- the faults, as far as the records up to i show, and all of them
unfoldable pub faulty_so_far : ℕ → ℕ → ℕ → List TableRecord → ℕ → Bool
unfolding misplaced shifted_before
faulty_so_far n m p rs i = misplaced n m p rs i || shifted_before rs i

unfoldable pub faulty : ℕ → ℕ → ℕ → List TableRecord → ℕ → Bool
unfolding misplaced reduces_shifted table_at
faulty n m p rs i = misplaced n m p rs i || reduces_shifted rs (table_at rs i)

unfoldable pub first_faulty : ℕ → ℕ → ℕ → List TableRecord → ℕ
unfolding first_from faulty
first_faulty n m p rs = first_from (faulty n m p rs) (length rs) 0
