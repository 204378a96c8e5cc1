-- The grammar that records stand for. An item is a record of the grammar: the dot stands right behind it. So item i has record i's
-- production, its dot is record i's position, the symbol behind the dot is record i + 1's unless a production begins there, moving
-- the dot is i + 1, and the item of a production with dot 0 is its left-side record. The start item is 0.
--
-- 0: S→A, 1: A→a has records 0 1 2 3 for S A A a: item 2 is A→·a, item 3 is A→a·.
use Rattle.std.specs.Prelude.{ℕ, ◌+◌, Bool, true, false, ◌&&◌, ◌||◌, not, List, [], ◌∷◌, map, length, drop, eqb, ltb, Result, Ok, Err}
use Rattle.base.specs.Pick.{pick}
use Rattle.base.specs.Loops.{first_from, until}
use Rattle.base.specs.Lists.{up_to, greatest, keep, each_of, fold_over}
use Rattle.rules.specs.Limits.{Limits}
use Rattle.rules.specs.Records.{Record, Grammar, at, records, bad_length, is_terminal, is_left_side, bad_record, out_of_sequence}
use Rattle.rules.specs.Tokens.{NumberSet, has, single, join}
use Rattle.rules.specs.declared.GrammarRefusal.{GrammarRefusal}
use Rattle.rules.specs.declared.GrammarRefusal.TheVariants.{Length, BadRecord, OutOfSequence, StartAgain, NoProduction, NoString}

pub data Symbol : Type 0 where
  nonterminal terminal : ℕ → Symbol

unfoldable pub symbol_of : Record → Symbol
unfolding is_terminal
symbol_of r = pick (is_terminal r) (terminal r.symbol) (nonterminal r.symbol)

unfoldable pub same_symbol : Symbol → Symbol → Bool
same_symbol (nonterminal a) (nonterminal b) = eqb a b
same_symbol (nonterminal a) (terminal t) = false
same_symbol (terminal t) (nonterminal a) = false
same_symbol (terminal t) (terminal u) = eqb t u

-- ---- items
-- no symbol stands behind the dot
unfoldable pub at_end : Grammar → ℕ → Bool
unfolding at is_left_side
at_end g i = is_left_side (at g (i + 1))

unfoldable pub at_start : Grammar → ℕ → Bool
unfolding at is_left_side
at_start g i = is_left_side (at g i)

-- x stands directly behind the dot
unfoldable pub is_before : Grammar → Symbol → ℕ → Bool
unfolding at at_end symbol_of same_symbol
is_before g x i = not (at_end g i) && same_symbol (symbol_of (at g (i + 1))) x

-- the symbols of records up to the next left side
unfoldable pub side_of : List Record → List Symbol
unfolding is_left_side symbol_of
side_of [] = []
side_of (r ∷ rs) = let later : List Symbol = symbol_of r ∷ side_of rs in pick (is_left_side r) [] later

-- all symbols behind the dot of item i; of a left-side record, its production's right side
unfoldable pub symbols_behind : Grammar → ℕ → List Symbol
unfolding side_of
symbols_behind g i = side_of (drop (i + 1) g)

-- ---- productions
-- the left-side records, ascending: one for each production
unfoldable pub left_sides : Grammar → List ℕ
unfolding up_to keep at_start
left_sides g = keep (at_start g) (up_to (length g))

unfoldable pub production_count : Grammar → ℕ
unfolding left_sides
production_count g = length (left_sides g)

-- the left-side record of production p
unfoldable pub left_side_of : Grammar → ℕ → ℕ
unfolding first_from at is_left_side
left_side_of g p = first_from (λ i. is_left_side (at g i) && eqb (at g i).production p) (length g) 0

-- the nonterminal on the left of production p
unfoldable pub left_of : Grammar → ℕ → ℕ
unfolding at left_side_of
left_of g p = (at g (left_side_of g p)).symbol

unfoldable pub start : Grammar → ℕ
unfolding at
start g = (at g 0).symbol

-- ---- n is one more than the highest terminal named (0 if none), m the same for nonterminals
unfoldable pub terminal_count : Grammar → ℕ
unfolding greatest is_terminal
terminal_count g = greatest (map (λ r. pick (is_terminal r) (r.symbol + 1) 0) g)

unfoldable pub nonterminal_count : Grammar → ℕ
unfolding greatest is_terminal
nonterminal_count g = greatest (map (λ r. pick (is_terminal r) 0 (r.symbol + 1)) g)

-- ---- refusal 6: a later production has the start on its left, or any has it on its right
unfoldable pub names_start : Grammar → ℕ → Bool
unfolding at is_terminal start
names_start g i = not (eqb i 0) && (not (is_terminal (at g i)) && eqb (at g i).symbol (start g))

-- ---- refusal 7: a nonterminal below m has no production
unfoldable pub is_left_side_of : Grammar → ℕ → ℕ → Bool
unfolding at at_start
is_left_side_of g a i = at_start g i && eqb (at g i).symbol a

unfoldable pub has_production : Grammar → ℕ → Bool
unfolding first_from is_left_side_of
has_production g a = ltb (first_from (is_left_side_of g a) (length g) 0) (length g)

-- ---- refusal 8: a nonterminal derives no string of terminals. The nonterminals that derive one are collected in rounds over the
-- productions: one whose right side has only terminals and collected nonterminals adds its left side.
unfoldable pub symbol_derives : NumberSet → Symbol → Bool
unfolding has
symbol_derives found (nonterminal a) = has found a
symbol_derives found (terminal t) = true

unfoldable pub side_derives : Grammar → NumberSet → ℕ → Bool
unfolding each_of symbol_derives symbols_behind
side_derives g found i = each_of (symbol_derives found) (symbols_behind g i)

unfoldable pub collect : Grammar → ℕ → NumberSet → NumberSet
unfolding at side_derives single join
collect g i found = pick (side_derives g found i) (join found (single (at g i).symbol)) found

-- every production whose right side derives a string has its left side collected
unfoldable pub all_collected : Grammar → NumberSet → Bool
unfolding at each_of left_sides has side_derives
all_collected g found = each_of (λ i. not (side_derives g found i) || has found (at g i).symbol) (left_sides g)

-- a round that is not the last collects one of the m nonterminals, so m rounds suffice
unfoldable pub productive : Grammar → NumberSet
unfolding until all_collected fold_over left_sides collect nonterminal_count
productive g = until (all_collected g) (fold_over (collect g) (left_sides g)) (nonterminal_count g) 0

-- ---- the refusals in their order
unfoldable pub first_fault : Limits → Grammar → ℕ
unfolding first_from bad_record out_of_sequence at
first_fault l g = first_from (λ i. bad_record l (at g i) || out_of_sequence l g i) (length g) 0

unfoldable pub first_start : Grammar → ℕ
unfolding first_from names_start
first_start g = first_from (names_start g) (length g) 0

unfoldable pub first_without : Grammar → ℕ
unfolding first_from has_production nonterminal_count
first_without g = first_from (λ a. not (has_production g a)) (nonterminal_count g) 0

unfoldable pub first_barren : Grammar → ℕ
unfolding first_from has productive nonterminal_count
first_barren g = let found : NumberSet = productive g in first_from (λ a. not (has found a)) (nonterminal_count g) 0

-- 4 before 5 within a record
unfoldable pub fault_at : Limits → Grammar → ℕ → GrammarRefusal
unfolding bad_record at
fault_at l g i = pick (bad_record l (at g i)) (BadRecord i) (OutOfSequence i)

unfoldable pub grammar_answer : Limits → List ℕ → Result (Unit {0}) GrammarRefusal
unfolding records bad_length first_fault fault_at first_start at first_without first_barren nonterminal_count
grammar_answer l bytes =
    let g : Grammar = records bytes in
    let m : ℕ = nonterminal_count g in
    let six : Result (Unit {0}) GrammarRefusal = Err (StartAgain (at g (first_start g)).production) in
    let seven : Result (Unit {0}) GrammarRefusal = Err (NoProduction (first_without g)) in
    let eight : Result (Unit {0}) GrammarRefusal = pick (ltb (first_barren g) m) (Err (NoString (first_barren g))) (Ok tt) in
    let from_seven : Result (Unit {0}) GrammarRefusal = pick (ltb (first_without g) m) seven eight in
    let from_six : Result (Unit {0}) GrammarRefusal = pick (ltb (first_start g) (length g)) six from_seven in
    let from_four : Result (Unit {0}) GrammarRefusal = pick (ltb (first_fault l g) (length g)) (Err (fault_at l g (first_fault l g))) from_six in
    pick (bad_length l bytes) (Err Length) from_four
