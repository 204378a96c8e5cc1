-- The room after each function of FIRST, and what it answers, for the bytes of a grammar. Each is the expression that it abbreviates.
use Rattle.std.specs.Prelude.{ℕ, Bool, false, not, List}
use Rattle.base.specs.Pick.{pick}
use Rattle.base.specs.Lists.{fold_over}
use Rattle.rules.specs.Records.{at, records}
use Rattle.rules.specs.Grammar.{symbol_of, symbols_behind, at_start, left_sides}
use Rattle.rules.specs.First.{Sets, first0, beginning, may_be_empty, first1, add_first, first_settled}
use Rattle.room.specs.Areas.{Room, view}
use Rattle.lookahead.specs.Sets.{set_at, put_set}
use Rattle.first.specs.Firsts.{firsts_in, join_symbol, goes_on, has_first}

-- ---- into a slot: what can begin record k's symbol joined in; what can begin the symbols behind the dot of item i, with the mark, without
-- it, and with a lookahead behind
abbrev pub symbol_joined : List ℕ → ℕ → ℕ → ℕ → Room → Room
symbol_joined bytes n k slot r = put_set slot (join_symbol n (firsts_in (records bytes) r) (set_at r slot) (symbol_of (at (records bytes) k))) r

abbrev pub symbol_goes_on : List ℕ → ℕ → ℕ → ℕ → Room → Bool
symbol_goes_on bytes n k slot r = goes_on n (firsts_in (records bytes) r) (set_at r slot) (symbol_of (at (records bytes) k))

abbrev pub first0_put : List ℕ → ℕ → ℕ → ℕ → Room → Room
first0_put bytes n i slot r = put_set slot (first0 n (firsts_in (records bytes) r) (symbols_behind (records bytes) i)) r

abbrev pub beginning_put : List ℕ → ℕ → ℕ → ℕ → Room → Room
beginning_put bytes n i slot r = put_set slot (beginning n (firsts_in (records bytes) r) (symbols_behind (records bytes) i)) r

abbrev pub behind_may_be_empty : List ℕ → ℕ → ℕ → Room → Bool
behind_may_be_empty bytes n i r = may_be_empty n (firsts_in (records bytes) r) (symbols_behind (records bytes) i)

abbrev pub first1_put : List ℕ → ℕ → ℕ → ℕ → ℕ → Room → Room
first1_put bytes n i slot ahead r = put_set slot (first1 n (firsts_in (records bytes) r) (symbols_behind (records bytes) i) (set_at r ahead)) r

-- ---- FIRST of every nonterminal in the room; with the production of record i added, if one begins there; after a round; and whether the
-- production adds something, or a round does
abbrev pub firsts_of : List ℕ → List ℕ → Sets
firsts_of bytes work = firsts_in (records bytes) (view work)

abbrev pub first_added : List ℕ → ℕ → ℕ → List ℕ → Sets
first_added bytes n i work = add_first (records bytes) n i (firsts_of bytes work)

abbrev pub adds_first : List ℕ → ℕ → ℕ → List ℕ → Bool
adds_first bytes n i work = not (has_first (records bytes) n (firsts_of bytes work) i)

abbrev pub first_added_at : List ℕ → ℕ → ℕ → List ℕ → Sets
first_added_at bytes n i work = pick (at_start (records bytes) i) (first_added bytes n i work) (firsts_of bytes work)

abbrev pub adds_first_at : List ℕ → ℕ → ℕ → List ℕ → Bool
adds_first_at bytes n i work = pick (at_start (records bytes) i) (adds_first bytes n i work) false

abbrev pub round_made : List ℕ → ℕ → List ℕ → Sets
round_made bytes n work = fold_over (add_first (records bytes) n) (left_sides (records bytes)) (firsts_of bytes work)

abbrev pub round_adds : List ℕ → ℕ → List ℕ → Bool
round_adds bytes n work = not (first_settled (records bytes) n (firsts_of bytes work))
