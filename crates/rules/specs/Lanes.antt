-- Lanes: the actions of a state, and the table of the tokens that each can be seen before, traced back through the states.
--
-- The lane table has a row for each state and a column for each action: the tokens that the state contributes to the action. A state
-- on the way back is linked to its successors. S→X b, S→c X d, X→e: from the state of X→e·, reached from states 0 and 2, the trace
-- goes back over e and enters b at state 0 and d at state 2; both have the state of X→e· as successor.
use Prim.Native.Nat.{ℕ, zero, suc, ◌+◌, ◌-◌, ◌*◌}
use Rattle.std.specs.Prelude.{Bool, ◌&&◌, ◌||◌, not, get_or, set, eqb}
use Rattle.std.proofs.Math.Bool.{true, false}
use mathlib.Core.List.{List, [], ◌∷◌, ◌++◌, map}
use Rattle.std.proofs.Math.ListN.{length, replicate}
use Rattle.base.specs.Pick.{pick}
use Rattle.base.specs.Lists.{up_to, keep, some_of, each_of, fold_over, is_empty}
use Rattle.rules.specs.Records.{Grammar, at}
use Rattle.rules.specs.Tokens.{NumberSet, TokenSet, has, single, join, disjoint, eof}
use Rattle.rules.specs.Grammar.{Symbol, nonterminal, symbol_of, at_start, is_before, symbols_behind, start, terminal_count}
use Rattle.rules.specs.First.{Sets, beginning, may_be_empty}
use Rattle.rules.specs.States.{Entry, State, reductions, shifts}

-- ---- actions
pub data Action : Type 0 where
  -- of a terminal
  shift : ℕ → Action
  -- of a completed item
  reduce : ℕ → Action

unfoldable pub is_reduce : ℕ → Action → Bool
is_reduce i (shift t) = false
is_reduce i (reduce j) = eqb i j

-- the reduction meets no other one
unfoldable pub meets_none : List Entry → Entry → Bool
unfolding each_of disjoint
meets_none completed e = each_of (λ f. eqb e.item f.item || disjoint e.set f.set) completed

unfoldable pub shift_conflicts : List Entry → ℕ → Bool
unfolding some_of has
shift_conflicts completed t = some_of (λ e. has e.set t) completed

unfoldable pub reduce_conflicts : List ℕ → List Entry → Entry → Bool
unfolding some_of has meets_none
reduce_conflicts shifted completed e = some_of (has e.set) shifted || not (meets_none completed e)

-- the actions that are in any conflict; lane_table/mod.rs: conflicting_actions
unfoldable pub conflicting_actions : Grammar → State → List Action
unfolding reductions shifts keep shift_conflicts reduce_conflicts
conflicting_actions g state =
    let completed : List Entry = reductions g state in
    let shifted : List ℕ = shifts g state in
    map shift (keep (shift_conflicts completed) shifted) ++ map (λ e. reduce e.item) (keep (reduce_conflicts shifted completed) completed)

-- those; if there are none, all reductions
unfoldable pub actions_at : Grammar → State → List Action
unfolding conflicting_actions reductions is_empty
actions_at g state =
    let conflicting : List Action = conflicting_actions g state in
    let reducing : List Action = map (λ e. reduce e.item) (reductions g state) in
    pick (is_empty conflicting) reducing conflicting

-- ---- the lane table
pub record Row : Type 0 where
  -- a set for each action
  pub columns : List TokenSet
  -- something was entered here, if only an empty set
  pub entered : Bool
  -- a set of states
  pub successors : NumberSet

-- a row for each state
abbrev pub LaneTable : Type 0
LaneTable = List Row

unfoldable pub no_row : Row
no_row = record { columns = []; entered = false; successors = 0 }

unfoldable pub row_of : LaneTable → ℕ → Row
unfolding no_row
row_of table s = get_or table s no_row

unfoldable pub column_of : List TokenSet → ℕ → TokenSet
column_of columns c = get_or columns c 0

-- table/mod.rs: add_lookahead
unfoldable pub enter : ℕ → ℕ → TokenSet → LaneTable → LaneTable
unfolding row_of column_of join
enter s c tokens table =
    let row : Row = row_of table s in
    set table s (record { columns = set row.columns c (join (column_of row.columns c) tokens); entered = true; successors = row.successors })

-- table/mod.rs: add_successor
unfoldable pub add_successor : ℕ → ℕ → LaneTable → LaneTable
unfolding row_of join single
add_successor s successor table =
    let row : Row = row_of table s in
    set table s (record { columns = row.columns; entered = row.entered; successors = join row.successors (single successor) })

-- ---- tracing
-- the lane table, and the items visited in each state
pub record Trace : Type 0 where
  pub table : LaneTable
  pub visited : List NumberSet

unfoldable pub was_visited : ℕ → ℕ → Trace → Bool
unfolding has
was_visited s i trace = has (get_or trace.visited s 0) i

unfoldable pub visit : ℕ → ℕ → Trace → Trace
unfolding join single
visit s i trace = record { table = trace.table; visited = set trace.visited s (join (get_or trace.visited s 0) (single i)) }

abbrev pub on_table : (LaneTable → LaneTable) → Trace → Trace
on_table change trace = record { table = change trace.table; visited = trace.visited }

-- the states that lead to s over x, ascending; state_graph.rs: predecessors
unfoldable pub predecessors : Grammar → List State → ℕ → Symbol → List ℕ
unfolding keep up_to some_of is_before
predecessors g states s x = keep (λ p. some_of (λ e. is_before g x e.item && eqb e.next s) (get_or states p [])) (up_to (length states))

-- the items of state s with the dot before nonterminal a
unfoldable pub items_before : Grammar → List State → ℕ → ℕ → List ℕ
unfolding keep is_before
items_before g states s a = keep (λ i. is_before g (nonterminal a) i) (map (λ e. e.item) (get_or states s []))

-- FIRST of what follows the nonterminal behind the dot of item i, without the mark, and whether that can be empty
unfoldable pub tokens_past : Grammar → Sets → ℕ → TokenSet
unfolding beginning symbols_behind terminal_count
tokens_past g sets i = beginning (terminal_count g) sets (symbols_behind g (i + 1))

unfoldable pub empty_past : Grammar → Sets → ℕ → Bool
unfolding may_be_empty symbols_behind terminal_count
empty_past g sets i = may_be_empty (terminal_count g) sets (symbols_behind g (i + 1))

-- the start enters Eof
unfoldable pub enter_start : Grammar → ℕ → ℕ → ℕ → Trace → Trace
unfolding enter eof terminal_count at start
enter_start g s c i trace = pick (eqb (at g i).symbol (start g)) (on_table (enter s c (eof (terminal_count g))) trace) trace

module _ (g : Grammar) (sets : Sets) (states : List State) where
  -- The trace of column c back from item i in state s; lane/mod.rs: continue_trace. Each call that does not stop at once visits a
  -- pair of state and item that was not visited, so as many nested calls as there are pairs, and one that stops, suffice.
  unfoldable mutual
    unfolding was_visited visit at symbol_of at_start predecessors add_successor items_before enter tokens_past empty_past enter_start fold_over

    -- the dot is past 0: every predecessor over the symbol before the dot gets the state as successor, and the trace goes on there
    pub un_shift : ℕ → ℕ → ℕ → ℕ → Trace → Trace
    un_shift zero c s i trace = trace
    un_shift (suc fuel) c s i trace =
        elim (was_visited s i trace) [
          | true ↦ trace
          | false ↦
              fold_over
              (λ p trace. elim (at_start g (i - 1)) [
                | true ↦ un_close fuel c p (i - 1) (on_table (add_successor p s) trace)
                | false ↦ un_shift fuel c p (i - 1) (on_table (add_successor p s) trace)
              ])
              (predecessors g states s (symbol_of (at g i)))
              (visit s i trace)
        ]

    -- the dot is 0: the start enters Eof; each item with the dot before this nonterminal enters FIRST of what follows, and if that can
    -- be empty the trace goes on with it in the same state
    pub un_close : ℕ → ℕ → ℕ → ℕ → Trace → Trace
    un_close zero c s i trace = trace
    un_close (suc fuel) c s i trace =
        elim (was_visited s i trace) [
          | true ↦ trace
          | false ↦
              fold_over
              (λ j trace. elim (empty_past g sets j) [
                | true ↦ elim (at_start g j) [
                  | true ↦ un_close fuel c s j (on_table (enter s c (tokens_past g sets j)) trace)
                  | false ↦ un_shift fuel c s j (on_table (enter s c (tokens_past g sets j)) trace)
                ]
                | false ↦ on_table (enter s c (tokens_past g sets j)) trace
              ])
              (items_before g states s (at g i).symbol)
              (enter_start g s c i (visit s i trace))
        ]

  -- lane/mod.rs: start_trace. A shift enters its own terminal at the state. A reduction enters an empty set, then goes back
  unfoldable pub trace_action : ℕ → ℕ → Action → LaneTable → LaneTable
  unfolding enter single at_start un_shift un_close
  trace_action s c (shift t) table = enter s c (single t) table
  trace_action s c (reduce i) table =
      let fuel : ℕ = length states * length g + 1 in
      let begun : Trace = record { table = enter s c 0 table; visited = replicate (length states) 0 } in
      let ended : Trace = elim (at_start g i) [ true ↦ un_close fuel c s i begun | false ↦ un_shift fuel c s i begun ] in
      ended.table

  -- the actions from column c on
  unfoldable pub trace_actions : ℕ → ℕ → List Action → LaneTable → LaneTable
  unfolding trace_action
  trace_actions s c [] table = table
  trace_actions s c (a ∷ actions) table = trace_actions s (suc c) actions (trace_action s c a table)

  -- construct/mod.rs: build_lane_table
  unfoldable pub lane_table : ℕ → List Action → LaneTable
  unfolding trace_actions
  lane_table s actions =
      trace_actions s 0 actions (replicate (length states) (record { columns = replicate (length actions) 0; entered = false; successors = 0 }))

-- ---- columns and rows
unfoldable pub join_columns : List TokenSet → List TokenSet → List TokenSet
unfolding join
join_columns [] ds = ds
join_columns (c ∷ cs) [] = c ∷ cs
join_columns (c ∷ cs) (d ∷ ds) = join c d ∷ join_columns cs ds

-- no two columns share a token; context_set/mod.rs
unfoldable pub pairwise_disjoint : List TokenSet → Bool
unfolding each_of disjoint
pairwise_disjoint [] = true
pairwise_disjoint (c ∷ cs) = each_of (disjoint c) cs && pairwise_disjoint cs

-- as many empty sets as the table has columns; its first row has as many as any
unfoldable pub no_columns : LaneTable → List TokenSet
unfolding row_of
no_columns table = replicate (length (row_of table 0).columns) 0

-- the columns joined over all states; table/mod.rs: columns
unfoldable pub all_columns : LaneTable → List TokenSet
unfolding fold_over join_columns no_columns
all_columns table = fold_over (λ row columns. join_columns columns row.columns) table (no_columns table)

-- no row overlaps within itself; table/mod.rs: rows
unfoldable pub rows_disjoint : LaneTable → Bool
unfolding each_of pairwise_disjoint
rows_disjoint table = each_of (λ row. pairwise_disjoint row.columns) table

-- s is somebody's successor
unfoldable pub is_successor : LaneTable → ℕ → Bool
unfolding some_of has
is_successor table s = some_of (λ row. has row.successors s) table

-- the states with an entry, even an empty set, that are nobody's successor, ascending; table/mod.rs: beachhead_states
unfoldable pub beachheads : LaneTable → List ℕ
unfolding keep row_of is_successor up_to
beachheads table = keep (λ s. (row_of table s).entered && not (is_successor table s)) (up_to (length table))
