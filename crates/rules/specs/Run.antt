-- The run of the driver, over a table given as two functions on any type of states: what to do in a state at a token, and where a
-- state goes over a nonterminal. Ours has numbers for states; Knuth's unlimited table has stacks of symbols.
--
-- Each move tries 17, 21, 18, 19, 20 in this order, all before anything is put. A cell of stack or list holds the last number put
-- there, or what it had: popped cells keep theirs until something is put there.
use Prim.Native.Nat.{ℕ, zero, suc, ◌+◌, ◌-◌}
use Rattle.std.specs.Prelude.{Bool, ◌&&◌, List, length, get_or, leb}
use Rattle.std.proofs.Math.Option.{Option, none, some}
use Rattle.std.proofs.Math.ListN.{set}
use Rattle.std.proofs.Math.Dec.{eqb}
use Rattle.base.specs.Pick.{pick}
use Rattle.rules.specs.Records.{Grammar}
use Rattle.rules.specs.Grammar.{left_side_of, left_of, symbols_behind, terminal_count}
use Rattle.rules.specs.declared.RunEnd.{RunEnd}
use Rattle.rules.specs.declared.RunEnd.TheVariants.{Accepted, Rejected, Broken, ListFull, StackFull, StepLimit}
use Rattle.rules.specs.declared.RunAnswer.{RunAnswer}

-- what a state does at a token
pub data Act (S : Type 0) : Type 0 where
  shift : S → Act S
  reduce : ℕ → Act S
  no_act : Act S

pub record Table (S : Type 0) : Type 0 where
  pub act : S → ℕ → Act S
  pub goto : S → ℕ → Option S
  -- where every run begins
  pub bottom : S

-- the rooms, how much of each is in use, the moves made, and the place of the next token
pub record Standing (S : Type 0) : Type 0 where
  pub stack : List S
  pub depth : ℕ
  pub list : List ℕ
  pub listed : ℕ
  pub steps : ℕ
  pub place : ℕ

pub data Moved (S : Type 0) : Type 0 where
  goes : Standing S → Moved S
  ends : RunEnd → Standing S → Moved S

pub record RunResult (S : Type 0) : Type 0 where
  pub answer : RunAnswer
  pub stack : List S
  pub list : List ℕ

-- how many symbols production p has on its right
unfoldable pub side_length : Grammar → ℕ → ℕ
unfolding symbols_behind left_side_of
side_length g p = length (symbols_behind g (left_side_of g p))

module _ {S : Type 0} where
  abbrev pub shifted : S → Standing S → Standing S
  shifted to s = record {
    stack = set s.stack s.depth to;
    depth = s.depth + 1;
    list = s.list;
    listed = s.listed;
    steps = s.steps + 1;
    place = s.place + 1;
  }

  -- production p is put on the list, its symbols' states go, and `to` is put where the first of them stood
  abbrev pub reduced : ℕ → ℕ → S → Standing S → Standing S
  reduced p symbols to s = record {
    stack = set s.stack (s.depth - symbols) to;
    depth = s.depth - symbols + 1;
    list = set s.list s.listed p;
    listed = s.listed + 1;
    steps = s.steps + 1;
    place = s.place;
  }

  -- production 0 is put on the list, and state 0 is left
  abbrev pub ended : Standing S → Standing S
  ended s = record {
    stack = s.stack;
    depth = 1;
    list = set s.list s.listed 0;
    listed = s.listed + 1;
    steps = s.steps + 1;
    place = s.place;
  }

  unfoldable pub list_full : Standing S → Bool
  list_full s = leb (length s.list) s.listed

  -- a state put where `depth` stand finds no cell
  unfoldable pub stack_full : Standing S → ℕ → Bool
  stack_full s depth = leb (length s.stack) depth

  -- the state that stands under the topmost k
  unfoldable pub state_under : Table S → ℕ → Standing S → S
  state_under table k s = get_or s.stack (s.depth - 1 - k) table.bottom

  unfoldable pub answered : RunEnd → Standing S → RunResult S
  answered end s = record {
    answer = record { end = end; place = s.place; steps = s.steps; listed = s.listed };
    stack = s.stack;
    list = s.list;
  }

  -- ---- the moves
  unfoldable pub move_shift : S → Standing S → Moved S
  unfolding stack_full
  move_shift to s = pick (stack_full s s.depth) (ends StackFull s) (goes (shifted to s))

  -- a reduction by production p, not 0; its symbols' states can be popped
  unfoldable pub move_goto : Grammar → ℕ → Option S → Standing S → Moved S
  unfolding list_full stack_full side_length
  move_goto g p none s = ends Broken s
  move_goto g p (some to) s =
      pick (list_full s) (ends ListFull s)
      (pick (stack_full s (s.depth - side_length g p)) (ends StackFull s)
      (goes (reduced p (side_length g p) to s)))

  -- production 0 on Eof accepts, if just state 0 is left
  unfoldable pub move_end : Grammar → List ℕ → Standing S → Moved S
  unfolding list_full side_length
  move_end g tokens s =
      pick (eqb s.place (length tokens) && eqb s.depth (side_length g 0 + 1))
      (pick (list_full s) (ends ListFull s) (ends Accepted (ended s)))
      (ends Broken s)

  unfoldable pub move_reduce : Table S → Grammar → List ℕ → ℕ → Standing S → Moved S
  unfolding move_end move_goto state_under side_length left_of
  move_reduce table g tokens zero s = move_end g tokens s
  move_reduce table g tokens (suc p) s =
      pick (leb s.depth (side_length g (suc p))) (ends Broken s)
      (move_goto g (suc p) (table.goto (state_under table (side_length g (suc p)) s) (left_of g (suc p))) s)

-- ---- the run
-- the token at a place, and Eof at the end
unfoldable pub token_at : Grammar → List ℕ → ℕ → ℕ
unfolding terminal_count
token_at g tokens place = get_or tokens place (terminal_count g)

module _ {S : Type 0} (table : Table S) (g : Grammar) (tokens : List ℕ) (limit : ℕ) where
  unfoldable pub move_by : Act S → Standing S → Moved S
  unfolding move_shift move_reduce
  move_by no_act s = ends Rejected s
  move_by (shift to) s = pick (leb limit s.steps) (ends StepLimit s) (move_shift to s)
  move_by (reduce p) s = pick (leb limit s.steps) (ends StepLimit s) (move_reduce table g tokens p s)

  unfoldable pub move : Standing S → Moved S
  unfolding move_by state_under token_at
  move s = move_by (table.act (state_under table 0 s) (token_at g tokens s.place)) s

  -- a move is a step, and none is made at the limit, so limit + 1 moves are the most that are tried
  unfoldable pub run_from : ℕ → Standing S → RunResult S
  unfolding move answered
  run_from zero s = answered StepLimit s
  run_from (suc fuel) s = elim (move s) [ goes s' ↦ run_from fuel s' | ends end s' ↦ answered end s' ]

  -- the stack begins as state 0, and room 0 gives 20
  unfoldable pub run : List S → List ℕ → RunResult S
  unfolding answered run_from
  run stack list =
      let opened : Standing S = record { stack = set stack 0 table.bottom; depth = 1; list = list; listed = 0; steps = 0; place = 0 } in
      let unopened : Standing S = record { stack = stack; depth = 0; list = list; listed = 0; steps = 0; place = 0 } in
      let ran : RunResult S = run_from (limit + 1) opened in
      pick (eqb (length stack) 0) (answered StackFull unopened) ran
