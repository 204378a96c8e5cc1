-- The course of a run: `rules`' run without its rooms. The states that stand and the productions listed are lists, the last first, and of
-- the rooms only the sizes are known. It makes the moves of the run and tries 17, 21, 18, 19, 20 in the same order; that it is the run is
-- proofs/RunIsCourse.
--
-- 0: S→a, tokens a: the course goes on over a with the states 1 0, and ends by accepting, with 0 listed, after two steps.
use Prim.Native.Nat.{ℕ, zero, suc, ◌+◌, ◌-◌}
use Rattle.std.specs.Prelude.{◌&&◌, List, [], ◌∷◌, length, get_or, drop, leb}
use Rattle.std.proofs.Math.Option.{Option, none, some}
use Rattle.std.proofs.Math.Dec.{eqb}
use Rattle.base.specs.Pick.{pick}
use Rattle.rules.specs.Records.{Grammar}
use Rattle.rules.specs.Grammar.{left_of}
use Rattle.rules.specs.Run.{Act, shift, reduce, no_act, Table, side_length, token_at}
use Rattle.rules.specs.declared.RunEnd.{RunEnd}
use Rattle.rules.specs.declared.RunEnd.TheVariants.{Accepted, Rejected, Broken, ListFull, StackFull, StepLimit}
use Rattle.rules.specs.declared.RunAnswer.{RunAnswer}

-- where a run is: the states that stand, the productions listed, the steps made, and the place of the next token
pub record Spot (S : Type 0) : Type 0 where
  pub cells : List S
  pub made : List ℕ
  pub steps : ℕ
  pub place : ℕ

-- what a turn comes to: the run goes on from a spot, or stops there
pub data Turn (S : Type 0) : Type 0 where
  goes_on : Spot S → Turn S
  stops : RunEnd → Spot S → Turn S

-- how a run ended, and where
pub record Course (S : Type 0) : Type 0 where
  pub end : RunEnd
  pub spot : Spot S

-- what a run may use: the cells of the stack room and of the list room, and the steps
pub record Allowance : Type 0 where
  pub stack : ℕ
  pub list : ℕ
  pub limit : ℕ

-- a turn that goes on is a step, and none is made at the limit, so limit + 1 turns are the most that are tried
abbrev pub turns_in : Allowance → ℕ
turns_in b = b.limit + 1

module _ {S : Type 0} where
  -- as the rooms and the limit of a run set it
  abbrev pub allowance_of : ℕ → List S → List ℕ → Allowance
  allowance_of limit stack list = record { stack = length stack; list = length list; limit = limit }

  abbrev pub after_shift : S → Spot S → Spot S
  after_shift to c = record { cells = to ∷ c.cells; made = c.made; steps = c.steps + 1; place = c.place + 1 }

  -- by production p, whose right side has so many symbols
  abbrev pub after_reduce : ℕ → ℕ → S → Spot S → Spot S
  after_reduce p symbols to c = record { cells = to ∷ drop symbols c.cells; made = p ∷ c.made; steps = c.steps + 1; place = c.place }

  -- by production 0
  abbrev pub after_end : Spot S → Spot S
  after_end c = record { cells = c.cells; made = 0 ∷ c.made; steps = c.steps + 1; place = c.place }

  abbrev pub ends_at : RunEnd → Spot S → Course S
  ends_at end c = record { end = end; spot = c }

  abbrev pub after_turn : (Spot S → Course S) → Turn S → Course S
  after_turn more (goes_on c) = more c
  after_turn more (stops end c) = ends_at end c

  -- the stack begins as state 0, or as nothing if there is no room for it
  abbrev pub opened : Table S → Spot S
  opened table = record { cells = table.bottom ∷ []; made = []; steps = 0; place = 0 }

  abbrev pub unopened : Spot S
  unopened = record { cells = []; made = []; steps = 0; place = 0 }

  -- what the run answers
  abbrev pub answer_of : Course S → RunAnswer
  answer_of r = record { end = r.end; place = r.spot.place; steps = r.spot.steps; listed = length r.spot.made }

module _ {S : Type 0} (table : Table S) (g : Grammar) (tokens : List ℕ) where
  -- what is to be done at a spot, and where a reduction by p leads
  abbrev pub act_at : Spot S → Act S
  act_at c = table.act (get_or c.cells 0 table.bottom) (token_at g tokens c.place)

  abbrev pub goto_at : ℕ → Spot S → Option S
  goto_at p c = table.goto (get_or c.cells (side_length g p) table.bottom) (left_of g p)

  module _ (b : Allowance) where
    unfoldable pub turn_shift : S → Spot S → Turn S
    turn_shift to c = pick (leb b.stack (length c.cells)) (stops StackFull c) (goes_on (after_shift to c))

    -- a reduction by production p, not 0; its symbols' states can be popped
    unfoldable pub turn_goto : ℕ → Option S → Spot S → Turn S
    unfolding side_length
    turn_goto p none c = stops Broken c
    turn_goto p (some to) c =
        pick (leb b.list (length c.made)) (stops ListFull c)
        (pick (leb b.stack (length c.cells - side_length g p)) (stops StackFull c) (goes_on (after_reduce p (side_length g p) to c)))

    -- production 0 on Eof accepts, if just state 0 is left
    unfoldable pub turn_end : Spot S → Turn S
    unfolding side_length
    turn_end c =
        pick (eqb c.place (length tokens) && eqb (length c.cells) (side_length g 0 + 1))
        (pick (leb b.list (length c.made)) (stops ListFull c) (stops Accepted (after_end c)))
        (stops Broken c)

    unfoldable pub turn_reduce : ℕ → Spot S → Turn S
    unfolding turn_end turn_goto side_length left_of
    turn_reduce zero c = turn_end c
    turn_reduce (suc p) c = pick (leb (length c.cells) (side_length g (suc p))) (stops Broken c) (turn_goto (suc p) (goto_at (suc p) c) c)

    unfoldable pub turn_by : Act S → Spot S → Turn S
    unfolding turn_shift turn_reduce
    turn_by no_act c = stops Rejected c
    turn_by (shift to) c = pick (leb b.limit c.steps) (stops StepLimit c) (turn_shift to c)
    turn_by (reduce p) c = pick (leb b.limit c.steps) (stops StepLimit c) (turn_reduce p c)

    unfoldable pub turn : Spot S → Turn S
    unfolding turn_by token_at
    turn c = turn_by (act_at c) c

    unfoldable pub course_from : ℕ → Spot S → Course S
    unfolding turn
    course_from zero c = ends_at StepLimit c
    course_from (suc fuel) c = after_turn (course_from fuel) (turn c)

    -- the whole course
    unfoldable pub course : Course S
    unfolding course_from
    course = pick (eqb b.stack 0) (ends_at StackFull unopened) (course_from (turns_in b) (opened table))
