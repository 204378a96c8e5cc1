-- A run ends within its step limit: each move that goes on is a step, and none goes on at the limit.
use Prim.Native.Nat.{ℕ, zero, suc, ◌+◌, ◌<◌, ◌≤◌}
use mathlib.Core.Path.{◌≡◌, refl}
use mathlib.Core.Bool.{Bool, true, false, ◌&&◌}
use mathlib.Core.Option.{Option, none, some}
use mathlib.Core.List.{List}
use native.Mathlib.Omega.{arith}
use lib.ListN.{length}
use lib.Dec.{eqb, leb}
use borrow.Author.Tests.{leb-false}
use Rattle.base.specs.Pick.{pick}
use Rattle.base.specs.Turn.{Turn, again, over, after, OnTurn}
use Rattle.base.proofs.Fuel.{fuel_enough}
use Rattle.rules.specs.Records.{Grammar}
use Rattle.rules.specs.Grammar.{left_of}
use Rattle.rules.specs.Run.{Act, shift, reduce, no_act, Table, Standing, Moved, goes, ends, RunResult, shifted, reduced, list_full, stack_full, side_length, token_at, state_under, move_shift, move_goto, move_end, move_reduce, move_by, move, answered, run_from}
use Rattle.rules.specs.declared.RunEnd.TheVariants.{StepLimit}

module _ {S : Type 0} (table : Table S) (g : Grammar) (tokens : List ℕ) (limit : ℕ) where
  -- what a move that goes on from s has made of it
  abbrev OneStep : Standing S → Moved S → Type 0
  OneStep s (goes s') = s'.steps ≡ s.steps + 1
  OneStep s (ends end s') = Unit {0}

  abbrev Below : Standing S → Moved S → Type 0
  Below s (goes s') = s.steps < limit
  Below s (ends end s') = Unit {0}

  step_by_test : (s : Standing S) (b : Bool) (x y : Moved S) → OneStep s x → OneStep s y → OneStep s (pick b x y)
  step_by_test s true x y p q = p
  step_by_test s false x y p q = q

  step_goto : (p : ℕ) (to : Option S) (s : Standing S) → OneStep s (move_goto g p to s)
  unfolding move_goto
  step_goto p none s = tt
  step_goto p (some to) s = step_by_test s (list_full s) _ _ tt (step_by_test s (stack_full s _) _ (goes (reduced p (side_length g p) to s)) tt refl)

  step_reduce : (p : ℕ) (s : Standing S) → OneStep s (move_reduce table g tokens p s)
  unfolding move_reduce move_end
  step_reduce zero s = step_by_test s (eqb s.place (length tokens) && eqb s.depth (side_length g 0 + 1)) _ _ (step_by_test s (list_full s) _ _ tt tt) tt
  step_reduce (suc p) s =
      step_by_test s (leb s.depth (side_length g (suc p))) _ _ tt
      (step_goto (suc p) (table.goto (state_under table (side_length g (suc p)) s) (left_of g (suc p))) s)

  step_by : (a : Act S) (s : Standing S) → OneStep s (move_by table g tokens limit a s)
  unfolding move_by move_shift
  step_by no_act s = tt
  step_by (shift to) s = step_by_test s (leb limit s.steps) _ _ tt (step_by_test s (stack_full s s.depth) _ (goes (shifted to s)) tt refl)
  step_by (reduce p) s = step_by_test s (leb limit s.steps) _ _ tt (step_reduce p s)

  below_by_test : (s : Standing S) (y : Moved S) (b : Bool) → leb limit s.steps ≡ b → Below s (pick b (ends StepLimit s) y)
  below_by_test s y true e = tt
  below_by_test s (goes s') false e = omega (arith, leb-false limit s.steps e)
  below_by_test s (ends end s') false e = tt

  below_by : (a : Act S) (s : Standing S) → Below s (move_by table g tokens limit a s)
  unfolding move_by
  below_by no_act s = tt
  below_by (shift to) s = below_by_test s _ (leb limit s.steps) refl
  below_by (reduce p) s = below_by_test s _ (leb limit s.steps) refl

  move_is_a_step : (s : Standing S) → OneStep s (move table g tokens limit s)
  unfolding move
  move_is_a_step s = step_by (table.act (state_under table 0 s) (token_at g tokens s.place)) s

  move_below_limit : (s : Standing S) → Below s (move table g tokens limit s)
  unfolding move
  move_below_limit s = below_by (table.act (state_under table 0 s) (token_at g tokens s.place)) s

  -- ---- turn by turn
  abbrev turn_of : Moved S → Turn (Standing S) (RunResult S)
  turn_of (goes s) = again s
  turn_of (ends end s) = over (answered end s)

  abbrev move_turn : Standing S → Turn (Standing S) (RunResult S)
  move_turn s = turn_of (move table g tokens limit s)

  run_goes : (fuel : ℕ) (s : Standing S) → run_from table g tokens limit (suc fuel) s ≡ after (run_from table g tokens limit fuel) (move_turn s)
  unfolding run_from
  run_goes fuel s = by_move (move table g tokens limit s)
    where
      by_move : (moved : Moved S)
          → elim moved [ goes s' ↦ run_from table g tokens limit fuel s' | ends end s' ↦ answered end s' ] ≡ after (run_from table g tokens limit fuel) (turn_of moved)
      by_move (goes s') = refl
      by_move (ends end s') = refl

  -- the limit leaves no more steps than there is fuel
  abbrev Left : ℕ → Standing S → Type 0
  Left fuel s = limit ≤ s.steps + fuel

  move_left : (fuel : ℕ) (s : Standing S) → Left (suc fuel) s → OnTurn (Left fuel) (λ _. Unit {0}) (move_turn s)
  move_left fuel s h = by_move (move table g tokens limit s) (move_is_a_step s)
    where
      by_move : (moved : Moved S) → OneStep s moved → OnTurn (Left fuel) (λ _. Unit {0}) (turn_of moved)
      by_move (goes s') p = omega arith
      by_move (ends end s') p = tt

  move_last : (s : Standing S) → Left zero s → OnTurn (λ _. ⊥) (λ _. Unit {0}) (move_turn s)
  move_last s h = by_move (move table g tokens limit s) (move_below_limit s)
    where
      by_move : (moved : Moved S) → Below s moved → OnTurn (λ _. ⊥) (λ _. Unit {0}) (turn_of moved)
      by_move (goes s') p = omega arith
      by_move (ends end s') p = tt

  -- with fuel for one move more than the limit leaves, any larger fuel gives the same
  pub run_fuel : (fuel larger : ℕ) (s : Standing S) → fuel ≤ larger → limit ≤ s.steps + fuel
      → run_from table g tokens limit (suc larger) s ≡ run_from table g tokens limit (suc fuel) s
  run_fuel = fuel_enough (run_from table g tokens limit) move_turn run_goes Left (λ _. Unit {0}) move_left move_last
