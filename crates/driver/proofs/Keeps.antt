-- What a move that goes on keeps: the topmost state lies in the stack, the moves are counted and stay within the limit.
use Prim.Native.Nat.{ℕ, zero, suc, ◌+◌, ◌-◌, ◌<◌, ◌≤◌}
use mathlib.Core.Path.{◌≡◌, refl}
use mathlib.Core.Bool.{Bool, true, false, ◌&&◌}
use mathlib.Core.Option.{Option, none, some}
use mathlib.Core.List.{List}
use native.Mathlib.Omega.{arith}
use lib.ListN.{length, length-set}
use lib.Dec.{eqb, leb}
use borrow.Author.Tests.{leb-false}
use Rattle.base.specs.Pick.{pick}
use Rattle.rules.specs.Records.{Grammar}
use Rattle.rules.specs.Grammar.{left_of}
use Rattle.rules.specs.Run.{Act, shift, reduce, no_act, Table, Standing, Moved, goes, ends, side_length, shifted, reduced, ended}
use Rattle.rules.specs.Run.{list_full, stack_full, state_under, token_at, move_shift, move_goto, move_end, move_reduce, move_by, move}
use Rattle.rules.specs.declared.RunEnd.TheVariants.{Accepted, Broken, ListFull, StackFull, StepLimit}

pub record Kept (limit : ℕ) (s after : Standing ℕ) : Type 0 where
  pub grounded : 0 < after.depth
  pub within : after.depth ≤ length after.stack
  pub placed : after.place ≤ after.steps
  pub counted : after.steps ≡ s.steps + 1
  pub limited : after.steps ≤ limit

-- of a move that goes on; nothing of one that ends
abbrev pub OnGoing : (Standing ℕ → Type 0) → Moved ℕ → Type 0
OnGoing P (goes s) = P s
OnGoing P (ends end s) = Unit {0}

module _ (limit : ℕ) (s : Standing ℕ) (placed : s.place ≤ s.steps) where
  module _ (more : s.steps < limit) where
    shift_keeps : (to : ℕ) → OnGoing (Kept limit s) (move_shift to s)
    unfolding move_shift stack_full
    shift_keeps to = go (stack_full s s.depth) refl
      where
        go : (b : Bool) → stack_full s s.depth ≡ b → OnGoing (Kept limit s) (pick b (ends StackFull s) (goes (shifted to s)))
        go true e = tt
        go false e = record {
          grounded = omega arith;
          within = rw length-set (omega (arith, leb-false (length s.stack) s.depth e));
          placed = omega arith;
          counted = refl;
          limited = omega arith;
        }

    goto_keeps : (g : Grammar) (p : ℕ) (to : Option ℕ) → OnGoing (Kept limit s) (move_goto g p to s)
    unfolding move_goto stack_full
    goto_keeps g p none = tt
    goto_keeps g p (some to) = go (list_full s) (stack_full s (s.depth - side_length g p)) refl
      where
        go : (a b : Bool) → stack_full s (s.depth - side_length g p) ≡ b
            → OnGoing (Kept limit s) (pick a (ends ListFull s) (pick b (ends StackFull s) (goes (reduced p (side_length g p) to s))))
        go true b e = tt
        go false true e = tt
        go false false e = record {
          grounded = omega arith;
          within = rw length-set (omega (arith, leb-false (length s.stack) (s.depth - side_length g p) e));
          placed = omega arith;
          counted = refl;
          limited = omega arith;
        }

    end_keeps : (g : Grammar) (tokens : List ℕ) → OnGoing (Kept limit s) (move_end g tokens s)
    unfolding move_end
    end_keeps g tokens = go (eqb s.place (length tokens) && eqb s.depth (side_length g 0 + 1)) (list_full s)
      where
        go : (a b : Bool) → OnGoing (Kept limit s) (pick a (pick b (ends ListFull s) (ends Accepted (ended s))) (ends Broken s))
        go true true = tt
        go true false = tt
        go false b = tt

    reduce_keeps : (table : Table ℕ) (g : Grammar) (tokens : List ℕ) (p : ℕ) → OnGoing (Kept limit s) (move_reduce table g tokens p s)
    unfolding move_reduce
    reduce_keeps table g tokens zero = end_keeps g tokens
    reduce_keeps table g tokens (suc p) =
        go (leb s.depth (side_length g (suc p))) _ (goto_keeps g (suc p) (table.goto (state_under table (side_length g (suc p)) s) (left_of g (suc p))))
      where
        go : (b : Bool) (m : Moved ℕ) → OnGoing (Kept limit s) m → OnGoing (Kept limit s) (pick b (ends Broken s) m)
        go true m k = tt
        go false m k = k

  module _ (table : Table ℕ) (g : Grammar) (tokens : List ℕ) where
    by_keeps : (a : Act ℕ) → OnGoing (Kept limit s) (move_by table g tokens limit a s)
    unfolding move_by
    by_keeps no_act = tt
    by_keeps (shift to) = go (leb limit s.steps) refl
      where
        go : (b : Bool) → leb limit s.steps ≡ b → OnGoing (Kept limit s) (pick b (ends StepLimit s) (move_shift to s))
        go true e = tt
        go false e = shift_keeps (leb-false limit s.steps e) to
    by_keeps (reduce p) = go (leb limit s.steps) refl
      where
        go : (b : Bool) → leb limit s.steps ≡ b → OnGoing (Kept limit s) (pick b (ends StepLimit s) (move_reduce table g tokens p s))
        go true e = tt
        go false e = reduce_keeps (leb-false limit s.steps e) table g tokens p

    pub move_keeps : OnGoing (Kept limit s) (move table g tokens limit s)
    unfolding move
    move_keeps = by_keeps (table.act (state_under table 0 s) (token_at g tokens s.place))
