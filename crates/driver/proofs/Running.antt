-- What the run's loop goes by: what is left of the run gives the same answer.
use Prim.Native.Nat.{ℕ, suc, ◌+◌, ◌-◌, ◌<◌, ◌≤◌}
use mathlib.Core.Path.{◌≡◌, sym, ◌∙◌}
use mathlib.Core.List.{List}
use native.Mathlib.Omega.{arith}
use lib.ListN.{length, set, length-set}
use borrow.Author.Tests.{eq-eqb, ne_eqb}
use Rattle.rules.specs.Records.{Grammar}
use Rattle.rules.specs.Table.{TableRecord, table_in}
use Rattle.rules.specs.Run as run
use Rattle.rules.specs.declared.RunEnd.{RunEnd}
use Rattle.rules.specs.declared.RunEnd.TheVariants.{StackFull}
use Rattle.driver.specs.declared.moves.Standing.{Standing}
use Rattle.std.proofs.Common.{Continue, Break}
use Rattle.driver.specs.Standings.{Moved, Stands, standing, moved}
use Rattle.driver.specs.Results.{ran_in}
use Rattle.driver.proofs.Keeps.{Kept, move_keeps}

-- ---- a move of a run with fuel
module _ (table : run.Table ℕ) (g : Grammar) (tokens : List ℕ) (limit fuel : ℕ) (s s' : run.Standing ℕ) where
  run_goes : run.goes s' ≡ run.move table g tokens limit s → run.run_from table g tokens limit (suc fuel) s ≡ run.run_from table g tokens limit fuel s'
  unfolding run.run_from
  run_goes e = go (run.move table g tokens limit s) e
    where
      go : (m : run.Moved ℕ) → run.goes s' ≡ m
          → elim m [ run.goes next ↦ run.run_from table g tokens limit fuel next | run.ends end last ↦ run.answered end last ]
          ≡ run.run_from table g tokens limit fuel s'
      go m f = rw (sym f)

  run_stops : (end : RunEnd) → run.ends end s' ≡ run.move table g tokens limit s
      → run.run_from table g tokens limit (suc fuel) s ≡ run.answered end s'
  unfolding run.run_from
  run_stops end e = go (run.move table g tokens limit s) e
    where
      go : (m : run.Moved ℕ) → run.ends end s' ≡ m
          → elim m [ run.goes next ↦ run.run_from table g tokens limit fuel next | run.ends end last ↦ run.answered end last ]
          ≡ run.answered end s'
      go m f = rw (sym f)

-- ---- a turn from s, where what is left of the run gives x; m is the move
module _ (rs : List TableRecord) (g : Grammar) (tokens : List ℕ) (limit : ℕ) (stack list : List ℕ) (s : Standing) (stack' list' : List ℕ) (m : Moved)
    (stands : Stands limit stack s) (e : moved stack' list' m ≡ run.move (table_in rs) g tokens limit (standing stack list s)) where
  kept : (s' : Standing) → m ≡ Continue s' → Kept limit (standing stack list s) (standing stack' list' s')
  kept s' h = rw h at (rw (sym e) at (move_keeps limit (standing stack list s) stands.placed (table_in rs) g tokens))

  pub turn_stands : (s' : Standing) → m ≡ Continue s' → Stands limit stack' s'
  turn_stands s' h =
      let k = kept s' h in
      record { grounded = k.grounded; within = k.within; placed = k.placed; limited = k.limited }

  pub turn_less : (s' : Standing) → m ≡ Continue s' → limit - s'.steps < limit - s.steps
  turn_less s' h = let k = kept s' h in let c = k.counted in let l = k.limited in omega arith

  module _ (x : run.RunResult ℕ) (left : run.run_from (table_in rs) g tokens limit (limit + 1 - s.steps) (standing stack list s) ≡ x) where
    fuelled : run.run_from (table_in rs) g tokens limit (suc (limit - s.steps)) (standing stack list s) ≡ x
    fuelled =
        let l = stands.limited in
        let w : limit + 1 - s.steps ≡ suc (limit - s.steps) = omega arith in
        rw w at left

    pub turn_left : (s' : Standing) → m ≡ Continue s'
        → run.run_from (table_in rs) g tokens limit (limit + 1 - s'.steps) (standing stack' list' s') ≡ x
    turn_left s' h =
        let k = kept s' h in
        let c = k.counted in
        let l = k.limited in
        let w : limit + 1 - s'.steps ≡ limit - s.steps = omega arith in
        let goes : run.goes (standing stack' list' s') ≡ run.move (table_in rs) g tokens limit (standing stack list s) = rw h at e in
        rw w (sym (run_goes (table_in rs) g tokens limit (limit - s.steps) (standing stack list s) (standing stack' list' s') goes) ∙ fuelled)

    pub run_ends : (end : RunEnd) (s' : Standing) → m ≡ Break (end, s')
        → ran_in (record { end = end; place = s'.place; steps = s'.steps; listed = s'.listed }) stack' list' ≡ x
    unfolding run.answered
    run_ends end s' h =
        let stops : run.ends end (standing stack' list' s') ≡ run.move (table_in rs) g tokens limit (standing stack list s) = rw h at e in
        sym (run_stops (table_in rs) g tokens limit (limit - s.steps) (standing stack list s) (standing stack' list' s') end stops) ∙ fuelled

-- ---- the whole run
-- where it begins
abbrev opening : Standing
opening = record { depth = 1; listed = 0; steps = 0; place = 0 }

pub opening_stands : (limit : ℕ) (stack : List ℕ) → (length stack ≡ 0 → ⊥) → Stands limit (set stack 0 0) opening
opening_stands limit stack n = record { grounded = omega arith; within = rw length-set (above n); placed = omega arith; limited = omega arith }
  where
    above : (length stack ≡ 0 → ⊥) → 1 ≤ length stack
    above n = omega arith

-- the stack is as long as it was before its bottom was put
pub room_kept : (stack after : List ℕ) → length after ≡ length (set stack 0 0) → length after ≡ length stack
room_kept stack after e = e ∙ length-set stack 0 0

module _ (rs : List TableRecord) (g : Grammar) (tokens : List ℕ) (limit : ℕ) (stack list : List ℕ) where
  pub run_none : length stack ≡ 0
      → ran_in (record { end = StackFull; place = 0; steps = 0; listed = 0 }) stack list ≡ run.run (table_in rs) g tokens limit stack list
  unfolding run.run run.answered
  run_none e = rw (eq-eqb (length stack) 0 e)

  pub run_opened : (x : run.RunResult ℕ) → (length stack ≡ 0 → ⊥)
      → x ≡ run.run_from (table_in rs) g tokens limit (limit + 1 - 0) (standing (set stack 0 0) list opening)
      → x ≡ run.run (table_in rs) g tokens limit stack list
  unfolding run.run table_in
  run_opened x n e = let w : limit + 1 - 0 ≡ limit + 1 = omega arith in rw (ne_eqb (length stack) 0 n) (rw w at e)
