-- The number of an action, and what is read from it.
use Prim.Native.Nat.{ℕ, ◌+◌, ◌*◌, ◌/◌, ◌%◌}
use mathlib.Core.Path.{◌≡◌}
use mathlib.Core.List.{List}
use native.Mathlib.Omega.{arith}
use borrow.Author.Tests.{eq-eqb, ne_eqb}
use Rattle.rules.specs.Lanes.{shift, reduce}
use Rattle.grammar.specs.Asked.{InRange}
use Rattle.lookahead.specs.Sets.{IsToken}
use Rattle.lane_table.specs.Actions.{action_of, ActionFits}

pub shift_number : (t : ℕ) → action_of (2 * t) ≡ shift t
unfolding action_of
shift_number t =
    let half : 2 * t / 2 ≡ t = omega arith in
    rw (ne_eqb (2 * t % 2) 1 (λ e. omega arith), half)

pub reduce_number : (i : ℕ) → action_of (2 * i + 1) ≡ reduce i
unfolding action_of
reduce_number i =
    let odd : (2 * i + 1) % 2 ≡ 1 = omega arith in
    let half : (2 * i + 1) / 2 ≡ i = omega arith in
    rw (eq-eqb ((2 * i + 1) % 2) 1 odd, half)

module _ (bytes : List ℕ) where
  pub shift_fits : (t : ℕ) → IsToken t → ActionFits bytes (2 * t)
  shift_fits t low = record { reduces = λ odd. absurd (omega arith); shifts = λ even. omega arith }

  pub reduce_fits : (i : ℕ) → InRange i bytes → ActionFits bytes (2 * i + 1)
  reduce_fits i within = record { reduces = λ odd. omega arith; shifts = λ even. absurd (even (omega arith)) }

  -- and the ways back
  pub shifted_token : (t : ℕ) → ActionFits bytes (2 * t) → IsToken t
  shifted_token t fits = omega (arith, fits.shifts (λ odd. omega arith))

  pub reduced_item : (i : ℕ) → ActionFits bytes (2 * i + 1) → InRange i bytes
  reduced_item i fits = omega (arith, fits.reduces (omega arith))
