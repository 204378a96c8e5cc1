-- The bits of a number: of a join and a meet, of a power of two, of a number without one, and of all ones. Numbers that differ, differ in
-- a bit.
use Prim.Native.Nat.{ℕ, zero, suc, ◌+◌, ◌-◌, ◌/◌, ◌%◌, ◌^◌, ◌<◌, ◌≤◌, min, max}
use mathlib.Core.Path.{◌≡◌, refl, sym, ap, ◌∙◌}
use mathlib.Core.Logic.{◌⊎◌, inl, inr}
use native.Mathlib.Omega.{arith}
use native.Mathlib.Nat.{div-one, zero-div}
use native.Mathlib.Decide.{ℕ_discrete}
use lib.Pow.{pow_pos, shr-shr}
use lib.Bits.{bit_or, bit_and, or_step, and_step, or_shr, and_shr}
use Rattle.sets.specs.Size.{bit}

pub bit_lt : (s t : ℕ) → bit s t < 2
unfolding bit
bit_lt s t = omega arith

-- the lowest bit, and the others
bit_zero : (s : ℕ) → bit s 0 ≡ s % 2
unfolding bit
bit_zero s = rw div-one

bit_suc : (s t : ℕ) → bit s (suc t) ≡ bit (s / 2) t
unfolding bit
bit_suc s t = let e : suc t ≡ 1 + t = omega arith in rw (e, ← shr-shr s 1 t)

pub bit_none : (t : ℕ) → bit 0 t ≡ 0
unfolding bit
bit_none t = rw zero-div

pub bit_or_lem : (a b t : ℕ) → bit (bit_or a b) t ≡ max (bit a t) (bit b t)
unfolding bit
bit_or_lem a b t = rw (or_shr, or_step) (omega arith)

pub bit_and_lem : (a b t : ℕ) → bit (bit_and a b) t ≡ min (bit a t) (bit b t)
unfolding bit
bit_and_lem a b t = rw (and_shr, and_step) (omega arith)

pub bit_power_same : (u : ℕ) → bit (2 ^ u) u ≡ 1
bit_power_same zero = bit_zero 1
bit_power_same (suc u) = bit_suc (2 ^ suc u) u ∙ (let h : 2 ^ suc u / 2 ≡ 2 ^ u = omega arith in rw h (bit_power_same u))

pub bit_power_other : (u t : ℕ) → (t ≡ u → ⊥) → bit (2 ^ u) t ≡ 0
bit_power_other zero zero ne = absurd (ne refl)
bit_power_other zero (suc t) ne = bit_suc 1 t ∙ bit_none t
bit_power_other (suc u) zero ne = bit_zero (2 ^ suc u) ∙ omega arith
bit_power_other (suc u) (suc t) ne =
    bit_suc (2 ^ suc u) t ∙ (let h : 2 ^ suc u / 2 ≡ 2 ^ u = omega arith in rw h (bit_power_other u t (λ e. ne (ap suc e))))

-- the bits of a number without one of its powers of two
power_le : (u s : ℕ) → bit s u ≡ 1 → 2 ^ u ≤ s
power_le zero s h = omega (arith, bit_zero s)
power_le (suc u) s h = omega (arith, power_le u (s / 2) (sym (bit_suc s u) ∙ h))

pub bit_less_same : (u s : ℕ) → bit s u ≡ 1 → bit (s - 2 ^ u) u ≡ 0
bit_less_same zero s h = bit_zero (s - 1) ∙ omega (arith, bit_zero s)
bit_less_same (suc u) s h =
    let g : bit (s / 2) u ≡ 1 = sym (bit_suc s u) ∙ h in
    let e : (s - 2 ^ suc u) / 2 ≡ s / 2 - 2 ^ u = omega (arith, power_le u (s / 2) g) in
    bit_suc (s - 2 ^ suc u) u ∙ rw e (bit_less_same u (s / 2) g)

pub bit_less_other : (u s t : ℕ) → bit s u ≡ 1 → (t ≡ u → ⊥) → bit (s - 2 ^ u) t ≡ bit s t
bit_less_other zero s zero h ne = absurd (ne refl)
bit_less_other zero s (suc t) h ne =
    let e : (s - 1) / 2 ≡ s / 2 = omega (arith, bit_zero s) in
    bit_suc (s - 1) t ∙ rw e (sym (bit_suc s t))
bit_less_other (suc u) s zero h ne =
    bit_zero (s - 2 ^ suc u) ∙ omega (arith, power_le (suc u) s h) ∙ sym (bit_zero s)
bit_less_other (suc u) s (suc t) h ne =
    let g : bit (s / 2) u ≡ 1 = sym (bit_suc s u) ∙ h in
    let e : (s - 2 ^ suc u) / 2 ≡ s / 2 - 2 ^ u = omega (arith, power_le u (s / 2) g) in
    bit_suc (s - 2 ^ suc u) t ∙ rw e (bit_less_other u (s / 2) t g (λ q. ne (ap suc q))) ∙ sym (bit_suc s t)

-- the bits of 2 ^ k - 1
pub bit_ones_below : (k t : ℕ) → t < k → bit (2 ^ k - 1) t ≡ 1
bit_ones_below zero t h = absurd (omega arith)
bit_ones_below (suc k) zero h = bit_zero (2 ^ suc k - 1) ∙ omega (arith, pow_pos k)
bit_ones_below (suc k) (suc t) h =
    let e : (2 ^ suc k - 1) / 2 ≡ 2 ^ k - 1 = omega (arith, pow_pos k) in
    bit_suc (2 ^ suc k - 1) t ∙ rw e (bit_ones_below k t (omega arith))

-- no bit beyond the width
pub bit_beyond : (w s t : ℕ) → s < 2 ^ w → w ≤ t → bit s t ≡ 0
bit_beyond zero s t h g = let e : s ≡ 0 = omega arith in rw e (bit_none t)
bit_beyond (suc w) s zero h g = absurd (omega arith)
bit_beyond (suc w) s (suc t) h g = bit_suc s t ∙ bit_beyond w (s / 2) t (omega arith) (omega arith)

-- two numbers that are not equal differ in a bit
pub differing_bit : (k a b : ℕ) → a ≤ k → b ≤ k → (a ≡ b → ⊥) → (t : ℕ) × (bit a t ≡ bit b t → ⊥)
differing_bit zero a b h g ne = absurd (ne (omega arith))
differing_bit (suc k) a b h g ne = elim (ℕ_discrete (a % 2) (b % 2)) [
  | yes e ↦
      let (t, f) = differing_bit k (a / 2) (b / 2) (omega arith) (omega arith) (λ q. ne (omega arith)) in
      (suc t, λ q. f (sym (bit_suc a t) ∙ q ∙ bit_suc b t))
  | no f ↦ (0, λ q. f (sym (bit_zero a) ∙ q ∙ bit_zero b))
]

pub two_ways : (x : ℕ) → x < 2 → (x ≡ 1) ⊎ (x ≡ 0)
two_ways zero h = inr refl
two_ways (suc zero) h = inl refl
two_ways (suc (suc x)) h = absurd (omega arith)
