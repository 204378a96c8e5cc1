-- The laws of token sets, for sets of any width: what each operation of `rules` has, what its tests say, and how joining counts.
use Prim.Native.Nat.{ℕ, zero, suc, ◌+◌, ◌-◌, ◌^◌, ◌<◌, ◌≤◌}
use mathlib.Core.Path.{◌≡◌, refl, sym, ◌∙◌}
use mathlib.Core.Logic.{◌⊎◌, inl, inr, ⊎_elim, ◌↔◌}
use mathlib.Core.Bool.{Bool, true, false}
use native.Mathlib.Omega.{arith}
use native.Mathlib.Decide.{ℕ_discrete, dec_le}
use lib.Pow.{pow_pos, pow-lt}
use lib.Bits.{or_lt}
use borrow.Author.Tests.{eqb-true, eqb-false, eq-eqb, ne_eqb}
use Rattle.base.specs.Pick.{pick}
use Rattle.rules.specs.Tokens.{Has, has, single, join, meet, disjoint, within, without, eof, all}
use Rattle.sets.specs.Size.{bit, size}
use Rattle.sets.proofs.Bits.{bit_lt, bit_none, bit_or_lem, bit_and_lem, bit_power_same, bit_power_other, bit_less_same, bit_less_other, bit_ones_below, bit_beyond, differing_bit, two_ways}

-- ---- the statement and the test
pub has_true : (s t : ℕ) → (has s t ≡ true) ↔ Has s t
unfolding has Has
has_true s t = (eqb-true _ _, eq-eqb _ _)

pub has_false : (s t : ℕ) → (has s t ≡ false) ↔ ¬ Has s t
unfolding has Has
has_false s t = (eqb-false _ _, ne_eqb _ _)

-- ---- two sets with the same tokens are equal
abbrev Apart : ℕ → ℕ → ℕ → Type 0
Apart a b t = (Has a t × ¬ Has b t) ⊎ (¬ Has a t × Has b t)

apart : (a b t : ℕ) → (bit a t ≡ bit b t → ⊥) → Apart a b t
unfolding Has bit
apart a b t ne = by_bits (two_ways (bit a t) (bit_lt a t)) (two_ways (bit b t) (bit_lt b t))
  where
    by_bits : (bit a t ≡ 1) ⊎ (bit a t ≡ 0) → (bit b t ≡ 1) ⊎ (bit b t ≡ 0) → Apart a b t
    by_bits (inl h) g = inl (h, λ o. ne (h ∙ sym o))
    by_bits (inr z) (inl h) = inr (λ o. omega arith, h)
    by_bits (inr z) (inr y) = absurd (ne (z ∙ sym y))

same_or_apart : (a b : ℕ) → (a ≡ b) ⊎ ((t : ℕ) × Apart a b t)
same_or_apart a b = elim (ℕ_discrete a b) [
  | yes e ↦ inl e
  | no ne ↦ let (t, f) = differing_bit (a + b) a b (omega arith) (omega arith) ne in inr (t, apart a b t f)
]

pub same_tokens : (a b : ℕ) → ((t : ℕ) → Has a t ↔ Has b t) → a ≡ b
same_tokens a b e = ⊎_elim (λ p. p) (λ d. absurd (refuted d.0 d.1)) (same_or_apart a b)
  where
    refuted : (t : ℕ) → Apart a b t → ⊥
    refuted t (inl h) = h.1 ((e t).0 h.0)
    refuted t (inr h) = h.0 ((e t).1 h.1)

-- ---- what each set has
pub has_none : (t : ℕ) → ¬ Has 0 t
unfolding Has bit
has_none t h = omega (arith, bit_none t)

pub has_single : (u t : ℕ) → Has (single u) t ↔ (t ≡ u)
unfolding Has bit single
has_single u t =
    ((λ h. elim (ℕ_discrete t u) [ yes e ↦ e | no ne ↦ absurd (omega (arith, bit_power_other u t ne)) ]), (λ e. rw e (bit_power_same u)))

pub has_eof : (n t : ℕ) → Has (eof n) t ↔ (t ≡ n)
unfolding eof
has_eof = has_single

pub has_join : (a b t : ℕ) → Has (join a b) t ↔ (Has a t ⊎ Has b t)
unfolding Has bit join
has_join a b t =
    let e = bit_or_lem a b t in
    let x = bit_lt a t in
    let y = bit_lt b t in
    ((λ h. ⊎_elim inl (λ z. inr (omega arith)) (two_ways (bit a t) x)), ⊎_elim (λ h. omega arith) (λ h. omega arith))

pub has_meet : (a b t : ℕ) → Has (meet a b) t ↔ (Has a t × Has b t)
unfolding Has bit meet
has_meet a b t =
    let e = bit_and_lem a b t in
    let x = bit_lt a t in
    let y = bit_lt b t in
    ((λ h. (omega arith, omega arith)), (λ h. omega (arith, h.0, h.1)))

without_here : (s u t : ℕ) → Has s u → Has (s - 2 ^ u) t ↔ (Has s t × (t ≡ u → ⊥))
unfolding Has bit
without_here s u t h = (to (ℕ_discrete t u), (λ g. bit_less_other u s t h g.1 ∙ g.0))
  where
    to : Dec (t ≡ u) → bit (s - 2 ^ u) t ≡ 1 → (bit s t ≡ 1) × (t ≡ u → ⊥)
    to (yes e) g = absurd (let q : bit (s - 2 ^ u) u ≡ 1 = rw e at g in omega (arith, bit_less_same u s h))
    to (no ne) g = (sym (bit_less_other u s t h ne) ∙ g, ne)

pub has_without : (s u t : ℕ) → Has (without s u) t ↔ (Has s t × (t ≡ u → ⊥))
unfolding without
has_without s u t = by_test (has s u) refl
  where
    by_test : (b : Bool) → has s u ≡ b → Has (pick b (s - 2 ^ u) s) t ↔ (Has s t × (t ≡ u → ⊥))
    by_test true e = without_here s u t ((has_true s u).0 e)
    by_test false e = ((λ h. (h, λ q. (has_false s u).0 e (rw q at h))), (λ h. h.0))

pub has_all : (n t : ℕ) → Has (all n) t ↔ (t ≤ n)
unfolding Has bit all
has_all n t = (to (dec_le t n), (λ h. bit_ones_below (n + 1) t (omega arith)))
  where
    to : Dec (t ≤ n) → bit (2 ^ (n + 1) - 1) t ≡ 1 → t ≤ n
    to (yes e) h = e
    to (no ne) h = absurd (omega (arith, bit_beyond (n + 1) (2 ^ (n + 1) - 1) t (omega (arith, pow_pos (n + 1))) (omega arith)))

-- ---- the tests
pub disjoint_true : (a b : ℕ) → (disjoint a b ≡ true) ↔ ((t : ℕ) → Has a t → Has b t → ⊥)
unfolding disjoint
disjoint_true a b = (
  (λ e t h g. has_none t (rw (eqb-true (meet a b) 0 e) at ((has_meet a b t).1 (h, g)))),
  (λ f. eq-eqb _ _ (same_tokens (meet a b) 0 (λ t. ((λ h. let q = (has_meet a b t).0 h in absurd (f t q.0 q.1)), (λ h. absurd (has_none t h)))))),
)

pub within_true : (a b : ℕ) → (within a b ≡ true) ↔ ((t : ℕ) → Has a t → Has b t)
unfolding within
within_true a b = (
  (λ e t h. ((has_meet a b t).0 (rw (eqb-true (meet a b) a e) h)).1),
  (λ f. eq-eqb _ _ (same_tokens (meet a b) a (λ t. ((λ h. ((has_meet a b t).0 h).0), (λ h. (has_meet a b t).1 (h, f t h)))))),
)

pub some_token : (s : ℕ) → (s ≡ 0 → ⊥) → (t : ℕ) × Has s t
some_token s ne = ⊎_elim (λ e. absurd (ne e)) (λ d. (d.0, token d.0 d.1)) (same_or_apart s 0)
  where
    token : (t : ℕ) → Apart s 0 t → Has s t
    token t (inl h) = h.0
    token t (inr h) = absurd (has_none t h.1)

pub disjoint_false : (a b : ℕ) → disjoint a b ≡ false → (t : ℕ) × Has a t × Has b t
unfolding disjoint
disjoint_false a b e =
    let (t, h) = some_token (meet a b) (eqb-false _ _ e) in
    let (p, q) = (has_meet a b t).0 h in
    (t, p, q)

pub within_false : (a b : ℕ) → within a b ≡ false → (t : ℕ) × Has a t × ¬ Has b t
unfolding within
within_false a b e = ⊎_elim (λ p. absurd (eqb-false _ _ e p)) (λ d. let (p, q) = lacking d.0 d.1 in (d.0, p, q)) (same_or_apart (meet a b) a)
  where
    lacking : (t : ℕ) → Apart (meet a b) a t → Has a t × ¬ Has b t
    lacking t (inl h) = absurd (h.1 ((has_meet a b t).0 h.0).0)
    lacking t (inr h) = (h.1, λ g. h.0 ((has_meet a b t).1 (h.1, g)))

-- of one token
pub within_single : (t s : ℕ) → within (single t) s ≡ has s t
within_single t s = by_tests (within (single t) s) (has s t) refl refl
  where
    by_tests : (b c : Bool) → within (single t) s ≡ b → has s t ≡ c → b ≡ c
    by_tests true true e f = refl
    by_tests true false e f = absurd ((has_false s t).0 f ((within_true (single t) s).0 e t ((has_single t t).1 refl)))
    by_tests false true e f = let (u, p, q) = within_false (single t) s e in absurd (q (rw ((has_single t u).0 p) ((has_true s t).0 f)))
    by_tests false false e f = refl

-- ---- sets below 2 ^ w have tokens below w alone
pub has_below : (w s t : ℕ) → s < 2 ^ w → Has s t → t < w
unfolding Has bit
has_below w s t h g = elim (dec_le w t) [ yes e ↦ absurd (omega (arith, bit_beyond w s t h e)) | no ne ↦ omega arith ]

pub none_below : (w : ℕ) → 0 < 2 ^ w
none_below w = pow_pos w

pub single_below : (w t : ℕ) → t < w → single t < 2 ^ w
unfolding single
single_below w t h = pow-lt h

pub join_below : (w a b : ℕ) → a < 2 ^ w → b < 2 ^ w → join a b < 2 ^ w
unfolding join
join_below w a b h g = or_lt w a b h g

pub without_below : (w s t : ℕ) → s < 2 ^ w → without s t < 2 ^ w
unfolding without
without_below w s t h = by_test (has s t)
  where
    by_test : (b : Bool) → pick b (s - 2 ^ t) s < 2 ^ w
    by_test true = omega arith
    by_test false = h

pub all_below : (n : ℕ) → all n < 2 ^ (n + 1)
unfolding all
all_below n = omega (arith, pow_pos (n + 1))

-- ---- joining
pub within_join : (a b : ℕ) → within a (join a b) ≡ true
within_join a b = (within_true a (join a b)).1 (λ t h. (has_join a b t).1 (inl h))

pub join_within : (a b : ℕ) → within b a ≡ true → join a b ≡ a
join_within a b e = same_tokens (join a b) a (λ t. (
  (λ h. ⊎_elim (λ g. g) (λ g. (within_true b a).0 e t g) ((has_join a b t).0 h)),
  (λ h. (has_join a b t).1 (inl h)),
))

-- ---- counting
pub size_none : (w : ℕ) → size w 0 ≡ 0
unfolding size
size_none zero = refl
size_none (suc w) = omega (arith, size_none w, bit_none w)

pub size_le : (w s : ℕ) → size w s ≤ w
unfolding size
size_le zero s = omega arith
size_le (suc w) s = omega (arith, size_le w s, bit_lt s w)

bit_within : (a b t : ℕ) → within a b ≡ true → bit a t ≤ bit b t
unfolding Has bit
bit_within a b t e = ⊎_elim (λ h. omega (arith, (within_true a b).0 e t h)) (λ z. omega arith) (two_ways (bit a t) (bit_lt a t))

module _ (a b : ℕ) (e : within a b ≡ true) where
  pub size_within : (w : ℕ) → size w a ≤ size w b
  unfolding size
  size_within zero = omega arith
  size_within (suc w) = omega (arith, size_within w, bit_within a b w e)

  -- with a token that the smaller set lacks
  pub size_strict : (w t : ℕ) → t < w → Has b t → ¬ Has a t → size w a < size w b
  unfolding size Has bit
  size_strict zero t h p q = absurd (omega arith)
  size_strict (suc w) t h p q = elim (ℕ_discrete t w) [
    | yes f ↦ (let x : bit b w ≡ 1 = rw f at p in
        let y : bit a w ≡ 0 = ⊎_elim (λ o. absurd (q (rw f o))) (λ z. z) (two_ways (bit a w) (bit_lt a w)) in
        omega (arith, size_within w))
    | no ne ↦ omega (arith, size_strict w t (omega arith) p q, bit_within a b w e)
  ]

-- a set that is not within another makes it larger
pub size_grows : (w a b : ℕ) → b < 2 ^ w → within b a ≡ false → size w a < size w (join a b)
size_grows w a b h e =
    let (t, p, q) = within_false b a e in
    size_strict a (join a b) (within_join a b) w t (has_below w b t h p) ((has_join a b t).1 (inr p)) q
