-- The laws of a set in several words.
use Prim.Native.Nat.{ℕ, zero, suc, ◌/◌, ◌%◌, ◌<◌}
use mathlib.Core.Path.{◌≡◌, refl, sym, ap, ◌∙◌}
use mathlib.Core.Logic.{inl, inr, ⊎_elim, ◌↔◌}
use mathlib.Core.Bool.{Bool, true, false, false≢true}
use native.Mathlib.Omega.{arith}
use native.Mathlib.Decide.{ℕ_discrete}
use Rattle.base.specs.Pick.{pick}
use Rattle.rules.specs.Tokens.{Has, has, single, join}
use Rattle.sets.proofs.Laws.{has_true, has_false, has_none, has_join, has_single, same_tokens}
use Rattle.sets.proofs.Joins.{none_lacks}
use Rattle.words.specs.Bits.{word_bits, set_by, bits_in}

-- ---- a set by a test
module _ (test : ℕ → Bool) where
  with_last : (n t : ℕ) (b : Bool) → test n ≡ b → (Has (set_by test n) t ↔ ((t < n) × (test t ≡ true))) → Has (pick b (join (set_by test n) (single n)) (set_by test n)) t ↔ ((t < suc n) × (test t ≡ true))
  with_last n t true e (to, from) = (
    (λ h. ⊎_elim (λ k. let (l, q) = to k in (omega arith, q)) (λ k. let z = (has_single n t).0 k in (omega arith, rw z e)) ((has_join (set_by test n) (single n) t).0 h)),
    (λ h. elim (ℕ_discrete t n) [
      | yes z ↦ (has_join (set_by test n) (single n) t).1 (inr ((has_single n t).1 z))
      | no ne ↦ (has_join (set_by test n) (single n) t).1 (inl (from (let l = h.0 in omega arith, h.1)))
    ]),
  )
  with_last n t false e (to, from) = (
    (λ h. let (l, q) = to h in (omega arith, q)),
    (λ h. elim (ℕ_discrete t n) [
      | yes z ↦ absurd (false≢true (sym e ∙ ap test (sym z) ∙ h.1))
      | no ne ↦ from (let l = h.0 in omega arith, h.1)
    ]),
  )

  set_by_has : (n t : ℕ) → Has (set_by test n) t ↔ ((t < n) × (test t ≡ true))
  unfolding set_by
  set_by_has zero t = ((λ h. absurd (has_none t h)), (λ h. absurd (let l = h.0 in omega arith)))
  set_by_has (suc n) t = with_last n t (test n) refl (set_by_has n t)

  set_by_test : (n t : ℕ) → t < n → has (set_by test n) t ≡ test t
  set_by_test n t h = go (test t) refl
    where
      go : (b : Bool) → test t ≡ b → has (set_by test n) t ≡ b
      go true e = (has_true (set_by test n) t).1 ((set_by_has n t).1 (h, e))
      go false e = (has_false (set_by test n) t).1 (λ k. false≢true (sym e ∙ ((set_by_has n t).0 k).1))

module _ (test other : ℕ → Bool) (n : ℕ) where
  set_by_same : ((t : ℕ) → t < n → test t ≡ other t) → set_by test n ≡ set_by other n
  set_by_same same = same_tokens (set_by test n) (set_by other n) (λ t. (
    (λ h. let (l, e) = (set_by_has test n t).0 h in (set_by_has other n t).1 (l, sym (same t l) ∙ e)),
    (λ h. let (l, e) = (set_by_has other n t).0 h in (set_by_has test n t).1 (l, same t l ∙ e)),
  ))

  set_by_joined : (u : ℕ) → u < n → test u ≡ true → ((t : ℕ) → t < n → (t ≡ u → ⊥) → test t ≡ other t) → set_by test n ≡ join (set_by other n) (single u)
  set_by_joined u low here same = same_tokens (set_by test n) (join (set_by other n) (single u)) (λ t. (to t, from t))
    where
      to : (t : ℕ) → Has (set_by test n) t → Has (join (set_by other n) (single u)) t
      to t h =
          let (l, e) = (set_by_has test n t).0 h in
          elim (ℕ_discrete t u) [
            | yes z ↦ (has_join (set_by other n) (single u) t).1 (inr ((has_single u t).1 z))
            | no ne ↦ (has_join (set_by other n) (single u) t).1 (inl ((set_by_has other n t).1 (l, sym (same t l ne) ∙ e)))
          ]

      old : (t : ℕ) → Has (set_by other n) t → Has (set_by test n) t
      old t h =
          let (l, e) = (set_by_has other n t).0 h in
          elim (ℕ_discrete t u) [
            | yes z ↦ (set_by_has test n t).1 (l, ap test z ∙ here)
            | no ne ↦ (set_by_has test n t).1 (l, same t l ne ∙ e)
          ]

      from : (t : ℕ) → Has (join (set_by other n) (single u)) t → Has (set_by test n) t
      from t h = ⊎_elim (old t) (λ k. let z = (has_single u t).0 k in (set_by_has test n t).1 (omega arith, ap test z ∙ here)) ((has_join (set_by other n) (single u) t).0 h)

-- ---- a word with a number in it
module _ (w u : ℕ) where
  word_same : has (join w (single u)) u ≡ true
  word_same = (has_true _ _).1 ((has_join w (single u) u).1 (inr ((has_single u u).1 refl)))

  word_other : (t : ℕ) → (t ≡ u → ⊥) → has (join w (single u)) t ≡ has w t
  word_other t ne = go (has w t) refl
    where
      go : (x : Bool) → has w t ≡ x → has (join w (single u)) t ≡ x
      go true e = (has_true _ _).1 ((has_join w (single u) t).1 (inl ((has_true w t).0 e)))
      go false e = (has_false _ _).1 (λ k. ⊎_elim ((has_false w t).0 e) (λ y. ne ((has_single u t).0 y)) ((has_join w (single u) t).0 k))

-- ---- the words
module _ (word : ℕ → ℕ) (n : ℕ) where
  pub bits_has : (t : ℕ) → t < n → has (bits_in word n) t ≡ has (word (t / word_bits)) (t % word_bits)
  unfolding bits_in
  bits_has t h = set_by_test (λ t. has (word (t / word_bits)) (t % word_bits)) n t h

  pub bits_none : ((t : ℕ) → t < n → word (t / word_bits) ≡ 0) → bits_in word n ≡ 0
  unfolding bits_in
  bits_none none = same_tokens (set_by (λ t. has (word (t / word_bits)) (t % word_bits)) n) 0 (λ t. (
    (λ h. let (l, e) = (set_by_has (λ t. has (word (t / word_bits)) (t % word_bits)) n t).0 h in absurd (false≢true (sym (none_lacks (t % word_bits)) ∙ ap (λ (w : ℕ). has w (t % word_bits)) (sym (none t l)) ∙ e))),
    (λ h. absurd (has_none t h)),
  ))

  module _ (other : ℕ → ℕ) where
    pub bits_same : ((t : ℕ) → t < n → word (t / word_bits) ≡ other (t / word_bits)) → bits_in word n ≡ bits_in other n
    unfolding bits_in
    bits_same same = set_by_same _ _ n (λ t h. ap (λ (w : ℕ). has w (t % word_bits)) (same t h))

    -- u was put into its word
    pub bits_put : (u : ℕ) → u < n → word (u / word_bits) ≡ join (other (u / word_bits)) (single (u % word_bits)) → ((t : ℕ) → t < n → (t / word_bits ≡ u / word_bits → ⊥) → word (t / word_bits) ≡ other (t / word_bits))
        → bits_in word n ≡ join (bits_in other n) (single u)
    unfolding bits_in
    bits_put u h there elsewhere =
        set_by_joined _ _ n u h (ap (λ (w : ℕ). has w (u % word_bits)) there ∙ word_same (other (u / word_bits)) (u % word_bits)) apart
      where
        apart : (t : ℕ) → t < n → (t ≡ u → ⊥) → has (word (t / word_bits)) (t % word_bits) ≡ has (other (t / word_bits)) (t % word_bits)
        apart t l ne = elim (ℕ_discrete (t / word_bits) (u / word_bits)) [
          | yes e ↦ rw (e, there) (word_other (other (u / word_bits)) (u % word_bits) (t % word_bits) (λ z. ne (omega arith)))
          | no d ↦ ap (λ (w : ℕ). has w (t % word_bits)) (elsewhere t l d)
        ]
