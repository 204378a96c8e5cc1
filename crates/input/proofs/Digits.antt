-- The digits of a number, one after the other. In each law the premises are facts that the code has at the need that the law answers.
use Prim.Native.Nat.{ℕ, ◌+◌, ◌*◌, ◌-◌, ◌/◌, ◌<◌, ◌≤◌}
use mathlib.Core.Path.{◌≡◌, refl, sym, ◌∙◌}
use mathlib.Core.List.{List, [], ◌∷◌}
use native.Mathlib.Omega.{arith}
use native.Mathlib.Numerals.{add-one}
use lib.ListN.{length, get_or, drop, drop_of_length-le}
use lib.Seq.{drop-cons}
use Rattle.std.proofs.Common.{inl, inr}
use Rattle.std.specs.Option.{SomeIff}
use Rattle.std.specs.Char.{IsAsciiDigit, IsNotAsciiDigit}
use borrow.Author.Tests.{lt-ltb, le-ltb}
use Rattle.base.specs.Lists.{fold_over}
use Rattle.std.specs.Prelude.{Option, Some, None}
use Rattle.input.specs.Numbers.{largest, with_digit, another, number_said}

-- ---- one digit more
module _ (n byte : ℕ) where
  pub no_digit : IsNotAsciiDigit byte → None ≡ with_digit n byte
  unfolding with_digit
  no_digit (inl h) = rw (lt-ltb byte 48 h)
  no_digit (inr h) = let l : 48 ≤ byte = omega arith in rw (le-ltb byte 48 l, lt-ltb 57 byte h)

  module _ (digit : IsAsciiDigit byte) where
    too_large : largest < 10 * n + (byte - 48) → None ≡ with_digit n byte
    unfolding with_digit
    too_large more = rw (le-ltb byte 48 digit.0, le-ltb 57 byte digit.1, lt-ltb _ _ more)

    pub product_too_large : (n * 10 < largest + 1 → ⊥) → None ≡ with_digit n byte
    product_too_large h = too_large (omega arith)

    pub digit_more : (r : Option ℕ) (m d : ℕ) → m ≡ n * 10 → d ≡ byte - 48 → SomeIff r (m + d < largest + 1) (m + d) → r ≡ with_digit n byte
    unfolding with_digit
    digit_more None m d p q h = too_large (omega arith)
    digit_more (Some x) m d p q h =
        let more : 10 * n + (byte - 48) ≤ largest = omega (arith, h.0) in
        let e : x ≡ 10 * n + (byte - 48) = omega (arith, h.1) in
        rw (e, le-ltb byte 48 digit.0, le-ltb 57 byte digit.1, le-ltb _ _ more)

-- ---- what is left of the digits gives the same answer
none_stays : (bytes : List ℕ) → fold_over another bytes None ≡ None
unfolding fold_over another
none_stays [] = refl
none_stays (byte ∷ bytes) = none_stays bytes

pub no_digits : (word : List ℕ) → length word ≡ 0 → None ≡ number_said word
unfolding number_said
no_digits [] e = refl
no_digits (byte ∷ bytes) e = let z : ◌≡◌ {A = ℕ} 0 1 = omega arith in cc

pub digits_start : (word : List ℕ) → (length word ≡ 0 → ⊥) → fold_over another word (Some 0) ≡ number_said word
unfolding number_said
digits_start [] h = absurd (h refl)
digits_start (byte ∷ bytes) h = refl

module _ (word : List ℕ) (i n : ℕ) (t r : Option ℕ) (h : i < length word) (e : fold_over another (drop i word) (Some n) ≡ t) (p : r ≡ with_digit n (get_or word i 0)) where
  turn : fold_over another (drop (i + 1) word) r ≡ t
  unfolding fold_over another
  turn = rw (add-one, p) (rw (drop-cons word i 0 h) at e)

  pub digits_turn : (more : ℕ) → r ≡ Some more → fold_over another (drop (i + 1) word) (Some more) ≡ t
  digits_turn more q = rw q at turn

  pub digits_fail : r ≡ None → None ≡ t
  digits_fail q = sym (none_stays (drop (i + 1) word)) ∙ (rw q at turn)

pub digits_end : (word : List ℕ) (i n : ℕ) (t : Option ℕ) → length word ≤ i → fold_over another (drop i word) (Some n) ≡ t → Some n ≡ t
unfolding fold_over
digits_end word i n t h e = rw (drop_of_length-le word h) at e
