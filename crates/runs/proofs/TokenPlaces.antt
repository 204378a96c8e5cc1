-- Tokens by their places: a place where a token below Eof stands is before the end, one where Eof stands is the end.
use Prim.Native.Nat.{ℕ, zero, suc, ◌+◌, ◌<◌, ◌≤◌}
use mathlib.Core.Path.{◌≡◌, refl, sym, ap, ◌∙◌}
use mathlib.Core.List.{List, [], ◌∷◌, ◌++◌}
use native.Mathlib.Omega.{arith}
use native.Mathlib.Numerals.{add-one}
use native.Mathlib.Decide.{dec_lt}
use lib.ListN.{length, get_or, take, drop, get_or-append, get_or-eq_default}
use lib.Seq.{take-suc, get_or-take, length-take-le, drop-drop}
use Rattle.base.proofs.Lists.{among_at}
use Rattle.rules.specs.Records.{Grammar}
use Rattle.rules.specs.Grammar.{terminal_count}
use Rattle.rules.specs.Run.{token_at}
use Rattle.knuth.specs.Derivations.{next}
use Rattle.runs.specs.Sentences.{AreTokens}

-- ---- what is left from place k on
pub next_of_drop : (n k : ℕ) (w : List ℕ) → next n (drop k w) ≡ get_or w k n
next_of_drop n zero [] = refl
next_of_drop n (suc k) [] = refl
next_of_drop n zero (t ∷ w) = refl
next_of_drop n (suc k) (t ∷ w) = next_of_drop n k w

pub drop_one : (k : ℕ) (w : List ℕ) {t : ℕ} {v : List ℕ} → drop k w ≡ t ∷ v → drop (k + 1) w ≡ v
drop_one k w e = sym (drop-drop 1 k w) ∙ ap (λ (x : List ℕ). drop 1 x) e

module _ (g : Grammar) (w : List ℕ) where
  pub token_within : (k : ℕ) → token_at g w k < terminal_count g → k < length w
  unfolding token_at
  token_within k h = elim (dec_lt k (length w)) [
    | yes l ↦ l
    | no l ↦
        let z : get_or w k (terminal_count g) ≡ terminal_count g = get_or-eq_default w (terminal_count g) (omega arith) in
        absurd (omega arith)
  ]

  pub taken_one : (k : ℕ) → k < length w → take (k + 1) w ≡ take k w ++ (token_at g w k ∷ [])
  unfolding token_at
  taken_one k h = ap (λ (n : ℕ). take n w) (add-one k) ∙ take-suc w k (terminal_count g) h

  -- a string that begins with the first m tokens of w agrees with w there
  pub begins_agree : (x : List ℕ) (m j : ℕ) → j < m → m ≤ length w → token_at g w j ≡ token_at g (take m w ++ x) j
  unfolding token_at
  begins_agree x m j h k =
      sym (get_or-take m w j (terminal_count g) h) ∙ sym (get_or-append (take m w) x (terminal_count g) j (omega (arith, length-take-le m w k)))

  module _ (below : AreTokens g w) where
    pub eof_at_end : (k : ℕ) → k ≤ length w → token_at g w k ≡ terminal_count g → k ≡ length w
    unfolding token_at
    eof_at_end k h e = elim (dec_lt k (length w)) [
      | yes l ↦
          let z = below (get_or w k (terminal_count g)) (among_at w k (terminal_count g) l) in
          absurd (omega arith)
      | no l ↦ omega arith
    ]

    pub token_at_most : (k : ℕ) → token_at g w k ≤ terminal_count g
    unfolding token_at
    token_at_most k = elim (dec_lt k (length w)) [
      | yes l ↦
          let z = below (get_or w k (terminal_count g)) (among_at w k (terminal_count g) l) in
          omega arith
      | no l ↦
          let z : get_or w k (terminal_count g) ≡ terminal_count g = get_or-eq_default w (terminal_count g) (omega arith) in
          omega arith
    ]
