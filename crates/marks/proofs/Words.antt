-- The words of a set, as the code reads and empties them one by one.
use Prim.Native.Nat.{ℕ, ◌+◌, ◌/◌, ◌%◌, ◌≤◌, ◌<◌}
use mathlib.Core.Path.{◌≡◌, refl, sym, ap, ◌∙◌}
use mathlib.Core.Bool.{Bool}
use native.Mathlib.Omega.{arith}
use native.Mathlib.Numerals.{add-one}
use Rattle.rules.specs.Tokens.{TokenSet, has}
use Rattle.room.specs.Areas.{Room}
use Rattle.words.specs.Bits.{word_bits}
use Rattle.words.proofs.Bits.{bits_has}
use Rattle.marks.specs.MarksLaws.{IsMarks, emptied}

-- ---- a member asked for
pub member_read : {Owner : Type 0} (bound words : ℕ) (word : Owner → ℕ → Room → ℕ) (put_word : Owner → ℕ → ℕ → Room → Room) (members : Room → Owner → TokenSet) (marked : Owner → ℕ → Room → Room) (cleared : Owner → Room → Room)
    → IsMarks bound words word put_word members marked cleared → (r : Room) (of : Owner) (t w : ℕ) (b : Bool) → t < bound → w ≡ word of (t / word_bits) r → b ≡ has w (t % word_bits) → b ≡ has (members r of) t
member_read bound words word put_word members marked cleared kind r of t w b h e f =
    f ∙ ap (λ (v : ℕ). has v (t % word_bits)) e ∙ sym (bits_has (λ k. word of k r) bound t h) ∙ ap (λ (s : TokenSet). has s t) (sym (kind.in_words r of))

-- ---- a set emptied in a loop, the words before k done
pub emptying_starts : (put_word : ℕ → ℕ → Room → Room) (v : Room) → v ≡ emptied put_word 0 v
unfolding emptied
emptying_starts put_word v = refl

module _ (put_word : ℕ → ℕ → Room → Room) (v p : Room) (k : ℕ) (done : p ≡ emptied put_word k v) where
  pub emptying_goes : (q : Room) → q ≡ put_word k 0 p → q ≡ emptied put_word (k + 1) v
  unfolding emptied
  emptying_goes q put = rw add-one (put ∙ ap (put_word k 0) done)

  pub emptying_ends : (words : ℕ) → k ≤ words → words ≤ k → p ≡ emptied put_word words v
  emptying_ends words h g = let e : k ≡ words = omega arith in rw e at done
