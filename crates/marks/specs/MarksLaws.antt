-- What each kind of set owes to be one: it has words for all that may be in it, it is what its words have, a member more is a bit more in
-- one of its words, and it is emptied word by word.
use Rattle.std.specs.Prelude.{ℕ, zero, suc, ◌*◌, ◌/◌, ◌≤◌, ◌≡◌, refl}
use native.Mathlib.Omega.{arith}
use Rattle.rules.specs.Limits.{max_states}
use Rattle.rules.specs.Tokens.{TokenSet}
use Rattle.room.specs.Areas.{Room}
use Rattle.room.specs.Bounds.{max_items, visited_words, successor_words, walked_words}
use Rattle.words.specs.Bits.{word_bits, bits_in}
use Rattle.marks.specs.Marks.{successors_in, visited_in, walked_in, links_in, successor_word, visited_word, walked_word, link_word, with_bit, put_successor_word, put_visited_word, put_walked_word, put_link_word, successor_added, item_visited, state_walked, link_added, blanked, successors_cleared, visited_cleared, walked_cleared, links_cleared}

-- the first n words become zero
unfoldable pub emptied : (ℕ → ℕ → Room → Room) → ℕ → Room → Room
emptied put_word zero r = r
emptied put_word (suc n) r = put_word n 0 (emptied put_word n r)

pub record IsMarks {Owner : Type 0} (bound words : ℕ) (word : Owner → ℕ → Room → ℕ) (put_word : Owner → ℕ → ℕ → Room → Room) (members : Room → Owner → TokenSet) (marked : Owner → ℕ → Room → Room) (cleared : Owner → Room → Room) : Type 0 where
  pub words_enough : bound ≤ word_bits * words
  pub in_words : (r : Room) (of : Owner) → members r of ≡ bits_in (λ k. word of k r) bound
  pub marks : (of : Owner) (t : ℕ) (r : Room) → marked of t r ≡ put_word of (t / word_bits) (with_bit (word of (t / word_bits) r) t) r
  pub clears : (of : Owner) (r : Room) → cleared of r ≡ emptied (put_word of) words r

-- ---- the kinds, of what has a state's number
module _ {Owner : Type 0} (state : Owner → ℕ) where
  pub successors_marks : IsMarks max_states successor_words (λ of k r. successor_word r (state of) k) (λ of k v r. put_successor_word (state of) k v r) (λ r of. successors_in r (state of)) (λ of t r. successor_added (state of) t r) (λ of r. successors_cleared (state of) r)
  unfolding successors_in blanked emptied
  successors_marks = record { words_enough = omega arith; in_words = λ r of. refl; marks = λ of t r. refl; clears = λ of r. refl }

  pub visited_marks : IsMarks max_items visited_words (λ of k r. visited_word r (state of) k) (λ of k v r. put_visited_word (state of) k v r) (λ r of. visited_in r (state of)) (λ of t r. item_visited (state of) t r) (λ of r. visited_cleared (state of) r)
  unfolding visited_in blanked emptied
  visited_marks = record { words_enough = omega arith; in_words = λ r of. refl; marks = λ of t r. refl; clears = λ of r. refl }

  pub links_marks : IsMarks max_states 2 (λ of k r. link_word r (state of) k) (λ of k v r. put_link_word (state of) k v r) (λ r of. links_in r (state of)) (λ of t r. link_added t (state of) r) (λ of r. links_cleared (state of) r)
  unfolding links_in emptied
  links_marks = record { words_enough = omega arith; in_words = λ r of. refl; marks = λ of t r. refl; clears = λ of r. refl }

pub walked_marks : {Owner : Type 0} → IsMarks {Owner = Owner} max_states walked_words (λ of k r. walked_word r k) (λ of k v r. put_walked_word k v r) (λ r of. walked_in r) (λ of t r. state_walked t r) (λ of r. walked_cleared r)
unfolding walked_in blanked emptied
walked_marks = record { words_enough = omega arith; in_words = λ r of. refl; marks = λ of t r. refl; clears = λ of r. refl }
