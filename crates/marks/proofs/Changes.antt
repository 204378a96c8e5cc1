-- The sets in the room after a change of one: the set that was changed, and those that were not. The new room is q, as the code promises it.
use Prim.Native.Nat.{ℕ, zero, suc, ◌+◌, ◌*◌, ◌/◌, ◌≤◌, ◌<◌}
use mathlib.Core.Path.{◌≡◌, refl, sym, ap, ◌∙◌}
use mathlib.Core.Bool.{Bool, true, false}
use mathlib.Core.List.{List}
use native.Mathlib.Omega.{arith}
use native.Mathlib.Decide.{ℕ_discrete}
use lib.ListN.{length, get_or, set, length-set}
use lib.Seq.{get_or-set_same, get_or-set_other}
use lib.Dec.{eqb}
use borrow.Author.Tests.{eq-eqb, ne_eqb}
use Rattle.base.specs.Pick.{pick}
use Rattle.rules.specs.Limits.{max_states}
use Rattle.rules.specs.Tokens.{single, join}
use Rattle.room.specs.Areas.{Room, put_origin, put_head}
use Rattle.room.specs.Bounds.{max_items, visited_words, successor_words, walked_words}
use Rattle.room.proofs.Lengths.{Lengths}
use Rattle.words.specs.Bits.{word_bits, bits_in}
use Rattle.words.proofs.Bits.{bits_same, bits_none, bits_put}
use Rattle.marks.specs.Marks.{successors_in, visited_in, walked_in, links_in, link_word, with_bit, successor_added, item_visited, state_walked, put_link_word, link_added, blanked, successors_cleared, visited_cleared, walked_cleared, links_cleared}

-- ---- words that are zero
module _ (b : ℕ) (words : List ℕ) where
  pub blanked_length : (n : ℕ) → length (blanked b n words) ≡ length words
  unfolding blanked
  blanked_length zero = refl
  blanked_length (suc n) = length-set (blanked b n words) (b + n) 0 ∙ blanked_length n

  blanked_at : (n k : ℕ) → k < n → b + n ≤ length words → get_or (blanked b n words) (b + k) 0 ≡ 0
  unfolding blanked
  blanked_at zero k h fits = absurd (omega arith)
  blanked_at (suc n) k h fits = elim (ℕ_discrete k n) [
    | yes e ↦ rw e (get_or-set_same (blanked b n words) (b + n) 0 0 (omega (arith, blanked_length n)))
    | no ne ↦ get_or-set_other (blanked b n words) (b + n) (b + k) 0 0 (λ z. ne (omega arith)) ∙ blanked_at n k (omega arith) (omega arith)
  ]

  blanked_other : (n j : ℕ) → ((k : ℕ) → k < n → j ≡ b + k → ⊥) → get_or (blanked b n words) j 0 ≡ get_or words j 0
  unfolding blanked
  blanked_other zero j apart = refl
  blanked_other (suc n) j apart = get_or-set_other (blanked b n words) (b + n) j 0 0 (apart n (omega arith)) ∙ blanked_other n j (λ k h. apart k (omega arith))

-- ---- a set in words that lie side by side, from place b on
module _ (words : List ℕ) (b n : ℕ) where
  bit_added : (t : ℕ) → t < n → b + t / word_bits < length words
      → bits_in (λ k. get_or (set words (b + t / word_bits) (with_bit (get_or words (b + t / word_bits) 0) t)) (b + k) 0) n ≡ join (bits_in (λ k. get_or words (b + k) 0) n) (single t)
  bit_added t h inside =
      bits_put _ n _ t h (get_or-set_same words (b + t / word_bits) _ 0 inside) (λ u l ne. get_or-set_other words (b + t / word_bits) (b + u / word_bits) _ 0 (λ e. ne (omega arith)))

  word_elsewhere : (j v : ℕ) → ((t : ℕ) → t < n → b + t / word_bits ≡ j → ⊥) → bits_in (λ k. get_or (set words j v) (b + k) 0) n ≡ bits_in (λ k. get_or words (b + k) 0) n
  word_elsewhere j v apart = bits_same _ n _ (λ t h. get_or-set_other words j (b + t / word_bits) v 0 (apart t h))

  words_blanked : (m : ℕ) → n ≤ word_bits * m → b + m ≤ length words → bits_in (λ k. get_or (blanked b m words) (b + k) 0) n ≡ 0
  words_blanked m fits inside = bits_none _ n (λ t h. blanked_at b words m (t / word_bits) (omega arith) inside)

  blanked_elsewhere : (c m : ℕ) → ((t k : ℕ) → t < n → k < m → b + t / word_bits ≡ c + k → ⊥) → bits_in (λ k. get_or (blanked c m words) (b + k) 0) n ≡ bits_in (λ k. get_or words (b + k) 0) n
  blanked_elsewhere c m apart = bits_same _ n _ (λ t h. blanked_other c words m (b + t / word_bits) (λ k l. apart t k h l))

-- ---- successors
module _ (v q : Room) (s : ℕ) where
  module _ (t : ℕ) (next : t < max_states) (added : q ≡ successor_added s t v) where
    pub successor_added_lem : Lengths v → s < max_states → successors_in q s ≡ join (successors_in v s) (single t)
    unfolding successors_in
    successor_added_lem sized low =
        ap (λ (r : Room). successors_in r s) added ∙ bit_added v.successors (successor_words * s) max_states t next (omega (arith, sized.successors_length))

    pub successors_kept : (p : ℕ) → (p ≡ s → ⊥) → successors_in q p ≡ successors_in v p
    unfolding successors_in
    successors_kept p ne = ap (λ (r : Room). successors_in r p) added ∙ word_elsewhere v.successors (successor_words * p) max_states _ _ (λ u h e. ne (omega arith))

  module _ (cleared : q ≡ successors_cleared s v) where
    pub successors_none : Lengths v → s < max_states → successors_in q s ≡ 0
    unfolding successors_in
    successors_none sized low =
        ap (λ (r : Room). successors_in r s) cleared ∙ words_blanked v.successors (successor_words * s) max_states successor_words (omega arith) (omega (arith, sized.successors_length))

    pub successors_left : (p : ℕ) → (p ≡ s → ⊥) → successors_in q p ≡ successors_in v p
    unfolding successors_in
    successors_left p ne = ap (λ (r : Room). successors_in r p) cleared ∙ blanked_elsewhere v.successors (successor_words * p) max_states _ _ (λ u k h l e. ne (omega arith))

-- ---- items visited
module _ (v q : Room) (s : ℕ) where
  module _ (i : ℕ) (item : i < max_items) (visited : q ≡ item_visited s i v) where
    pub item_visited_lem : Lengths v → s < max_states → visited_in q s ≡ join (visited_in v s) (single i)
    unfolding visited_in
    item_visited_lem sized low = ap (λ (r : Room). visited_in r s) visited ∙ bit_added v.visited (visited_words * s) max_items i item (omega (arith, sized.visited_length))

    pub visited_kept : (p : ℕ) → (p ≡ s → ⊥) → visited_in q p ≡ visited_in v p
    unfolding visited_in
    visited_kept p ne = ap (λ (r : Room). visited_in r p) visited ∙ word_elsewhere v.visited (visited_words * p) max_items _ _ (λ u h e. ne (omega arith))

  module _ (cleared : q ≡ visited_cleared s v) where
    pub visited_none : Lengths v → s < max_states → visited_in q s ≡ 0
    unfolding visited_in
    visited_none sized low =
        ap (λ (r : Room). visited_in r s) cleared ∙ words_blanked v.visited (visited_words * s) max_items visited_words (omega arith) (omega (arith, sized.visited_length))

    pub visited_left : (p : ℕ) → (p ≡ s → ⊥) → visited_in q p ≡ visited_in v p
    unfolding visited_in
    visited_left p ne = ap (λ (r : Room). visited_in r p) cleared ∙ blanked_elsewhere v.visited (visited_words * p) max_items _ _ (λ u k h l e. ne (omega arith))

-- ---- states walked
module _ (v q : Room) (sized : Lengths v) where
  pub state_walked_lem : (s : ℕ) → s < max_states → q ≡ state_walked s v → walked_in q ≡ join (walked_in v) (single s)
  unfolding walked_in
  state_walked_lem s low walked =
      ap walked_in walked
      ∙ bits_put _ max_states _ s low (get_or-set_same v.walked (s / word_bits) _ 0 (omega (arith, sized.walked_length))) (λ t l ne. get_or-set_other v.walked (s / word_bits) (t / word_bits) _ 0 ne)

  pub walked_none : q ≡ walked_cleared v → walked_in q ≡ 0
  unfolding walked_in
  walked_none cleared = ap walked_in cleared ∙ bits_none _ max_states (λ t h. none t h)
    where
      none : (t : ℕ) → t < max_states → get_or (blanked 0 walked_words v.walked) (t / word_bits) 0 ≡ 0
      none t h =
          let z : 0 + t / word_bits ≡ t / word_bits = omega arith in
          rw z at (blanked_at 0 v.walked walked_words (t / word_bits) (omega arith) (omega (arith, sized.walked_length)))

-- ---- links
module _ (v : Room) (s : ℕ) where
  -- a word that was put, and the other
  word_put : (k x : ℕ) → Lengths v → s < max_states → link_word (put_link_word s k x v) s k ≡ x
  word_put k x sized low = go (eqb k 0)
    where
      go : (b : Bool) → pick b (get_or (pick b (put_origin s x v) (put_head s x v)).origins s 0) (get_or (pick b (put_origin s x v) (put_head s x v)).heads s 0) ≡ x
      go true = get_or-set_same v.origins s x 0 (omega (arith, sized.origins_length))
      go false = get_or-set_same v.heads s x 0 (omega (arith, sized.heads_length))

  word_left : (k j x : ℕ) → k < 2 → j < 2 → (j ≡ k → ⊥) → link_word (put_link_word s k x v) s j ≡ link_word v s j
  word_left k j x h g ne = elim (ℕ_discrete k 0) [
    | yes e ↦ rw (eq-eqb k 0 e, ne_eqb j 0 (λ z. ne (z ∙ sym e)))
    | no d ↦ (let z : j ≡ 0 = omega arith in rw (ne_eqb k 0 d, eq-eqb j 0 z))
  ]

  word_of_other : (k x p j : ℕ) → (p ≡ s → ⊥) → link_word (put_link_word s k x v) p j ≡ link_word v p j
  word_of_other k x p j ne = go (eqb k 0)
    where
      go : (b : Bool) → link_word (pick b (put_origin s x v) (put_head s x v)) p j ≡ link_word v p j
      go true = ap (λ (w : ℕ). pick (eqb j 0) w (get_or v.heads p 0)) (get_or-set_other v.origins s p x 0 ne)
      go false = ap (λ (w : ℕ). pick (eqb j 0) (get_or v.origins p 0) w) (get_or-set_other v.heads s p x 0 ne)

module _ (v q : Room) (s : ℕ) where
  module _ (from : ℕ) (added : q ≡ link_added from s v) where
    pub link_added_lem : Lengths v → s < max_states → from < max_states → links_in q s ≡ join (links_in v s) (single from)
    unfolding links_in
    link_added_lem sized low state =
        ap (λ (r : Room). links_in r s) added ∙ bits_put _ max_states _ from state (word_put v s (from / word_bits) _ sized low) (λ t h ne. word_left v s (from / word_bits) (t / word_bits) _ (omega arith) (omega arith) ne)

    pub links_kept : (p : ℕ) → (p ≡ s → ⊥) → links_in q p ≡ links_in v p
    unfolding links_in
    links_kept p ne = ap (λ (r : Room). links_in r p) added ∙ bits_same _ max_states _ (λ t h. word_of_other v s (from / word_bits) _ p (t / word_bits) ne)

  module _ (cleared : q ≡ links_cleared s v) where
    pub links_none : Lengths v → s < max_states → links_in q s ≡ 0
    unfolding links_in
    links_none sized low = ap (λ (r : Room). links_in r s) cleared ∙ bits_none _ max_states (λ t h. none (eqb (t / word_bits) 0))
      where
        none : (b : Bool) → pick b (get_or (set v.origins s 0) s 0) (get_or (set v.heads s 0) s 0) ≡ 0
        none true = get_or-set_same v.origins s 0 0 (omega (arith, sized.origins_length))
        none false = get_or-set_same v.heads s 0 0 (omega (arith, sized.heads_length))

    pub links_left : (p : ℕ) → (p ≡ s → ⊥) → links_in q p ≡ links_in v p
    unfolding links_in
    links_left p ne = ap (λ (r : Room). links_in r p) cleared ∙ bits_same _ max_states _ (λ t h. same (eqb (t / word_bits) 0))
      where
        same : (b : Bool) → pick b (get_or (set v.origins s 0) p 0) (get_or (set v.heads s 0) p 0) ≡ pick b (get_or v.origins p 0) (get_or v.heads p 0)
        same true = get_or-set_other v.origins s p 0 0 ne
        same false = get_or-set_other v.heads s p 0 0 ne
