-- The sets of states and of items that lie bit by bit in the work room, and the room after a change of one. A set is a number, as token
-- sets are: `has`, `join` and `single` speak of it. Its laws after each change are in proofs/Changes.antt.
use Rattle.std.specs.Prelude.{ℕ, zero, suc, ◌+◌, ◌*◌, ◌/◌, ◌%◌, List, get_or, set, eqb}
use Rattle.base.specs.Pick.{pick}
use Rattle.rules.specs.Limits.{max_states}
use Rattle.rules.specs.Tokens.{TokenSet, single, join}
use Rattle.room.specs.Areas.{Room, with_visited, with_successors, with_walked, put_visited, put_successors, put_origin, put_head, put_walked}
use Rattle.room.specs.Bounds.{max_items, visited_words, successor_words, walked_words}
use Rattle.words.specs.Bits.{word_bits, bits_in}

-- ---- the words of the sets
-- of the successors of state s, of the items visited in state s, and of the states walked
abbrev pub successor_word : Room → ℕ → ℕ → ℕ
successor_word r s k = get_or r.successors (successor_words * s + k) 0

abbrev pub visited_word : Room → ℕ → ℕ → ℕ
visited_word r s k = get_or r.visited (visited_words * s + k) 0

abbrev pub walked_word : Room → ℕ → ℕ
walked_word r k = get_or r.walked k 0

-- ---- the sets
-- the successors of state s
unfoldable pub successors_in : Room → ℕ → TokenSet
successors_in r s = bits_in (successor_word r s) max_states

-- the items visited in state s
unfoldable pub visited_in : Room → ℕ → TokenSet
visited_in r s = bits_in (visited_word r s) max_items

-- the states walked
unfoldable pub walked_in : Room → TokenSet
walked_in r = bits_in (walked_word r) max_states

-- a word of the states that link to state s: the first lies among the origins, the second among the heads
abbrev pub link_word : Room → ℕ → ℕ → ℕ
link_word r s k = pick (eqb k 0) (get_or r.origins s 0) (get_or r.heads s 0)

-- the states that link to state s
unfoldable pub links_in : Room → ℕ → TokenSet
links_in r s = bits_in (link_word r s) max_states

-- ---- the room with one more in a set
-- a word with the bit of number t
abbrev pub with_bit : ℕ → ℕ → ℕ
with_bit word t = join word (single (t % word_bits))

abbrev pub put_successor_word : ℕ → ℕ → ℕ → Room → Room
put_successor_word s k v r = put_successors (successor_words * s + k) v r

abbrev pub put_visited_word : ℕ → ℕ → ℕ → Room → Room
put_visited_word s k v r = put_visited (visited_words * s + k) v r

abbrev pub put_walked_word : ℕ → ℕ → Room → Room
put_walked_word k v r = put_walked k v r

abbrev pub successor_added : ℕ → ℕ → Room → Room
successor_added s t r = let at = successor_words * s + t / word_bits in put_successors at (with_bit (get_or r.successors at 0) t) r

abbrev pub item_visited : ℕ → ℕ → Room → Room
item_visited s i r = let at = visited_words * s + i / word_bits in put_visited at (with_bit (get_or r.visited at 0) i) r

abbrev pub state_walked : ℕ → Room → Room
state_walked s r = let at = s / word_bits in put_walked at (with_bit (get_or r.walked at 0) s) r

abbrev pub put_link_word : ℕ → ℕ → ℕ → Room → Room
put_link_word s k v r = pick (eqb k 0) (put_origin s v r) (put_head s v r)

abbrev pub link_added : ℕ → ℕ → Room → Room
link_added from to r = let at = from / word_bits in put_link_word to at (with_bit (link_word r to at) from) r

-- ---- the room with a set emptied
-- the n words from b on are zero
unfoldable pub blanked : ℕ → ℕ → List ℕ → List ℕ
blanked b zero words = words
blanked b (suc n) words = set (blanked b n words) (b + n) 0

abbrev pub successors_cleared : ℕ → Room → Room
successors_cleared s r = with_successors (blanked (successor_words * s) successor_words r.successors) r

abbrev pub visited_cleared : ℕ → Room → Room
visited_cleared s r = with_visited (blanked (visited_words * s) visited_words r.visited) r

abbrev pub walked_cleared : Room → Room
walked_cleared r = with_walked (blanked 0 walked_words r.walked) r

abbrev pub links_cleared : ℕ → Room → Room
links_cleared s r = put_head s 0 (put_origin s 0 r)
