-- The parts of an entry, as the code reads and writes them.
use Prim.Native.Nat.{ℕ}
use mathlib.Core.Path.{◌≡◌, ap, ◌∙◌}
use lib.ListN.{get_or}
use Rattle.rules.specs.declared.StateIndex.{StateIndex}
use Rattle.room.specs.Areas.{Room, put_entry}
use Rattle.packed.specs.Packed.{IsPart, packed, low, middle, entry_of}
use Rattle.room.specs.Slots.{entry_slot}
use Rattle.packed.proofs.Packs.{low_lt}
use Rattle.lookahead.specs.Sets.{copy_set}
use Rattle.states.specs.StatesIn.{entry_in, put_next, append_entry}

module _ (r : Room) (k a : ℕ) where
  pub item_read : (word : ℕ) → word ≡ get_or r.entries k 0 → a ≡ low word → a ≡ (entry_in r k).item
  unfolding entry_in
  item_read word read is = is ∙ ap low read

  pub next_read : (word : ℕ) → word ≡ get_or r.entries k 0 → a ≡ middle word → a ≡ (entry_in r k).next
  unfolding entry_in
  next_read word read is = is ∙ ap middle read

  pub item_small : a ≡ (entry_in r k).item → IsPart a
  unfolding entry_in
  item_small is = rw is (low_lt (get_or r.entries k 0))

-- what is stored
module _ (v q : Room) (k item entry : ℕ) where
  pub next_put : (next : StateIndex) → item ≡ (entry_in v k).item → entry ≡ entry_of item next → q ≡ put_entry k entry v → q ≡ put_next k next v
  next_put next is e put = rw (← is, ← e) put

  pub entry_appended : (p : Room) (slot from : ℕ) → entry ≡ packed item 0 0 → slot ≡ entry_slot k → p ≡ put_entry k entry v → q ≡ copy_set slot from p → q ≡ append_entry k item from v
  entry_appended p slot from e at put copied = copied ∙ rw (put, e, at)
