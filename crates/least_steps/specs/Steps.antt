-- What the entry at a place hands on, in the room, for the bytes of a grammar. Each promise is the expression that it abbreviates.
use Rattle.std.specs.Prelude.{ℕ, ◌+◌, Bool, List, eqb}
use Rattle.rules.specs.Records.{records}
use Rattle.rules.specs.Tokens.{TokenSet}
use Rattle.rules.specs.Grammar.{symbols_behind}
use Rattle.rules.specs.First.{first1}
use Rattle.rules.specs.States.{Entry, State}
use Rattle.rules.specs.FinalCheck.{have_at, give_at, is_behind_dot, closing}
use Rattle.room.specs.Areas.{Room, view}
use Rattle.room.specs.Slots.{hand_slot}
use Rattle.lookahead.specs.Sets.{set_at, put_set}
use Rattle.first.specs.Firsts.{firsts_in}
use Rattle.states.specs.StatesIn.{entry_in}
use Rattle.least_steps.specs.Least.{least_slot, least_entry, least_of}

-- ---- the room with what the entry at a place hands on to the items behind its dot in the set at hand
abbrev pub closing_put : List ℕ → ℕ → ℕ → Room → Room
closing_put bytes n place r =
    put_set hand_slot (first1 n (firsts_in (records bytes) r) (symbols_behind (records bytes) ((entry_in r place).item + 1)) (set_at r (least_slot place))) r

-- ---- the entry at a place has handed on its set to its moved dot, and to the items behind its dot; and whether they had it
abbrev pub moved_from : ℕ → ℕ → List ℕ → List State
moved_from place count work = let e : Entry = least_entry (view work) place in give_at e.next (eqb (e.item + 1)) e.set (least_of count work)

abbrev pub has_moved : ℕ → ℕ → List ℕ → Bool
has_moved place count work = let e : Entry = least_entry (view work) place in have_at (least_of count work) e.next (eqb (e.item + 1)) e.set

abbrev pub closing_of : List ℕ → ℕ → List ℕ → TokenSet
closing_of bytes place work = closing (records bytes) (firsts_in (records bytes) (view work)) (least_entry (view work) place)

abbrev pub closed_from : List ℕ → ℕ → ℕ → ℕ → List ℕ → List State
closed_from bytes s place count work = give_at s (is_behind_dot (records bytes) (least_entry (view work) place).item) (closing_of bytes place work) (least_of count work)

abbrev pub has_closing : List ℕ → ℕ → ℕ → ℕ → List ℕ → Bool
has_closing bytes s place count work = have_at (least_of count work) s (is_behind_dot (records bytes) (least_entry (view work) place).item) (closing_of bytes place work)
