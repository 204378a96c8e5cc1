-- Tokens handed on to the entries of a state, in the room.
use Rattle.std.specs.Prelude.{ℕ, ◌≤◌, ◌<◌, ◌≡◌, ◌⊎◌, Bool, false, List, [], length, eqb}
use Rattle.base.specs.Pick.{pick}
use Rattle.rules.specs.Records.{Grammar, records}
use Rattle.rules.specs.Tokens.{TokenSet, join}
use Rattle.rules.specs.Grammar.{is_left_side_of}
use Rattle.rules.specs.States.{Entry, State}
use Rattle.rules.specs.FinalCheck.{with_set, have_set, have_at, give_at}
use Rattle.room.specs.Areas.{Room, view, with_sets}
use Rattle.room.specs.Bounds.{LongEnough}
use Rattle.room.specs.Slots.{hand_slot}
use Rattle.lookahead.specs.Sets.{set_at, join_set, lacks_some}
use Rattle.states.specs.StatesIn.{entry_in, PlacedRun}
use Rattle.least_steps.specs.declared.give.Receivers.{Receivers}
use Rattle.least_steps.specs.declared.give.Receivers.TheVariants.{Item, OfNonterminal}
use Rattle.least_steps.specs.Least.{least_slot, least_entry, least_run, least_of}

-- ---- which items are given tokens: item x itself, or the items of nonterminal a with their dots at the start
unfoldable pub is_given : Grammar → Receivers → ℕ → Bool
unfolding is_left_side_of
is_given g (Item x) = eqb x
is_given g (OfNonterminal a) = is_left_side_of g a

-- ---- one entry is given tokens
abbrev pub give_entry : (ℕ → Bool) → TokenSet → Entry → Entry
give_entry test s e = pick (test e.item) (with_set (join e.set s) e) e

-- the room after the entry at place k was given the set at hand, and whether it lacked some of it
abbrev pub entry_given : List ℕ → Receivers → ℕ → Room → Room
entry_given bytes to k r = pick (is_given (records bytes) to (entry_in r k).item) (join_set (least_slot k) hand_slot r) r

abbrev pub entry_lacks : List ℕ → Receivers → ℕ → Room → Bool
entry_lacks bytes to k r = pick (is_given (records bytes) to (entry_in r k).item) (lacks_some (least_slot k) hand_slot r) false

-- ---- the entries from one place up to another were given tokens, and nothing else was
pub record Given (test : ℕ → Bool) (tokens : TokenSet) (v q : Room) (first end : ℕ) : Type 0 where
  pub others : with_sets [] q ≡ with_sets [] v
  pub words : length q.sets ≡ length v.sets
  pub entries : (k : ℕ) → first ≤ k → k < end → least_entry q k ≡ give_entry test tokens (least_entry v k)
  pub slots : (slot : ℕ) → (slot < least_slot first) ⊎ (least_slot end ≤ slot) → set_at q slot ≡ set_at v slot

-- ---- what is asked of a run of places, and the promises over the bytes of a grammar
abbrev pub Readable : List ℕ → List ℕ → ℕ → ℕ → Type 0
Readable bytes work first end = LongEnough work × PlacedRun (length (records bytes)) (view work) first end

abbrev pub RunGiven : List ℕ → Receivers → List ℕ → List ℕ → ℕ → ℕ → Type 0
RunGiven bytes to before after first end = Given (is_given (records bytes) to) (set_at (view before) hand_slot) (view before) (view after) first end

abbrev pub run_has : List ℕ → Receivers → List ℕ → ℕ → ℕ → Bool
run_has bytes to work first end = have_set (is_given (records bytes) to) (set_at (view work) hand_slot) (least_run (view work) first end)

-- all states after state s was given the set at hand, and whether it had it
abbrev pub given_least : List ℕ → Receivers → ℕ → ℕ → List ℕ → List State
given_least bytes to s count work = give_at s (is_given (records bytes) to) (set_at (view work) hand_slot) (least_of count work)

abbrev pub has_least : List ℕ → Receivers → ℕ → ℕ → List ℕ → Bool
has_least bytes to s count work = have_at (least_of count work) s (is_given (records bytes) to) (set_at (view work) hand_slot)
