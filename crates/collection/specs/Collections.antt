-- The collection of states in the room: the states that are expanded, and the kernels of all states that were added.
use Rattle.std.specs.Prelude.{ℕ, ◌≤◌, ◌<◌, ◌≡◌, Bool, true, false, List, [], length, Result, Ok, Err}
use Rattle.rules.specs.declared.BuildRefusal.{BuildRefusal}
use Rattle.rules.specs.Limits.{limits, max_entries}
use Rattle.rules.specs.Records.{Grammar, records}
use Rattle.rules.specs.Tokens.{TokenSet, eof, all}
use Rattle.rules.specs.States.{State, Outcome, done, refused, Collection, states_from, unless_conflict}
use Rattle.room.specs.Areas.{Room}
use Rattle.room.specs.Slots.{closure_slot, entry_slot, hand_slot}
use Rattle.lookahead.specs.Sets.{set_at}
use Rattle.states.specs.StatesIn.{states_in, Placed}
use Rattle.grammar.specs.Asked.{InRange}
use Rattle.first.specs.Asked.{Counted}
use Rattle.closures.specs.Closures.{Closable, follow_in}
use Rattle.lr.specs.Kernels.{kernels_in}

-- ---- what the construction asks of the grammar's bytes, of its numbers of terminals and nonterminals, and of the room
pub record Collectable (bytes : List ℕ) (n m : ℕ) (work : List ℕ) : Type 0 where
  pub closable : Closable bytes n work
  pub counted : Counted bytes n m
  pub some : InRange 0 bytes

-- ---- what state 0 begins with: Eof in canonical states, every token in LR(0) states
unfoldable pub start_of : Bool → ℕ → TokenSet
unfolding eof all
start_of true n = eof n
start_of false n = all n

-- the states of either construction, with FIRST as it lies in the room
abbrev pub all_states : List ℕ → Bool → ℕ → Room → Outcome (List State)
all_states bytes canonical n r = states_from limits (records bytes) (follow_in (records bytes) canonical n r) (start_of canonical n)

-- ---- state 0 begins with the set `start`, the first `closed` states are expanded, and there are `count`
unfoldable pub collection_in : Grammar → TokenSet → Room → ℕ → ℕ → Collection
unfolding kernels_in states_in
collection_in g start r closed count = record { kernels = kernels_in g start r count; states = states_in r closed }

unfoldable pub collected_to : Grammar → TokenSet → Room → ℕ → Result ℕ BuildRefusal → Outcome Collection
unfolding collection_in
collected_to g start r closed (Ok count) = done (collection_in g start r closed count)
collected_to g start r closed (Err why) = refused why

-- ---- what an answer says of the room that it left: the states, and that they are in place
unfoldable pub states_to : Room → Result ℕ BuildRefusal → Outcome (List State)
unfolding states_in
states_to r (Ok count) = done (states_in r count)
states_to r (Err why) = refused why

unfoldable pub PlacedTo : ℕ → Room → Result ℕ BuildRefusal → Type 0
PlacedTo record_count r (Ok count) = Placed record_count count r
PlacedTo record_count r (Err why) = Unit {0}

-- ---- the areas that the construction does not touch
abbrev pub elsewhere : Room → Room
elsewhere r = record { entries = []; first_entries = []; visited = []; entered = r.entered; successors = r.successors; origins = r.origins; heads = r.heads; walked = r.walked; actions = r.actions; sets = []; rest = r.rest }

-- q is v but for the states, their parents, the slots of the closure and of the entries, and the set at hand: FIRST and the lane table stay
pub record OnlyCollected (v q : Room) : Type 0 where
  pub others : elsewhere q ≡ elsewhere v
  pub firsts : (slot : ℕ) → slot < closure_slot 0 → set_at q slot ≡ set_at v slot
  pub cells : (slot : ℕ) → entry_slot max_entries ≤ slot → (slot ≡ hand_slot → ⊥) → set_at q slot ≡ set_at v slot

-- the construction, from the room v, gave r and the room q, as `promised` says
pub record StatesBuilt (bytes : List ℕ) (promised : Outcome (List State)) (v q : Room) (r : Result ℕ BuildRefusal) : Type 0 where
  pub outcome : states_to q r ≡ promised
  pub placed : PlacedTo (length (records bytes)) q r
  pub only : OnlyCollected v q

-- the conflicts of the first `count` states were counted
abbrev pub ConflictsCounted : List ℕ → ℕ → Room → Result ℕ BuildRefusal → Type 0
ConflictsCounted bytes count v r = StatesBuilt bytes (unless_conflict (records bytes) (done (states_in v count))) v v r
