-- A visit of a state, and the visits of all states, in the room.
use Rattle.std.specs.Prelude.{ℕ, ◌≤◌, ◌<◌, ◌≡◌, List, length, Result, Ok, Err}
use Rattle.rules.specs.declared.BuildRefusal.{BuildRefusal}
use Rattle.rules.specs.Limits.{limits, max_bytes}
use Rattle.rules.specs.Records.{records}
use Rattle.rules.specs.Grammar.{terminal_count}
use Rattle.rules.specs.First.{first_sets}
use Rattle.rules.specs.States.{State, Outcome, done}
use Rattle.rules.specs.Merge.{resolve, resolve_all}
use Rattle.grammar.specs.Asked.{Faultless}
use Rattle.room.specs.Areas.{Room}
use Rattle.room.specs.Bounds.{FewTerminals}
use Rattle.room.specs.Slots.{closure_slot}
use Rattle.lookahead.specs.Sets.{set_at}
use Rattle.first.specs.Firsts.{firsts_in}
use Rattle.states.specs.StatesIn.{states_in, Placed}
use Rattle.merging.specs.Visits.{states_after}
use Rattle.collection.specs.Collections.{states_to, PlacedTo}

-- ---- what visits ask: the grammar is coded and has n terminals, and its states and FIRST are in the room
pub record Visitable (bytes : List ℕ) (n count : ℕ) (v : Room) : Type 0 where
  pub clean : Faultless bytes
  pub short : length bytes ≤ max_bytes
  pub few : FewTerminals n
  pub counted : n ≡ terminal_count (records bytes)
  pub placed : Placed (length (records bytes)) count v
  pub firsts : firsts_in (records bytes) v ≡ first_sets (records bytes)

-- ---- what they leave as it was: FIRST, and what is past the numbers that the builder takes
pub record OnlyVisited (v q : Room) : Type 0 where
  pub firsts : (slot : ℕ) → slot < closure_slot 0 → set_at q slot ≡ set_at v slot
  pub rest : q.rest ≡ v.rest

abbrev pub VisitedTo : List ℕ → ℕ → ℕ → Result ℕ BuildRefusal → Room → Type 0
VisitedTo bytes n count (Ok more) q = Visitable bytes n more q × (count ≤ more)
VisitedTo bytes n count (Err why) q = Unit {0}

-- visits of the room v with `count` states gave r and the room q, as `after` says
pub record Visited (bytes : List ℕ) (after : Outcome (List State)) (n count : ℕ) (v : Room) (r : Result ℕ BuildRefusal) (q : Room) : Type 0 where
  pub outcome : states_after r q ≡ after
  pub only : OnlyVisited v q
  pub left : VisitedTo bytes n count r q

-- the visit of state s; those of all states
abbrev pub Resolves : List ℕ → ℕ → ℕ → ℕ → Room → Result ℕ BuildRefusal → Room → Type 0
Resolves bytes n s count v r q = Visited bytes (resolve limits (records bytes) (first_sets (records bytes)) s (states_in v count)) n count v r q

abbrev pub ResolvesAll : List ℕ → ℕ → ℕ → Room → Result ℕ BuildRefusal → Room → Type 0
ResolvesAll bytes n count v r q = Visited bytes (resolve_all limits (records bytes) (done (states_in v count))) n count v r q

-- ---- the construction gave r and the room q, as `promised` says
pub record Constructs (bytes : List ℕ) (promised : Outcome (List State)) (v q : Room) (r : Result ℕ BuildRefusal) : Type 0 where
  pub outcome : states_to q r ≡ promised
  pub placed : PlacedTo (length (records bytes)) q r
  pub only : OnlyVisited v q
