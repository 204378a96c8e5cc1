-- The state that is being expanded, and the kernels of all states so far, in the room; and what a transition makes of them.
use Rattle.std.specs.Prelude.{ℕ, ◌+◌, ◌≤◌, ◌<◌, ◌≡◌, List, [], Result, Ok, Err}
use Rattle.rules.specs.declared.BuildRefusal.{BuildRefusal}
use Rattle.rules.specs.Limits.{limits}
use Rattle.rules.specs.Records.{Grammar, records}
use Rattle.rules.specs.Tokens.{TokenSet}
use Rattle.rules.specs.Grammar.{Symbol}
use Rattle.rules.specs.States.{Outcome, done, refused, each_in_turn, Expansion, add_transition}
use Rattle.room.specs.Areas.{Room, with_entries, with_visited, view}
use Rattle.states.specs.StatesIn.{entry_in, first_of, state_in}
use Rattle.lr.specs.Kernels.{kernels_in, Parented}

-- state 0 begins with the set `start`, state s is being expanded, and there are `count` states
unfoldable pub expansion_in : Grammar → TokenSet → Room → ℕ → ℕ → Expansion
unfolding kernels_in state_in
expansion_in g start r s count = record { kernels = kernels_in g start r count; entries = state_in r s }

unfoldable pub expanded_to : Grammar → TokenSet → Room → ℕ → Result ℕ BuildRefusal → Outcome Expansion
unfolding expansion_in
expanded_to g start r s (Ok count) = done (expansion_in g start r s count)
expanded_to g start r s (Err why) = refused why

-- q is v but for the next states of the entries of state s, and for parents
pub record OnlyExpanded (v q : Room) (s : ℕ) : Type 0 where
  pub others : with_entries [] (with_visited [] q) ≡ with_entries [] (with_visited [] v)
  pub before : (k : ℕ) → k < first_of v s → entry_in q k ≡ entry_in v k
  pub behind : (k : ℕ) → first_of v (s + 1) ≤ k → entry_in q k ≡ entry_in v k
  pub items : (k : ℕ) → (entry_in q k).item ≡ (entry_in v k).item

-- no state is lost, and what reading the kernels asks holds again
unfoldable pub StillParented : List ℕ → ℕ → ℕ → Result ℕ BuildRefusal → List ℕ → Type 0
StillParented bytes s count (Ok more) work = (count ≤ more) × Parented bytes (s + 1) more work
StillParented bytes s count (Err why) work = Unit {0}

pub record Transition (bytes : List ℕ) (x : Symbol) (s count : ℕ) (work after : List ℕ) (r : Result ℕ BuildRefusal) : Type 0 where
  pub outcome : (start : TokenSet) → expanded_to (records bytes) start (view after) s r ≡ add_transition limits (records bytes) x (expansion_in (records bytes) start (view work) s count)
  pub only : OnlyExpanded (view work) (view after) s
  pub left : StillParented bytes s count r after

-- ---- the transitions over a list of symbols in turn
pub record Transitions (bytes : List ℕ) (xs : List Symbol) (s count : ℕ) (work after : List ℕ) (r : Result ℕ BuildRefusal) : Type 0 where
  pub outcome : (start : TokenSet) → expanded_to (records bytes) start (view after) s r ≡ each_in_turn (add_transition limits (records bytes)) xs (expansion_in (records bytes) start (view work) s count)
  pub only : OnlyExpanded (view work) (view after) s
  pub left : StillParented bytes s count r after
