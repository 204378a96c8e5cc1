-- The two constructions: LR(0) states, and canonical states unless they have a conflict.
use Prim.Native.Nat.{ℕ}
use mathlib.Core.Path.{◌≡◌, ap, ◌∙◌}
use mathlib.Core.Bool.{true, false}
use mathlib.Core.List.{List}
use lib.ListN.{length}
use borrow.Author.Tests.{eq-eqb, ne_eqb}
use Rattle.std.specs.Prelude.{Result, Ok, Err}
use Rattle.rules.specs.declared.BuildRefusal.{BuildRefusal}
use Rattle.rules.specs.declared.BuildRefusal.TheVariants.{Conflicts}
use Rattle.rules.specs.Limits.{limits}
use Rattle.rules.specs.Records.{records}
use Rattle.rules.specs.Grammar.{terminal_count}
use Rattle.rules.specs.First.{first_sets}
use Rattle.rules.specs.States.{State, Outcome, done, lr0_states, canonical_states, canonical, conflict_count, unless_conflict}
use Rattle.room.specs.Areas.{Room, view}
use Rattle.first.specs.Firsts.{firsts_in}
use Rattle.states.specs.StatesIn.{states_in, Placed}
use Rattle.closures.specs.Closures.{follow_of}
use Rattle.collection.specs.Collections.{Collectable, start_of, all_states, states_to, PlacedTo, StatesBuilt}
use Rattle.collection.proofs.Frames.{only_none}

module _ (bytes : List ℕ) (n : ℕ) (v : Room) (terminals : n ≡ terminal_count (records bytes)) where
  lr0_is : all_states bytes false n v ≡ lr0_states limits (records bytes)
  unfolding lr0_states start_of follow_of
  lr0_is = rw terminals

  canonical_is : firsts_in (records bytes) v ≡ first_sets (records bytes) → all_states bytes true n v ≡ canonical_states limits (records bytes)
  unfolding canonical_states start_of follow_of
  canonical_is found = rw (found, terminals)

pub lr0_built : (bytes : List ℕ) (n m : ℕ) (w : List ℕ) (q : Room) (r : Result ℕ BuildRefusal) → Collectable bytes n m w → StatesBuilt bytes (all_states bytes false n (view w)) (view w) q r
    → StatesBuilt bytes (lr0_states limits (records bytes)) (view w) q r
lr0_built bytes n m w q r asked built = record { outcome = built.outcome ∙ lr0_is bytes n (view w) asked.counted.terminals; placed = built.placed; only = built.only }

-- ---- the conflicts are counted after the last state
module _ (bytes : List ℕ) (n m : ℕ) (w : List ℕ) (q : Room) (r : Result ℕ BuildRefusal) (asked : Collectable bytes n m w) (found : firsts_in (records bytes) (view w) ≡ first_sets (records bytes))
    (built : StatesBuilt bytes (all_states bytes true n (view w)) (view w) q r) where
  counted_is : unless_conflict (records bytes) (states_to q r) ≡ canonical limits (records bytes)
  unfolding canonical
  counted_is = ap (unless_conflict (records bytes)) (built.outcome ∙ canonical_is bytes n (view w) asked.counted.terminals found)

  pub canonical_refused : (why : BuildRefusal) → r ≡ Err why → StatesBuilt bytes (canonical limits (records bytes)) (view w) q (Err why)
  unfolding states_to PlacedTo unless_conflict
  canonical_refused why is = record { outcome = rw is at counted_is; placed = tt; only = built.only }

  pub canonical_counted : (count : ℕ) (a : Result ℕ BuildRefusal) → r ≡ Ok count → StatesBuilt bytes (unless_conflict (records bytes) (done (states_in q count))) q q a
      → StatesBuilt bytes (canonical limits (records bytes)) (view w) q a
  unfolding states_to
  canonical_counted count a is counted = record { outcome = counted.outcome ∙ rw is at counted_is; placed = counted.placed; only = built.only }

pub built_placed : (bytes : List ℕ) (promised : Outcome (List State)) (v q : Room) (r : Result ℕ BuildRefusal) (count : ℕ) → StatesBuilt bytes promised v q r → r ≡ Ok count → Placed (length (records bytes)) count q
unfolding PlacedTo
built_placed bytes promised v q r count built is = rw is at built.placed

module _ (bytes : List ℕ) (count : ℕ) (v : Room) (conflicts : ℕ) (placed : Placed (length (records bytes)) count v) (is : conflicts ≡ conflict_count (records bytes) (states_in v count)) where
  pub conflicts_refused : (conflicts ≡ 0 → ⊥) → StatesBuilt bytes (unless_conflict (records bytes) (done (states_in v count))) v v (Err (Conflicts conflicts))
  unfolding states_to PlacedTo unless_conflict
  conflicts_refused ne = record { outcome = rw (← is, ne_eqb conflicts 0 ne); placed = tt; only = only_none v }

  pub no_conflicts : conflicts ≡ 0 → StatesBuilt bytes (unless_conflict (records bytes) (done (states_in v count))) v v (Ok count)
  unfolding states_to PlacedTo unless_conflict
  no_conflicts z = record { outcome = rw (← is, eq-eqb conflicts 0 z); placed = placed; only = only_none v }
