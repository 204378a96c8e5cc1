-- The table of the states that a mode gives.
use Prim.Native.Nat.{ℕ}
use mathlib.Core.Path.{◌≡◌, sym, ap, subst, ◌∙◌}
use mathlib.Core.List.{List}
use lib.ListN.{length}
use Rattle.std.specs.Prelude.{Result, Ok, Err}
use Rattle.rules.specs.Records.{records}
use Rattle.rules.specs.States.{State, Outcome}
use Rattle.rules.specs.Build.{not_built, result_of}
use Rattle.rules.specs.declared.BuildRefusal.{BuildRefusal}
use Rattle.rules.specs.declared.TableSize.{TableSize}
use Rattle.room.specs.Areas.{Room, view}
use Rattle.states.specs.StatesIn.{Placed}
use Rattle.first.specs.Firsts.{FirstsFound}
use Rattle.collection.specs.Collections.{states_to, PlacedTo}
use Rattle.table_records.specs.Result.{TableGiven}
use Rattle.visits.specs.Visits.{Constructs}
use Rattle.builder.specs.Results.{Gives}

module _ (bytes : List ℕ) (promised : Outcome (List State)) (v : Room) (after : List ℕ) (b : Result ℕ BuildRefusal) (by : Constructs bytes promised v (view after) b) where
  pub states_placed : (count : ℕ) → b ≡ Ok count → Placed (length (records bytes)) count (view after)
  unfolding PlacedTo
  states_placed count is = subst (PlacedTo (length (records bytes)) (view after)) is by.placed

  module _ (table : List ℕ) where
    pub none_written : (why : BuildRefusal) → b ≡ Err why → Gives (result_of (records bytes) promised table) (Err why) table
    unfolding result_of not_built states_to
    none_written why is left = ap (λ o. result_of (records bytes) o table left) (sym (ap (states_to (view after)) is) ∙ by.outcome)

    pub states_written : (count : ℕ) → b ≡ Ok count → (answer : Result TableSize BuildRefusal) (written : List ℕ) → TableGiven bytes after count table written answer
        → Gives (result_of (records bytes) promised table) answer written
    unfolding states_to
    states_written count is answer written gives left =
        gives.given left ∙ ap (λ o. result_of (records bytes) o table left) (sym (ap (states_to (view after)) is) ∙ by.outcome)

-- what is past the numbers that the builder takes stays through FIRST and the construction
pub rest_kept : (bytes : List ℕ) (promised : Outcome (List State)) (v w q : Room) (b : Result ℕ BuildRefusal) → FirstsFound (records bytes) v w → Constructs bytes promised w q b → q.rest ≡ v.rest
rest_kept bytes promised v w q b found by = by.only.rest ∙ ap (λ (r : Room). r.rest) found.only.others
