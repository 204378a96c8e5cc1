-- Who takes columns: a state takes those of its group, and the inconsistent state and its clones do so one after the other.
use Prim.Native.Nat.{ℕ, ◌+◌, ◌<◌, ◌≤◌}
use mathlib.Core.Path.{◌≡◌, refl, sym, ap, ◌∙◌}
use mathlib.Core.Logic.{◌⊎◌, inl, inr}
use mathlib.Core.Bool.{Bool, true, false, not, ◌&&◌}
use mathlib.Core.List.{List, ◌∷◌}
use native.Mathlib.Omega.{arith}
use lib.ListN.{length}
use lib.Dec.{eqb}
use borrow.Author.Tests.{eq-eqb, ne_eqb}
use Rattle.base.specs.Lists.{up_to, keep, fold_over}
use Rattle.base.proofs.ListLoops.{kept, kept_start, kept_fold_turn, kept_fold_end}
use Rattle.rules.specs.Limits.{max_nonterminals, max_entries}
use Rattle.rules.specs.States.{State}
use Rattle.rules.specs.Lanes.{Action, LaneTable}
use Rattle.rules.specs.Merge.{Merge, head_of, clones_of, group_columns, take_all}
use Rattle.room.specs.Areas.{Room}
use Rattle.room.specs.Slots.{closure_slot}
use Rattle.context_set.specs.Columns.{columns_at, Columned}
use Rattle.states.specs.StatesIn.{states_in}
use Rattle.lane.specs.declared.Lanes.{Lanes}
use Rattle.groups.specs.MergeIn.{origin_in, head_in, merge_in, table_of}
use Rattle.groups.specs.Groups.{gathered}
use Rattle.groups.proofs.Members.{columns_none, columns_both}
use Rattle.groups.proofs.Merged.{merge_count, origin_at, head_at}
use Rattle.groups.proofs.Tested.{gathered_group, closure_only}
use Rattle.construct.specs.Merges.{Mergeable}
use Rattle.construct.proofs.Changes.{closure_merge}
use Rattle.takings.specs.Takes.{Enclosed, Taken}
use Rattle.merging.specs.Takes.{group_taken, is_clone_of, actions_for, OnlyTaken, TakesGroup, TakesClone, TakesAll}
use Rattle.merging.proofs.Takings.{encloses, taken_states, taken_only, gathered_only, taken_elsewhere, taken_placed, actions_kept, clones_kept, group_kept}

pub none_taken : (v : Room) → OnlyTaken v v
none_taken v = columns_none (closure_slot 0) (max_nonterminals + max_entries) v

pub taken_both : (u v w : Room) → OnlyTaken u v → OnlyTaken v w → OnlyTaken u w
taken_both u v w p q = columns_both (closure_slot 0) (max_nonterminals + max_entries) u v w p q

-- ---- the columns of a state's group
module _ (bytes : List ℕ) (lanes : Lanes) (t count group at : ℕ) (v u : Room) (ready : Mergeable bytes lanes count v) (low : t < count) (slot : at ≡ closure_slot 0)
    (columns : Columned at lanes.columns (gathered lanes.columns count group v) v u) where
  gathering : OnlyTaken v u
  gathering = gathered_only at lanes.columns v u (omega arith) (omega (arith, ready.grouped.narrow)) columns.only

  pub gathered_encloses : Enclosed u t
  gathered_encloses = encloses _ u t ((taken_placed v u gathering _ count ready.placed).each t low)

  states_stay : states_in u count ≡ states_in v count
  unfolding merge_in
  states_stay = ap (λ (m : Merge). m.states) (closure_merge v u (closure_only at lanes.columns v u (omega arith) (omega (arith, ready.grouped.narrow)) columns.only) count)

  module _ (is : group ≡ head_in v t) where
    group_columns_lem : columns_at u at lanes.columns ≡ group_columns (table_of lanes v) (merge_in v count) (head_of (merge_in v count) t)
    group_columns_lem =
        columns.are ∙ gathered_group lanes count v ready.grouped group (omega (arith, ready.grouped.originals t low)) ∙ ap (group_columns (table_of lanes v) (merge_in v count)) (is ∙ sym (head_at v count t low))

    pub group_takes : (q : Room) → Taken lanes.columns at t u q → TakesGroup lanes t count v q
    unfolding group_taken
    group_takes q taken = record {
      states = taken_states lanes.columns at t u q taken _ count (taken_placed v u gathering _ count ready.placed) low ∙ rw (states_stay, group_columns_lem, actions_kept v u (taken_elsewhere v u gathering) lanes);
      only = taken_both v u q gathering (taken_only lanes.columns at t u q taken);
    }

-- ---- a clone of the state
module _ (lanes : Lanes) (s t count o : ℕ) (v : Room) (low : t < count) (is : o ≡ origin_in v t) where
  tested : (b d : Bool) → eqb o s ≡ b → eqb t s ≡ d → is_clone_of (merge_in v count) s t ≡ (b && not d)
  unfolding is_clone_of
  tested b d e f = rw (origin_at v count t low, ← is, e, f)

  none_takes : is_clone_of (merge_in v count) s t ≡ false → TakesClone lanes s t count v v
  none_takes e = record { states = rw e; only = none_taken v }

  pub no_clone : (o ≡ s) × (t ≡ s) ⊎ (o ≡ s → ⊥) → TakesClone lanes s t count v v
  no_clone (inl same) = none_takes (tested true true (eq-eqb o s same.0) (eq-eqb t s same.1))
  no_clone (inr ne) = none_takes (tested false (eqb t s) (ne_eqb o s ne) refl)

  pub clone_takes : (q : Room) → o ≡ s → (t ≡ s → ⊥) → TakesGroup lanes t count v q → TakesClone lanes s t count v q
  clone_takes q from ne takes = record { states = rw (tested true false (eq-eqb o s from) (ne_eqb t s ne)) takes.states; only = takes.only }

-- ---- the loop over the clones
-- what is left of it from state t on, where u is the room in which it began
unfoldable pub take_rest : Lanes → ℕ → ℕ → Room → ℕ → List State → List State
take_rest lanes s count u t states = fold_over (group_taken (table_of lanes u) (actions_for lanes u) (merge_in u count)) (kept (is_clone_of (merge_in u count) s) count t) states

pub take_turn : (lanes : Lanes) (s count t : ℕ) (u q z : Room) (x : List State) → OnlyTaken u q → take_rest lanes s count u t (states_in q count) ≡ x → t < count → TakesClone lanes s t count q z
    → take_rest lanes s count u (t + 1) (states_in z count) ≡ x
unfolding take_rest
take_turn lanes s count t u q z x only left h takes =
    kept_fold_turn (is_clone_of (merge_in u count) s) (group_taken (table_of lanes u) (actions_for lanes u) (merge_in u count)) count t (states_in q count) x (states_in z count) h left
    (takes.states ∙ rw (clones_kept u q only count s t, group_kept u q only count lanes t (states_in q count)))

-- ---- all of them
rest_ends : (lanes : Lanes) (s count t : ℕ) (u : Room) (states x : List State) → count ≤ t → take_rest lanes s count u t states ≡ x → states ≡ x
unfolding take_rest
rest_ends lanes s count t u states x over left =
    kept_fold_end (is_clone_of (merge_in u count) s) (group_taken (table_of lanes u) (actions_for lanes u) (merge_in u count)) count t states x over left

all_take : (table : LaneTable) (actions : List Action) (s : ℕ) (m : Merge) → take_all table actions s m ≡ fold_over (group_taken table actions m) (s ∷ keep (is_clone_of m s) (up_to (length m.states))) m.states
unfolding take_all clones_of group_taken is_clone_of
all_take table actions s m = refl

module _ (lanes : Lanes) (s count : ℕ) (v u : Room) (first : TakesGroup lanes s count v u) where
  same_steps : group_taken (table_of lanes u) (actions_for lanes u) (merge_in u count) ≡ group_taken (table_of lanes v) (actions_for lanes v) (merge_in v count)
  same_steps = λ i t states. group_kept v u first.only count lanes t states i

  same_clones : is_clone_of (merge_in u count) s ≡ is_clone_of (merge_in v count) s
  same_clones = λ i c. clones_kept v u first.only count s c i

  as_defined : fold_over (group_taken (table_of lanes v) (actions_for lanes v) (merge_in v count)) (s ∷ keep (is_clone_of (merge_in v count) s) (up_to count)) (states_in v count) ≡ take_all (table_of lanes v) (actions_for lanes v) s (merge_in v count)
  unfolding merge_in
  as_defined =
      ap (λ (n : ℕ). fold_over (group_taken (table_of lanes v) (actions_for lanes v) (merge_in v count)) (s ∷ keep (is_clone_of (merge_in v count) s) (up_to n)) (states_in v count)) (sym (merge_count v count))
      ∙ sym (all_take (table_of lanes v) (actions_for lanes v) s (merge_in v count))

  rest_whole : take_rest lanes s count u 0 (states_in u count) ≡ take_all (table_of lanes v) (actions_for lanes v) s (merge_in v count)
  unfolding take_rest fold_over
  rest_whole = rw (same_steps, same_clones, kept_start (is_clone_of (merge_in v count) s) count, first.states) as_defined

  pub take_ends : (t : ℕ) (q : Room) → OnlyTaken u q → take_rest lanes s count u t (states_in q count) ≡ take_rest lanes s count u 0 (states_in u count) → count ≤ t → TakesAll lanes s count v q
  take_ends t q only left over = record {
    states = rest_ends lanes s count t u (states_in q count) _ over left ∙ rest_whole;
    only = taken_both v u q first.only only;
  }
