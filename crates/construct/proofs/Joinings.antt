-- Joining a successor: the successor itself, a clone of it, or a new one.
use Prim.Native.Nat.{ℕ, ◌<◌, ◌≤◌}
use mathlib.Core.Path.{◌≡◌, refl, sym, ap, ap₂, ◌∙◌}
use mathlib.Core.Bool.{Bool, true, false}
use mathlib.Core.List.{List}
use native.Mathlib.Omega.{arith}
use lib.ListN.{length}
use borrow.Author.Tests.{eq-eqb, ne_eqb}
use Rattle.std.specs.Prelude.{Result, Ok}
use Rattle.rules.specs.declared.BuildRefusal.{BuildRefusal}
use Rattle.base.specs.Loops.{first_from}
use Rattle.rules.specs.Limits.{limits}
use Rattle.rules.specs.Records.{records}
use Rattle.rules.specs.States.{done}
use Rattle.rules.specs.Merge.{Merge, can_join, joined, patch_links, join_new, with_new}
use Rattle.rules.specs.declared.StateIndex.{StateIndex}
use Rattle.room.specs.Areas.{Room}
use Rattle.states.specs.StatesIn.{PlacedAt}
use Rattle.lane.specs.declared.Lanes.{Lanes}
use Rattle.groups.specs.MergeIn.{merge_in, table_of}
use Rattle.groups.specs.Groups.{Regrouped, OnlyClosure}
use Rattle.groups.proofs.Merged.{merge_count}
use Rattle.clones.specs.Clones.{Patched}
use Rattle.construct.specs.Merges.{OnlyMerge, Mergeable}
use Rattle.construct.specs.Joins.{joining_in, joins_as_clone, Joins, JoinsNew}
use Rattle.construct.specs.declared.Joined.{Joined}
use Rattle.construct.proofs.Changes.{closure_merge, closure_only, closure_ready, regrouped_only, regrouped_ready, patched_merge, patched_only, patched_ready}
use Rattle.construct.proofs.Choices.{tests_stay, clone_other, takes_successor, takes_clone, takes_new}
use Rattle.construct.proofs.Frames.{only_both, table_kept}

-- ---- s and t are joined, in rooms: w before, x with their groups joined, q with the links patched
module _ (bytes : List ℕ) (lanes : Lanes) (s t count : ℕ) (w x : Room) (ready : Mergeable bytes lanes count w) (low : s < count) (next : t < count) (regrouped : Regrouped s t count w x) where
  itself_joined : (successor : ℕ) → t ≡ successor → merge_in x count ≡ joined (records bytes) s successor t (merge_in w count)
  unfolding joined
  itself_joined successor e = rw (eq-eqb t successor e) regrouped.merge

  module _ (successor : ℕ) (q : Room) (patched : Patched (records bytes) s successor t x q) where
    pub clone_joined : (t ≡ successor → ⊥) → merge_in q count ≡ joined (records bytes) s successor t (merge_in w count)
    unfolding joined
    clone_joined ne =
        rw (ne_eqb t successor ne)
        (patched_merge (records bytes) s successor t count x q (regrouped_ready s t count w x regrouped bytes lanes ready).placed low patched
        ∙ ap (patch_links (records bytes) s successor t) regrouped.merge)

    pub clone_ready : Mergeable bytes lanes count q
    clone_ready = patched_ready bytes lanes s successor t count x q low (regrouped_ready s t count w x regrouped bytes lanes ready) patched

    pub clone_only : OnlyMerge w q
    clone_only = only_both w x q (regrouped_only s t count w x regrouped) (patched_only (records bytes) s successor t count x q (regrouped_ready s t count w x regrouped bytes lanes ready).placed low patched)

-- ---- the successor itself, from the room v
module _ (bytes : List ℕ) (lanes : Lanes) (s successor count : ℕ) (v u : Room) (ready : Mergeable bytes lanes count v) (low : s < count) (row : successor < lanes.states) (b : Bool)
    (tested : b ≡ can_join (table_of lanes v) (merge_in v count) s successor) (scratched : OnlyClosure v u) where
  low_successor : successor < count
  low_successor = omega (arith, ready.grouped.rows)

  pub joins_itself : (to : StateIndex) → to.0 ≡ successor → b ≡ true → (q : Room) → Regrouped s successor count u q → Joins bytes lanes s successor count v (Ok (record { state = to; states = count })) q
  unfolding joining_in
  joins_itself to is e q regrouped = record {
    outcome = rw is (ap (λ (m : Merge). done (record { merge = m; state = successor })) (itself_joined bytes lanes s successor count u q (closure_ready v u scratched bytes lanes count ready) low low_successor regrouped successor refl ∙ ap (joined (records bytes) s successor successor) (closure_merge v u scratched count))
        ∙ sym (takes_successor (records bytes) (table_of lanes v) s successor count (merge_in v count) (merge_count v count) (sym tested ∙ e)));
    only = only_both v u q (closure_only v u scratched) (regrouped_only s successor count u q regrouped);
    left = (record { ready = regrouped_ready s successor count u q regrouped bytes lanes (closure_ready v u scratched bytes lanes count ready); grown = omega arith }, rw is low_successor);
  }

  -- not it, but a clone or a new one
  module _ (no : b ≡ false) (w : Room) (again : OnlyClosure u w) (c : ℕ) (first : c ≡ first_from (joins_as_clone (table_of lanes u) (merge_in u count) s successor) count 0) where
    fails : can_join (table_of lanes v) (merge_in v count) s successor ≡ false
    fails = sym tested ∙ no

    first_is : c ≡ first_from (joins_as_clone (table_of lanes v) (merge_in v count) s successor) count 0
    first_is = first ∙ ap (λ (test : ℕ → Bool). first_from test count 0) (tests_stay lanes count s successor v u scratched)

    ready_then : Mergeable bytes lanes count w
    ready_then = closure_ready u w again bytes lanes count (closure_ready v u scratched bytes lanes count ready)

    only_then : OnlyMerge v w
    only_then = only_both v u w (closure_only v u scratched) (closure_only u w again)

    merge_then : merge_in w count ≡ merge_in v count
    merge_then = closure_merge u w again count ∙ closure_merge v u scratched count

    table_then : table_of lanes w ≡ table_of lanes v
    table_then = table_kept v w only_then lanes

    pub then_ready : Mergeable bytes lanes count w
    then_ready = ready_then

    module _ (x : Room) (regrouped : Regrouped s c count w x) (here : c < count) where
      pub then_placed : PlacedAt (length (records bytes)) x s
      then_placed = (regrouped_ready s c count w x regrouped bytes lanes ready_then).placed.each s low

      pub joins_clone : (q : Room) → Patched (records bytes) s successor c x q → Joins bytes lanes s successor count v (Ok (record { state = record { 0 = c }; states = count })) q
      unfolding joining_in
      joins_clone q patched = record {
        outcome = ap (λ (m : Merge). done (record { merge = m; state = c })) (clone_joined bytes lanes s c count w x ready_then low here regrouped successor q patched (clone_other (table_of lanes v) (merge_in v count) s successor count c first_is here) ∙ ap (joined (records bytes) s successor c) merge_then)
            ∙ sym (takes_clone (records bytes) (table_of lanes v) s successor count (merge_in v count) (merge_count v count) fails c first_is here);
        only = only_both v w q only_then (clone_only bytes lanes s c count w x ready_then low here regrouped successor q patched);
        left = (record { ready = clone_ready bytes lanes s c count w x ready_then low here regrouped successor q patched; grown = omega arith }, here);
      }

    pub joins_new : (r : Result Joined BuildRefusal) (q : Room) → count ≤ c → JoinsNew bytes lanes s successor count w r q → Joins bytes lanes s successor count v r q
    joins_new r q over new = record {
      outcome = new.outcome ∙ ap₂ (λ table m. with_new count (join_new limits (records bytes) table s successor m)) table_then merge_then
          ∙ sym (takes_new (records bytes) (table_of lanes v) s successor count (merge_in v count) (merge_count v count) fails c first_is over);
      only = only_both v w q only_then new.only;
      left = new.left;
    }
