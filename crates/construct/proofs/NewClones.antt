-- A new clone of a successor: whether there are numbers and places for it, whether it joins, and the conflicts if it does not.
use Prim.Native.Nat.{ℕ, ◌+◌, ◌-◌, ◌<◌, ◌≤◌}
use mathlib.Core.Path.{◌≡◌, refl, sym, ap, ap₂, ◌∙◌}
use mathlib.Core.Bool.{Bool, true, false, not}
use mathlib.Core.List.{List, [], ◌∷◌, ◌++◌, map}
use native.Mathlib.Omega.{arith}
use lib.ListN.{length, get_or}
use lib.Dec.{leb, ltb}
use borrow.Author.Tests.{not-true, not-false, le-leb, lt-leb, lt-ltb, le-ltb}
use Rattle.std.specs.Prelude.{Ok, Err}
use Rattle.base.specs.Lists.{sum}
use Rattle.rules.specs.Limits.{limits, max_states, max_entries}
use Rattle.rules.specs.Records.{records}
use Rattle.rules.specs.States.{done, refused, item_count, conflict_count}
use Rattle.rules.specs.Merge.{Merge, can_join, clone_state, joined, join_new, with_new}
use Rattle.rules.specs.declared.BuildRefusal.TheVariants.{States as TooManyStates, Items as TooManyItems, Conflicts}
use Rattle.room.specs.Areas.{Room, view}
use Rattle.room.specs.Bounds.{LongEnough}
use Rattle.room.proofs.Lengths.{view_lengths}
use Rattle.states.specs.StatesIn.{first_of, states_in, PlacedAt, Placed}
use Rattle.states.proofs.Places.{firsts_ascend, end_within, item_count_lem}
use Rattle.states.proofs.States.{state_at, entry_count}
use Rattle.lane.specs.declared.Lanes.{Lanes}
use Rattle.groups.specs.MergeIn.{merge_in, table_of}
use Rattle.groups.specs.Groups.{Grouped, Regrouped, OnlyClosure}
use Rattle.groups.proofs.Merged.{merge_count}
use Rattle.clones.specs.Clones.{size_of, Cloneable, Cloned, Patched}
use Rattle.construct.specs.Merges.{OnlyMerge, Mergeable}
use Rattle.construct.specs.Joins.{joining_in, JoinsNew}
use Rattle.construct.proofs.Changes.{closure_merge, closure_only, closure_ready, regrouped_ready}
use Rattle.construct.proofs.Cloning.{cloned_merge, cloned_only, cloned_ready}
use Rattle.construct.proofs.Frames.{state_limit, item_limit, only_none, only_both, table_kept}
use Rattle.construct.proofs.Joinings.{clone_joined, clone_ready, clone_only}

merge_states : (r : Room) (count : ℕ) → (merge_in r count).states ≡ states_in r count
unfolding merge_in
merge_states r count = refl

sum_last : {A : Type 0} (f : A → ℕ) (l : List A) (x : A) → sum (map f (l ++ (x ∷ []))) ≡ sum (map f l) + f x
unfolding sum
sum_last f [] x = omega arith
sum_last f (y ∷ l) x = omega (arith, sum_last f l x)

-- ---- a new clone, from the room w
module _ (bytes : List ℕ) (lanes : Lanes) (s successor count : ℕ) (w : List ℕ) (ready : Mergeable bytes lanes count (view w)) (low : s < count) (next : successor < count) where
  pub new_full : max_states ≤ count → JoinsNew bytes lanes s successor count (view w) (Err TooManyStates) (view w)
  unfolding joining_in join_new with_new
  new_full full = record {
    outcome = rw (le-leb limits.states (length (merge_in (view w) count).states) (omega (arith, state_limit, merge_count (view w) count)));
    only = only_none (view w);
    left = tt;
  }

  pub size_ordered : first_of (view w) successor ≤ first_of (view w) (successor + 1)
  size_ordered = (ready.placed.each successor next).ordered

  pub size_bounded : first_of (view w) (successor + 1) ≤ max_entries
  size_bounded = (ready.placed.each successor next).bounded

  pub end_bounded : first_of (view w) count ≤ max_entries
  end_bounded = end_within (length (records bytes)) count (view w) ready.placed

  items_total : item_count (clone_state successor (merge_in (view w) count)).states ≡ first_of (view w) count + size_of (view w) successor
  unfolding item_count clone_state merge_in
  items_total =
      sum_last length (states_in (view w) count) (get_or (states_in (view w) count) successor [])
      ∙ ap₂ ◌+◌ (item_count_lem (length (records bytes)) count (view w) ready.placed) (ap length (state_at (view w) count successor next) ∙ entry_count (view w) successor)

  module _ (more : count < max_states) (first end at : ℕ) (is-first : first ≡ first_of (view w) successor) (is_end : end ≡ first_of (view w) (successor + 1)) (is_at : at ≡ first_of (view w) count) where
    states_fit : leb limits.states (length (merge_in (view w) count).states) ≡ false
    states_fit = lt-leb limits.states (length (merge_in (view w) count).states) (omega (arith, state_limit, merge_count (view w) count))

    total : first_of (view w) count + size_of (view w) successor ≡ at + (end - first)
    total = rw (is-first, is_end, is_at)

    pub new_crowded : max_entries < at + (end - first) → JoinsNew bytes lanes s successor count (view w) (Err TooManyItems) (view w)
    unfolding joining_in join_new with_new
    new_crowded crowded = record {
      outcome = rw (states_fit, lt-ltb limits.items (item_count (clone_state successor (merge_in (view w) count)).states) (omega (arith, item_limit, items_total, total)));
      only = only_none (view w);
      left = tt;
    }

    module _ (fit : at + (end - first) ≤ max_entries) where
      pub new_able : Cloneable successor count (view w)
      new_able = record {
        state = next;
        more = more;
        ordered = size_ordered;
        before = firsts_ascend (length (records bytes)) count (view w) ready.placed (successor + 1) count (omega arith) (omega arith);
        fits = omega (arith, total);
      }

      items_fit : ltb limits.items (item_count (clone_state successor (merge_in (view w) count)).states) ≡ false
      items_fit = le-ltb limits.items (item_count (clone_state successor (merge_in (view w) count)).states) (omega (arith, item_limit, items_total, total))

      module _ (fits : LongEnough w) (u : Room) (cloned : Cloned successor count (view w) u) where
        pub new_ready : Mergeable bytes lanes (count + 1) u
        new_ready = cloned_ready bytes lanes successor count w u fits ready new_able cloned

        pub new_grouped : Grouped lanes (count + 1) u
        new_grouped = new_ready.grouped

        new_merge : merge_in u (count + 1) ≡ clone_state successor (merge_in (view w) count)
        new_merge = cloned_merge (length (records bytes)) successor count (view w) u ready.placed (view_lengths w fits) new_able cloned

        new_only : OnlyMerge (view w) u
        new_only = cloned_only (length (records bytes)) successor count (view w) u ready.placed (view_lengths w fits) new_able cloned

        module _ (b : Bool) (z : Room) (tested : b ≡ can_join (table_of lanes u) (merge_in u (count + 1)) s count) (scratched : OnlyClosure u z) where
          joins_is : can_join (table_of lanes (view w)) (clone_state successor (merge_in (view w) count)) s (length (merge_in (view w) count).states) ≡ b
          joins_is = rw (merge_count (view w) count, ← new_merge, ← table_kept (view w) u new_only lanes) (sym tested)

          pub tested_ready : Mergeable bytes lanes (count + 1) z
          tested_ready = closure_ready u z scratched bytes lanes (count + 1) new_ready

          pub tested_placed : Placed (length (records bytes)) (count + 1) z
          tested_placed = tested_ready.placed

          only_tested : OnlyMerge (view w) z
          only_tested = only_both (view w) u z new_only (closure_only u z scratched)

          merge_tested : merge_in z (count + 1) ≡ clone_state successor (merge_in (view w) count)
          merge_tested = closure_merge u z scratched (count + 1) ∙ new_merge

          pub new_fails : not b ≡ true → (n : ℕ) → n ≡ conflict_count (records bytes) (states_in z (count + 1)) → JoinsNew bytes lanes s successor count (view w) (Err (Conflicts n)) z
          unfolding joining_in join_new with_new
          new_fails failed n is = record {
            outcome = rw (states_fit, items_fit, joins_is ∙ not-true b failed) (ap (λ k. refused (Conflicts k)) (is ∙ ap (conflict_count (records bytes)) (sym (merge_states z (count + 1)) ∙ ap (λ (m : Merge). m.states) merge_tested)));
            only = only_tested;
            left = tt;
          }

          module _ (x : Room) (regrouped : Regrouped s count (count + 1) z x) where
            last : count < count + 1
            last = omega arith

            within : s < count + 1
            within = omega arith

            pub new_placed : PlacedAt (length (records bytes)) x s
            new_placed = (regrouped_ready s count (count + 1) z x regrouped bytes lanes tested_ready).placed.each s within

            pub new_joins : not b ≡ false → (q : Room) → Patched (records bytes) s successor count x q → JoinsNew bytes lanes s successor count (view w) (Ok (record { state = record { 0 = count }; states = count + 1 })) q
            unfolding joining_in join_new with_new
            new_joins joining q patched = record {
              outcome = rw (states_fit, items_fit, joins_is ∙ not-false b joining)
                  (ap (λ (m : Merge). done (record { merge = m; state = count })) (clone_joined bytes lanes s count (count + 1) z x tested_ready within last regrouped successor q patched (λ e. omega arith) ∙ ap (joined (records bytes) s successor count) merge_tested)
                  ∙ ap (λ (k : ℕ). done (record { merge = joined (records bytes) s successor k (clone_state successor (merge_in (view w) count)); state = count })) (sym (merge_count (view w) count)));
              only = only_both (view w) z q only_tested (clone_only bytes lanes s count (count + 1) z x tested_ready within last regrouped successor q patched);
              left = (record { ready = clone_ready bytes lanes s count (count + 1) z x tested_ready within last regrouped successor q patched; grown = omega arith }, last);
            }
