-- The items of every state that the construction makes are records of the grammar, in both modes.
use Prim.Native.Nat.{ℕ, ◌+◌, ◌<◌}
use mathlib.Core.Path.{◌≡◌, refl}
use mathlib.Core.Logic.{⊎_elim}
use mathlib.Core.Bool.{not}
use mathlib.Core.List.{List, [], map}
use lib.ListN.{length, get_or, set}
use borrow.Author.Tests.{not-true}
use Rattle.base.specs.Among.{Among}
use Rattle.base.proofs.Lists.{among_none, among_cons, keep_among, up_to_among_lem}
use Rattle.base.proofs.Members.{among_append, map_among, all_added, all_set}
use Rattle.base.proofs.Tests.{both_true}
use Rattle.rules.specs.Limits.{Limits}
use Rattle.rules.proofs.Laws.{not_at_end_within}
use Rattle.rules.specs.Records.{Grammar}
use Rattle.rules.specs.Tokens.{TokenSet, is_empty_set}
use Rattle.rules.specs.Grammar.{Symbol, at_start, at_end, is_before, left_sides}
use Rattle.rules.specs.First.{Sets}
use Rattle.rules.specs.States.{Entry, State, Follow, entry_of, closure_sets, closure, kernel_over, lead, states_from}
use Rattle.rules.specs.Lanes.{Action, LaneTable, lane_table}
use Rattle.rules.specs.Merge.{Merge, join_groups, clone_state, patch_links, mark_walked, walk, take_column, take_columns, merge_begun, resolve}
use Rattle.traces.specs.Recorded.{Recorded, AllRecorded}
use Rattle.traces.proofs.Trace.{at_recorded}
use Rattle.walks.proofs.Expand.{KeptOfStates, states_keep}
use Rattle.walks.proofs.Outcomes.{Holds}
use Rattle.walks.proofs.Resolve.{resolve_keeps}
use Rattle.walks.proofs.Walk.{steps_keep}

module _ (g : Grammar) where
  -- what is made of a state entry by entry, with the same items
  same_items_recorded : (change : Entry → Entry) → ((e : Entry) → (change e).item ≡ e.item) → (state : State) → Recorded g state → Recorded g (map change state)
  same_items_recorded change same state h e m =
      let (f, k, q) = map_among change state m in
      rw (q, same f) (h f k)

  -- ---- the collection
  pub moved_recorded : (x : Symbol) (state : State) → Recorded g (kernel_over g x state)
  unfolding kernel_over is_before
  moved_recorded x state e m =
      let (f, k, q) = map_among (λ (e : Entry). record { item = e.item + 1; next = 0; set = e.set }) _ m in
      let (_, before) = keep_among (λ (e : Entry). is_before g x e.item) state k in
      rw q (not_at_end_within g f.item (not-true _ (both_true (not (at_end g f.item)) _ before).0))

  left_side_within : (i : ℕ) → Among i (left_sides g) → i < length g
  unfolding left_sides
  left_side_within i m = (up_to_among_lem i (length g)).0 (keep_among (at_start g) _ m).0

  pub closure_recorded : (follow : Follow) (kernel : State) → Recorded g kernel → Recorded g (closure g follow kernel)
  unfolding closure entry_of
  closure_recorded follow kernel h e m =
      ⊎_elim (h e)
      (λ k. let (j, _) = keep_among (λ (e : Entry). not (is_empty_set e.set)) _ k in
      let (i, p, q) = map_among (entry_of g (closure_sets g follow kernel)) (left_sides g) j in
      rw q (left_side_within i p))
      (among_append kernel m)

  lead_recorded : (x : Symbol) (s : ℕ) (state : State) → Recorded g state → Recorded g (lead g x s state)
  unfolding lead
  lead_recorded x s state h = same_items_recorded _ (λ e. refl) state h

  kept_recorded : (follow : Follow) → KeptOfStates g follow (Recorded g)
  kept_recorded follow = record { none = λ e m. absurd (among_none m); closing = closure_recorded follow; moving = λ x state h. moved_recorded x state; leading = lead_recorded }

  pub states_recorded : (l : Limits) (follow : Follow) → 0 < length g → (s : TokenSet) → Holds (AllRecorded g) (states_from l g follow s)
  states_recorded l follow some s =
      states_keep l g follow (Recorded g) (kept_recorded follow) s (λ e m. ⊎_elim (λ q. rw q some) (λ k. absurd (among_none k)) (among_cons m))

  -- ---- lane mode: clones, links and sets leave the items as they are
  abbrev MergeRecorded : Merge → Type 0
  MergeRecorded m = AllRecorded g m.states

  links_recorded : (s successor clone : ℕ) (m : Merge) → MergeRecorded m → MergeRecorded (patch_links g s successor clone m)
  unfolding patch_links
  links_recorded s successor clone m h =
      all_set (Recorded g) m.states s _ h (same_items_recorded _ (λ e. refl) (get_or m.states s []) (at_recorded g m.states s h))

  clone_recorded : (s : ℕ) (m : Merge) → MergeRecorded m → MergeRecorded (clone_state s m)
  unfolding clone_state
  clone_recorded s m h = all_added (Recorded g) m.states (get_or m.states s []) h (at_recorded g m.states s h)

  take_recorded : (states : List State) (t : ℕ) (actions : List Action) (columns : List TokenSet) → AllRecorded g states
      → AllRecorded g (set states t (take_columns actions columns (get_or states t [])))
  unfolding take_columns take_column
  take_recorded states t actions columns h =
      all_set (Recorded g) states t _ h (same_items_recorded (take_column actions columns) (λ e. refl) (get_or states t []) (at_recorded g states t h))

  module _ (l : Limits) where
    walk_recorded : (table : LaneTable) (fuel s : ℕ) (m : Merge) → MergeRecorded m → Holds MergeRecorded (walk l g table fuel s m)
    unfolding mark_walked join_groups
    walk_recorded = steps_keep l g MergeRecorded (λ s m h. h) (λ s t m h. h) links_recorded clone_recorded

    pub resolve_recorded : (sets : Sets) (s : ℕ) (states : List State) → AllRecorded g states → Holds (AllRecorded g) (resolve l g sets s states)
    unfolding merge_begun
    resolve_recorded sets s states h =
        resolve_keeps l g (AllRecorded g) MergeRecorded take_recorded (λ m k. k) states (λ k. k) sets s (λ actions. walk_recorded (lane_table g sets states s actions) (l.states + 1)) h
