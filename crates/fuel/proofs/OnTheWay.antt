-- What the construction meets is within the limit, its items are records of the grammar, and its sets have no token over n.
use Prim.Native.Nat.{ℕ, ◌+◌, ◌^◌, ◌<◌}
use mathlib.Core.Path.{◌≡◌}
use mathlib.Core.Logic.{⊎_elim}
use mathlib.Core.Bool.{Bool, true, false}
use mathlib.Core.List.{List, [], map}
use native.Mathlib.Omega.{arith}
use lib.ListN.{length, get_or}
use Rattle.base.specs.Pick.{pick}
use Rattle.base.specs.Among.{Among, All}
use Rattle.base.specs.Lists.{is_empty, keep}
use Rattle.base.proofs.Lists.{among_none, among_cons, keep_among}
use Rattle.base.proofs.Members.{among_append, map_among, all_at}
use Rattle.rules.specs.Limits.{Limits}
use Rattle.rules.specs.Records.{Grammar}
use Rattle.rules.specs.Tokens.{TokenSet, all}
use Rattle.rules.specs.Grammar.{Symbol, is_before, at_end, terminal_count}
use Rattle.rules.specs.First.{first_sets}
use Rattle.rules.specs.States.{Entry, State, Follow, entry_of, closure, kernel_over, lead, Collection, expand_next, lr0_states, reductions, shifts}
use Rattle.rules.specs.Lanes.{shift, reduce, shift_conflicts, reduce_conflicts, conflicting_actions, actions_at}
use Rattle.rules.specs.Merge.{resolve}
use Rattle.knuth.proofs.Closures.{FollowsNarrow, closure_in_range}
use Rattle.knuth.proofs.Kernels.{closure_entry}
use Rattle.traces.specs.Recorded.{Recorded, AllRecorded}
use Rattle.walks.proofs.Expand.{AllStates, KeptOfStates, next_keeps, begun_keeps}
use Rattle.walks.proofs.Outcomes.{holds_done}
use Rattle.walks.proofs.Recorded.{states_recorded, resolve_recorded}
use Rattle.fuel.specs.OnTheWay.{CollectionMet, first, next, StatesMet}
use Rattle.fuel.proofs.States.{states_few}
use Rattle.fuel.proofs.Visits.{Few, resolve_few}

-- ---- the sets of kernels
module _ (l : Limits) (g : Grammar) (follow : Follow) (narrow : FollowsNarrow g follow) where
  abbrev n : ℕ
  n = terminal_count g

  -- no set of the state has a token over n
  abbrev pub NarrowState : State → Type 0
  NarrowState = All (λ (e : Entry). e.set < 2 ^ (n + 1))

  closure_narrow : (kernel : State) → NarrowState kernel → NarrowState (closure g follow kernel)
  unfolding entry_of
  closure_narrow kernel h e m = ⊎_elim (h e) (λ (i, k, q, some). rw q ((closure_in_range g follow narrow kernel h).1 _)) (closure_entry g follow kernel e m)

  moved_narrow : (x : Symbol) (state : State) → NarrowState state → NarrowState (kernel_over g x state)
  unfolding kernel_over
  moved_narrow x state h e m =
      let (f, k, q) = map_among (λ (e : Entry). record { item = e.item + 1; next = 0; set = e.set }) _ m in
      rw q (h f (keep_among (λ (e : Entry). is_before g x e.item) state k).0)

  lead_narrow : (x : Symbol) (s : ℕ) (state : State) → NarrowState state → NarrowState (lead g x s state)
  unfolding lead
  lead_narrow x s state h e m =
      let (f, k, q) = map_among (λ (e : Entry). record { item = e.item; next = pick (is_before g x e.item) s e.next; set = e.set }) state m in
      rw q (h f k)

  kept_narrow : KeptOfStates g follow NarrowState
  kept_narrow = record { none = λ e m. absurd (among_none m); closing = closure_narrow; moving = moved_narrow; leading = lead_narrow }

  met_narrow : (s : TokenSet) → s < 2 ^ (n + 1) → {c : Collection} → CollectionMet l g follow s c → AllStates NarrowState c
  met_narrow s b first = begun_keeps l g follow NarrowState kept_narrow s (λ e m. ⊎_elim (λ q. rw q b) (λ k. absurd (among_none k)) (among_cons m))
  met_narrow s b (next {c} {c'} met more q) =
      holds_done (AllStates NarrowState) c' (expand_next l g follow c) q (next_keeps l g follow NarrowState kept_narrow c (met_narrow s b met))

  -- so of the kernel that is closed next
  pub next_narrow : (s : TokenSet) → s < 2 ^ (n + 1) → (c : Collection) → CollectionMet l g follow s c → NarrowState (get_or c.kernels (length c.states) [])
  next_narrow s b c met = all_at NarrowState c.kernels (length c.states) [] (met_narrow s b met).0 kept_narrow.none

-- ---- the states of lane mode
module _ (l : Limits) (g : Grammar) where
  pub met_few : 0 < l.states → {s : ℕ} {states : List State} → StatesMet l g s states → Few l g states
  unfolding lr0_states
  met_few room (first {states} q) = holds_done (Few l g) states (lr0_states l g) q (states_few l g (λ xs s. s) room (all (terminal_count g)))
  met_few room (next {s} {states} {states'} met b q) = holds_done (Few l g) states' (resolve l g (first_sets g) s states) q (resolve_few l g (first_sets g) s states b (met_few room met))

  pub met_recorded : 0 < length g → {s : ℕ} {states : List State} → StatesMet l g s states → AllRecorded g states
  unfolding lr0_states
  met_recorded some (first {states} q) = holds_done (AllRecorded g) states (lr0_states l g) q (states_recorded g l (λ xs s. s) some (all (terminal_count g)))
  met_recorded some (next {s} {states} {states'} met b q) =
      holds_done (AllRecorded g) states' (resolve l g (first_sets g) s states) q (resolve_recorded g l (first_sets g) s states (met_recorded some met))

-- ---- the reductions among the actions of a state are items of it
module _ (g : Grammar) (state : State) (i : ℕ) where
  abbrev ItsItem : Type 0
  ItsItem = (e : Entry) × Among e state × (i ≡ e.item)

  reduction_item : (entries : List Entry) → ((e : Entry) → Among e entries → Among e (reductions g state)) → Among (reduce i) (map (λ (e : Entry). reduce e.item) entries) → ItsItem
  unfolding reductions
  reduction_item entries within m =
      let (e, k, q) = map_among (λ (e : Entry). reduce e.item) entries m in
      (e, (keep_among (λ (e : Entry). at_end g e.item) state (within e k)).0, (let z : i ≡ e.item = cc in z))

  no_shift : (ts : List ℕ) → Among (reduce i) (map shift ts) → ⊥
  no_shift ts m = let (t, k, q) = map_among shift ts m in let z : ◌≡◌ {A = ℕ} 0 1 = cc in omega arith

  conflicting_item : Among (reduce i) (conflicting_actions g state) → ItsItem
  unfolding conflicting_actions
  conflicting_item m =
      let shifting : List ℕ = keep (shift_conflicts (reductions g state)) (shifts g state) in
      let reducing : List Entry = keep (reduce_conflicts (shifts g state) (reductions g state)) (reductions g state) in
      ⊎_elim (λ k. absurd (no_shift shifting k))
      (reduction_item reducing (λ e k. (keep_among (reduce_conflicts (shifts g state) (reductions g state)) (reductions g state) k).0))
      (among_append (map shift shifting) m)

  action_item : Among (reduce i) (actions_at g state) → ItsItem
  unfolding actions_at
  action_item m = by_test (is_empty (conflicting_actions g state)) m
    where
      by_test : (b : Bool) → Among (reduce i) (pick b (map (λ (e : Entry). reduce e.item) (reductions g state)) (conflicting_actions g state)) → ItsItem
      by_test true m = reduction_item (reductions g state) (λ e k. k) m
      by_test false m = conflicting_item m

  pub action_recorded : Recorded g state → Among (reduce i) (actions_at g state) → i < length g
  action_recorded recorded m = let (e, k, q) = action_item m in rw q (recorded e k)
