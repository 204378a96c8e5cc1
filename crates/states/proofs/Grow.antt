-- A state more: what is written behind the last state leaves the states, and then counts as one of them. So states are added when a
-- collection is built, and cloned when lanes are merged.
use Prim.Native.Nat.{ℕ, ◌+◌, ◌-◌, ◌<◌, ◌≤◌}
use mathlib.Core.Path.{◌≡◌, ap, ap₂, ◌∙◌}
use mathlib.Core.List.{List, [], ◌∷◌, ◌++◌}
use native.Mathlib.Omega.{arith}
use native.Mathlib.Decide.{ℕ_discrete}
use lib.ListN.{get_or, set}
use lib.Seq.{get_or-set_same, get_or-set_other}
use Rattle.base.proofs.EachLeft.{each_last}
use Rattle.rules.specs.declared.StateIndex.{StateIndex}
use Rattle.rules.specs.Tokens.{TokenSet}
use Rattle.rules.specs.States.{Entry, State}
use Rattle.room.specs.Areas.{Room}
use Rattle.room.specs.Bounds.{IsState, IsEntry, IsItem}
use Rattle.packed.specs.Packed.{IsPart, packed}
use Rattle.room.specs.Slots.{entry_slot}
use Rattle.room.proofs.Lengths.{Lengths}
use Rattle.packed.proofs.Packs.{low_packed, middle_packed}
use Rattle.lookahead.specs.Sets.{load_set, store_set, set_at}
use Rattle.lookahead.proofs.Slots.{load_stored, load_other}
use Rattle.states.specs.StatesIn.{entry_in, run_in, first_of, state_in, states_in, PlacedRun, Placed, write_entry, end_state}
use Rattle.states.proofs.States.{states_more, state_run, run_same}
use Rattle.states.proofs.Places.{run_placed, placed_kept, states_kept, placed_same, states_same}

-- ---- an entry is written at place k
module _ (k item : ℕ) (s : TokenSet) (v q : Room) (put : q ≡ write_entry k item s v) where
  pub appended_there : Lengths v → IsEntry k → IsItem item → entry_in q k ≡ record { item = item; next = 0; set = s }
  unfolding entry_in
  appended_there sized h small =
      let small-part : IsPart item = omega arith in
      let word : get_or (set v.entries k (packed item 0 0)) k 0 ≡ packed item 0 0 = get_or-set_same v.entries k (packed item 0 0) 0 (omega (arith, sized.entries_length)) in
      let slot : load_set (store_set (entry_slot k) s v.sets) (entry_slot k) ≡ s = load_stored v.sets (entry_slot k) s (omega (arith, sized.sets_length)) in
      rw (put, word, slot, low_packed item 0 0 small-part (omega arith), middle_packed item 0 0 small-part (omega arith))

  pub appended_elsewhere : (j : ℕ) → (j ≡ k → ⊥) → entry_in q j ≡ entry_in v j
  unfolding entry_in
  appended_elsewhere j ne =
      let word : get_or (set v.entries k (packed item 0 0)) j 0 ≡ get_or v.entries j 0 = get_or-set_other v.entries k j (packed item 0 0) 0 ne in
      let slot : load_set (store_set (entry_slot k) s v.sets) (entry_slot j) ≡ set_at v (entry_slot j) = load_other v.sets (entry_slot k) s (entry_slot j) (λ e. ne (omega arith)) in
      rw (put, word, slot)

  -- a run that ends there has one entry more
  module _ (first : ℕ) where
    pub appended_run : Lengths v → IsEntry k → IsItem item → first ≤ k → run_in q first (k + 1) ≡ run_in v first k ++ (record { item = item; next = 0; set = s } ∷ [])
    appended_run sized h small l =
        let size : k + 1 - first ≡ k - first + 1 = omega arith in
        let at : first + (k - first) ≡ k = omega arith in
        let before : run_in q first k ≡ run_in v first k = run_same v q first k (λ j f g. appended_elsewhere j (λ e. omega arith)) in
        rw size (each_last (entry_in q) first (k - first) ∙ ap₂ (λ (run : State) (e : Entry). run ++ (e ∷ [])) before (ap (entry_in q) at ∙ appended_there sized h small))

    pub appended_placed_run : (record_count : ℕ) → Lengths v → IsEntry k → IsItem item → item < record_count → PlacedRun record_count v first k → PlacedRun record_count q first (k + 1)
    appended_placed_run record_count sized h small l run = record {
      ordered = omega (arith, run.ordered);
      bounded = omega arith;
      recorded = λ j f g. elim (ℕ_discrete j k) [
        | yes e ↦ rw (e, ap (λ (x : Entry). x.item) (appended_there sized h small)) l
        | no ne ↦ rw (ap (λ (x : Entry). x.item) (appended_elsewhere j ne)) (run.recorded j f (omega arith))
      ];
    }

  -- behind the last state it leaves the states
  module _ (record_count count : ℕ) (placed : Placed record_count count v) (behind : first_of v count ≤ k) where
    pub appended_states : states_in q count ≡ states_in v count
    appended_states = states_same record_count count v q placed (ap (λ (r : Room). r.first_entries) put) (λ j h. appended_elsewhere j (λ e. omega arith))

    pub appended_placed : Placed record_count count q
    appended_placed = placed_same record_count count v q placed (ap (λ (r : Room). r.first_entries) put) (λ j h. ap (λ (x : Entry). x.item) (appended_elsewhere j (λ e. omega arith)))

-- ---- the run behind the last state becomes a state
module _ (record_count : ℕ) (state : StateIndex) (end : ℕ) (v q : Room) (sized : Lengths v) (small : IsState state) (placed : Placed record_count state.0 v) (put : q ≡ end_state state end v) where
  entries_stay : (k : ℕ) → entry_in q k ≡ entry_in v k
  unfolding entry_in
  entries_stay k = rw put

  firsts_stay : (s : ℕ) → s ≤ state.0 → first_of q s ≡ first_of v s
  firsts_stay s h = rw put (get_or-set_other v.first_entries (state.0 + 1) s end 0 (λ e. omega arith))

  ends_there : first_of q (state.0 + 1) ≡ end
  ends_there = rw put (get_or-set_same v.first_entries (state.0 + 1) end 0 (omega (arith, sized.first_entries_length_lem)))

  new_state : state_in q state.0 ≡ run_in v (first_of v state.0) end
  new_state =
      state_run q state.0 ∙ ap₂ (run_in q) (firsts_stay state.0 (omega arith)) ends_there ∙ run_same v q (first_of v state.0) end (λ k h g. entries_stay k)

  pub ended_states : states_in q (state.0 + 1) ≡ states_in v state.0 ++ (run_in v (first_of v state.0) end ∷ [])
  ended_states =
      states_more q state.0
      ∙ ap₂ (λ (states : List State) (last : State). states ++ (last ∷ [])) (states_kept record_count state.0 v q placed firsts_stay (λ k h. entries_stay k)) new_state

  pub ended_placed : PlacedRun record_count v (first_of v state.0) end → Placed record_count (state.0 + 1) q
  ended_placed run = record {
    few = omega arith;
    begins = firsts_stay 0 (omega arith) ∙ placed.begins;
    each = λ s h. elim (ℕ_discrete s state.0) [
      | yes e ↦ rw (e, firsts_stay state.0 (omega arith), ends_there) (run_placed record_count v q _ _ (λ k f g. ap (λ (x : Entry). x.item) (entries_stay k)) run)
      | no ne ↦ (placed_kept record_count state.0 v q placed firsts_stay (λ k g. ap (λ (x : Entry). x.item) (entries_stay k))).each s (omega arith)
    ];
  }
