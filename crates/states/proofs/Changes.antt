-- What a change of one entry makes of the states: another next state, or another set.
use Prim.Native.Nat.{ℕ, ◌+◌, ◌-◌, ◌<◌}
use mathlib.Core.Path.{◌≡◌, refl, sym, ap, ◌∙◌}
use native.Mathlib.Omega.{arith}
use native.Mathlib.Decide.{ℕ_discrete}
use lib.ListN.{get_or, set}
use lib.Seq.{get_or-set_same, get_or-set_other}
use Rattle.base.proofs.Each.{each_set}
use Rattle.rules.specs.declared.StateIndex.{StateIndex}
use Rattle.rules.specs.Tokens.{TokenSet}
use Rattle.rules.specs.States.{Entry}
use Rattle.room.specs.Areas.{Room, put_entry}
use Rattle.room.specs.Bounds.{IsState, IsEntry}
use Rattle.packed.specs.Packed.{IsPart, packed, low}
use Rattle.room.specs.Slots.{entry_slot}
use Rattle.room.proofs.Lengths.{Lengths}
use Rattle.packed.proofs.Packs.{low_packed, middle_packed}
use Rattle.lookahead.specs.Sets.{set_at, put_set}
use Rattle.lookahead.proofs.Slots.{put_there, put_elsewhere}
use Rattle.states.specs.StatesIn.{entry_in, first_of, state_in, states_in, PlaceOf, Placed, put_next}
use Rattle.states.proofs.Entries.{item_small}
use Rattle.states.proofs.States.{first_same, entry_same, state_same}
use Rattle.states.proofs.Places.{place_in_area, end_within, one_state, placed_same}

-- ---- one entry differs
module _ (record_count count : ℕ) (v q : Room) (placed : Placed record_count count v) (firsts : q.first_entries ≡ v.first_entries)
    (s k : ℕ) (e : Entry) (state : s < count) (place : PlaceOf v s k) (there : entry_in q k ≡ e) (elsewhere : (j : ℕ) → (j ≡ k → ⊥) → entry_in q j ≡ entry_in v j) where
  state_set : state_in q s ≡ set (state_in v s) (k - first_of v s) e
  unfolding state_in
  state_set =
      let at : first_of v s + (k - first_of v s) ≡ k = omega arith in
      rw (first_same v q firsts s, first_same v q firsts (s + 1))
      (each_set (entry_in q) (entry_in v) (first_of v s) (first_of v (s + 1) - first_of v s) (k - first_of v s) e (omega arith) (ap (entry_in q) at ∙ there) (λ j h g ne. elsewhere j (λ w. ne (w ∙ sym at))))

  states_set : states_in q count ≡ set (states_in v count) s (set (state_in v s) (k - first_of v s) e)
  unfolding states_in
  states_set =
      let at : 0 + s ≡ s = omega arith in
      each_set (state_in q) (state_in v) 0 count s (set (state_in v s) (k - first_of v s) e) state (ap (state_in q) at ∙ state_set)
      (λ t h g ne. state_same v q t (first_same v q firsts t) (first_same v q firsts (t + 1)) (λ j p. elsewhere j (λ w. ne (one_state record_count count v placed t s k (omega arith) state (rw w at p) place ∙ sym at))))

-- ---- item and next state of an entry are stored
module _ (v q : Room) (k : ℕ) where
  pub stored_there : (item next : ℕ) → Lengths v → IsEntry k → IsPart item → IsPart next → q ≡ put_entry k (packed item next 0) v
      → entry_in q k ≡ record { item = item; next = next; set = (entry_in v k).set }
  unfolding entry_in
  stored_there item next sized h i n put =
      let e : get_or (set v.entries k (packed item next 0)) k 0 ≡ packed item next 0 = get_or-set_same v.entries k (packed item next 0) 0 (omega (arith, sized.entries_length)) in
      rw (put, e, low_packed item next 0 i n, middle_packed item next 0 i n)

  pub stored_elsewhere : (word j : ℕ) → q ≡ put_entry k word v → (j ≡ k → ⊥) → entry_in q j ≡ entry_in v j
  unfolding entry_in
  stored_elsewhere word j put ne = let e : get_or (set v.entries k word) j 0 ≡ get_or v.entries j 0 = get_or-set_other v.entries k j word 0 ne in rw (put, e)

-- ---- the entry at place k leads to another state
pub next_there : (k : ℕ) (next : StateIndex) (v q : Room) → Lengths v → IsState next → q ≡ put_next k next v → IsEntry k
    → entry_in q k ≡ record { item = (entry_in v k).item; next = next.0; set = (entry_in v k).set }
next_there k next v q sized small put h = stored_there v q k _ _ sized h (item_small v k _ refl) (omega arith) put

module _ (record_count count k : ℕ) (next : StateIndex) (v q : Room) (placed : Placed record_count count v) (sized : Lengths v) (small : IsState next) (put : q ≡ put_next k next v) where
  firsts_stay : q.first_entries ≡ v.first_entries
  firsts_stay = ap (λ (r : Room). r.first_entries) put

  pub next_states : (s : ℕ) → s < count → PlaceOf v s k
      → states_in q count ≡ set (states_in v count) s (set (state_in v s) (k - first_of v s) (record { item = (entry_in v k).item; next = next.0; set = (entry_in v k).set }))
  next_states s h place =
      states_set record_count count v q placed firsts_stay s k _ h place (next_there k next v q sized small put (place_in_area record_count count v placed s k h place)) (λ j. stored_elsewhere v q k _ j put)

  pub next_placed : Placed record_count count q
  next_placed = placed_same record_count count v q placed firsts_stay (λ j h. same j (omega (arith, end_within record_count count v placed)) (ℕ_discrete j k))
    where
      same : (j : ℕ) → IsEntry j → Dec (j ≡ k) → (entry_in q j).item ≡ (entry_in v j).item
      same j h (yes e) = rw e (ap (λ (x : Entry). x.item) (next_there k next v q sized small put (rw e at h)))
      same j h (no ne) = ap (λ (x : Entry). x.item) (stored_elsewhere v q k _ j put ne)

-- ---- a set is put into the slot of the entry at place k
module _ (v q : Room) (k : ℕ) (tokens : TokenSet) (put : q ≡ put_set (entry_slot k) tokens v) where
  pub slot_there : Lengths v → IsEntry k → entry_in q k ≡ record { item = (entry_in v k).item; next = (entry_in v k).next; set = tokens }
  unfolding entry_in
  slot_there sized h =
      let e : set_at q (entry_slot k) ≡ tokens = put_there v q (entry_slot k) tokens put (omega (arith, sized.sets_length)) in
      let d : q.entries ≡ v.entries = ap (λ (r : Room). r.entries) put in
      rw (e, d)

  pub slot_elsewhere : (j : ℕ) → (j ≡ k → ⊥) → entry_in q j ≡ entry_in v j
  slot_elsewhere j ne = entry_same v q j (ap (λ (r : Room). r.entries) put) (put_elsewhere v q (entry_slot k) tokens put (entry_slot j) (λ w. ne (omega arith)))

  pub set_states : (record_count count s : ℕ) → Placed record_count count v → Lengths v → s < count → PlaceOf v s k
      → states_in q count ≡ set (states_in v count) s (set (state_in v s) (k - first_of v s) (record { item = (entry_in v k).item; next = (entry_in v k).next; set = tokens }))
  set_states record_count count s placed sized h place =
      states_set record_count count v q placed (ap (λ (r : Room). r.first_entries) put) s k _ h place (slot_there sized (place_in_area record_count count v placed s k h place)) slot_elsewhere

-- a set in any slot moves no entry
pub set_placed : (record_count count : ℕ) (v q : Room) (slot : ℕ) (tokens : TokenSet) → Placed record_count count v → q ≡ put_set slot tokens v → Placed record_count count q
unfolding entry_in
set_placed record_count count v q slot tokens placed put = placed_same record_count count v q placed (ap (λ (r : Room). r.first_entries) put) (λ k h. ap (λ (r : Room). low (get_or r.entries k 0)) put)
