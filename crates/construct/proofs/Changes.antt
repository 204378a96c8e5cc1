-- What columns in the slots of the closure, joined groups and patched links make of the merge.
use Prim.Native.Nat.{ℕ, ◌+◌, ◌-◌, ◌<◌, ◌≤◌}
use mathlib.Core.Path.{◌≡◌, refl, sym, ap, ◌∙◌}
use mathlib.Core.List.{List, [], map}
use native.Mathlib.Omega.{arith}
use native.Mathlib.Decide.{dec_le}
use lib.ListN.{length, set}
use Rattle.base.specs.Each.{each_from}
use Rattle.base.proofs.Each.{each_same, each_set}
use Rattle.rules.specs.Records.{Grammar, records}
use Rattle.rules.specs.States.{Entry}
use Rattle.rules.specs.Merge.{patch_links}
use Rattle.room.specs.Areas.{Room, with_sets, with_heads, with_entries}
use Rattle.room.specs.Slots.{entry_slot}
use Rattle.lookahead.specs.Sets.{set_at}
use Rattle.marks.specs.Marks.{walked_in}
use Rattle.states.specs.StatesIn.{entry_in, first_of, state_in, states_in, Placed}
use Rattle.states.proofs.Places.{one_state, placed_same}
use Rattle.states.proofs.States.{state_at, first_same, state_same, entry_same}
use Rattle.lane.specs.declared.Lanes.{Lanes}
use Rattle.groups.specs.MergeIn.{origin_in, head_in, merge_in}
use Rattle.groups.specs.Groups.{Grouped, Regrouped, OnlyClosure}
use Rattle.groups.proofs.Merged.{merge_parts}
use Rattle.groups.proofs.Moves.{map_each}
use Rattle.clones.specs.Clones.{patched_entry, Patched}
use Rattle.construct.specs.Merges.{elsewhere, OnlyMerge, Mergeable}
use Rattle.construct.proofs.Frames.{ready_with}

-- ---- the slots of the closure
module _ (v q : Room) (only : OnlyClosure v q) where
  same_area : {A : Type 0} (f : Room → A) → f (with_sets [] q) ≡ f (with_sets [] v)
  same_area f = ap f only.others

  entry_stays : (k : ℕ) → entry_in q k ≡ entry_in v k
  entry_stays k = entry_same v q k (same_area (λ r. r.entries)) (only.behind (entry_slot k) (omega arith))

  closure_states : (count : ℕ) → states_in q count ≡ states_in v count
  unfolding states_in
  closure_states count =
      let firsts = first_same v q (same_area (λ r. r.first_entries)) in
      each_same (state_in q) (state_in v) 0 count (λ s a b. state_same v q s (firsts s) (firsts (s + 1)) (λ k p. entry_stays k))

  closure_walked : walked_in q ≡ walked_in v
  unfolding walked_in
  closure_walked = same_area walked_in

  pub closure_merge : (count : ℕ) → merge_in q count ≡ merge_in v count
  unfolding merge_in
  closure_merge count =
      merge_parts q count (merge_in v count) (closure_states count) (same_area (λ r. each_from (origin_in r) 0 count)) (same_area (λ r. each_from (head_in r) 0 count)) closure_walked

  pub closure_only : OnlyMerge v q
  closure_only = record { others = ap elsewhere only.others; firsts = λ slot h. only.before slot h; cells = λ slot h. only.behind slot (omega arith) }

  pub closure_ready : (bytes : List ℕ) (lanes : Lanes) (count : ℕ) → Mergeable bytes lanes count v → Mergeable bytes lanes count q
  closure_ready bytes lanes count ready =
      ready_with bytes lanes count v ready q (placed_same _ count v q ready.placed (same_area (λ r. r.first_entries)) (λ k h. ap (λ (e : Entry). e.item) (entry_stays k))) (same_area (λ r. r.origins))

  pub closure_grouped : (lanes : Lanes) (count : ℕ) → Grouped lanes count v → Grouped lanes count q
  closure_grouped lanes count grouped = record { few = grouped.few; narrow = grouped.narrow; rows = grouped.rows; originals = λ s h. rw (same_area (λ r. r.origins)) (grouped.originals s h) }

-- ---- groups joined
module _ (s t count : ℕ) (v q : Room) (regrouped : Regrouped s t count v q) where
  same_but_heads : {A : Type 0} (f : Room → A) → f (with_heads [] q) ≡ f (with_heads [] v)
  same_but_heads f = ap f regrouped.others

  pub regrouped_only : OnlyMerge v q
  regrouped_only = record { others = ap elsewhere regrouped.others; firsts = λ slot h. same_but_heads (λ r. set_at r slot); cells = λ slot h. same_but_heads (λ r. set_at r slot) }

  item_stays : (k : ℕ) → (entry_in q k).item ≡ (entry_in v k).item
  unfolding entry_in
  item_stays k = same_but_heads (λ r. (entry_in r k).item)

  pub regrouped_ready : (bytes : List ℕ) (lanes : Lanes) → Mergeable bytes lanes count v → Mergeable bytes lanes count q
  regrouped_ready bytes lanes ready =
      ready_with bytes lanes count v ready q (placed_same _ count v q ready.placed (same_but_heads (λ r. r.first_entries)) (λ k h. item_stays k)) (same_but_heads (λ r. r.origins))

-- ---- links patched
patched_item : (g : Grammar) (successor clone : ℕ) (e : Entry) → (patched_entry g successor clone e).item ≡ e.item
unfolding patched_entry
patched_item g successor clone e = refl

module _ (g : Grammar) (s successor clone count : ℕ) (v q : Room) (placed : Placed (length g) count v) (low : s < count) (patched : Patched g s successor clone v q) where
  same_but_entries : {A : Type 0} (f : Room → A) → f (with_entries [] q) ≡ f (with_entries [] v)
  same_but_entries f = ap f patched.others

  firsts_are : q.first_entries ≡ v.first_entries
  firsts_are = same_but_entries (λ r. r.first_entries)

  patched_state : state_in q s ≡ map (patched_entry g successor clone) (state_in v s)
  unfolding state_in
  patched_state =
      rw (first_same v q firsts_are s, first_same v q firsts_are (s + 1), map_each (patched_entry g successor clone) (entry_in v) (first_of v s) (first_of v (s + 1) - first_of v s))
      (each_same (entry_in q) (λ k. patched_entry g successor clone (entry_in v k)) (first_of v s) (first_of v (s + 1) - first_of v s) (λ k a b. patched.inside k (record { from = a; to = omega arith })))

  patched_states : states_in q count ≡ set (states_in v count) s (map (patched_entry g successor clone) (state_in v s))
  unfolding states_in
  patched_states =
      let z : 0 + s ≡ s = omega arith in
      each_set (state_in q) (state_in v) 0 count s _ low (ap (state_in q) z ∙ patched_state)
      (λ t a b ne. state_same v q t (first_same v q firsts_are t) (first_same v q firsts_are (t + 1)) (λ k p. patched.outside k (λ here. ne (one_state (length g) count v placed t s k (omega arith) low p here ∙ sym z))))

  walked_stays : walked_in q ≡ walked_in v
  unfolding walked_in
  walked_stays = same_but_entries walked_in

  pub patched_merge : merge_in q count ≡ patch_links g s successor clone (merge_in v count)
  unfolding patch_links merge_in patched_entry
  patched_merge =
      merge_parts q count (patch_links g s successor clone (merge_in v count)) (rw (state_at v count s low) patched_states) (same_but_entries (λ r. each_from (origin_in r) 0 count)) (same_but_entries (λ r. each_from (head_in r) 0 count)) walked_stays

  pub patched_only : OnlyMerge v q
  patched_only = record { others = ap elsewhere patched.others; firsts = λ slot h. same_but_entries (λ r. set_at r slot); cells = λ slot h. same_but_entries (λ r. set_at r slot) }

  item_kept : (k : ℕ) → (entry_in q k).item ≡ (entry_in v k).item
  item_kept k = same (dec_le (first_of v s) k) (dec_le (k + 1) (first_of v (s + 1)))
    where
      same : Dec (first_of v s ≤ k) → Dec (k + 1 ≤ first_of v (s + 1)) → (entry_in q k).item ≡ (entry_in v k).item
      same (yes a) (yes b) = ap (λ (e : Entry). e.item) (patched.inside k (record { from = a; to = omega arith })) ∙ patched_item g successor clone (entry_in v k)
      same (no a) b = ap (λ (e : Entry). e.item) (patched.outside k (λ p. a p.from))
      same (yes a) (no b) = ap (λ (e : Entry). e.item) (patched.outside k (λ p. b (omega (arith, p.to))))

  pub patched_placed : Placed (length g) count q
  patched_placed = placed_same (length g) count v q placed firsts_are (λ k h. item_kept k)

pub patched_ready : (bytes : List ℕ) (lanes : Lanes) (s successor clone count : ℕ) (v q : Room) → s < count → Mergeable bytes lanes count v → Patched (records bytes) s successor clone v q → Mergeable bytes lanes count q
patched_ready bytes lanes s successor clone count v q h ready patched =
    ready_with bytes lanes count v ready q (patched_placed (records bytes) s successor clone count v q ready.placed h patched) (ap (λ (r : Room). r.origins) patched.others)
