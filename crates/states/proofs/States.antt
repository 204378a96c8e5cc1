-- The states in the room: how many there are, what their entries are, and rooms with the same states.
use Prim.Native.Nat.{ℕ, ◌+◌, ◌-◌, ◌<◌, ◌≤◌}
use mathlib.Core.Path.{◌≡◌, refl, ap, ◌∙◌}
use mathlib.Core.List.{List, [], ◌∷◌, ◌++◌}
use native.Mathlib.Omega.{arith}
use lib.ListN.{length, get_or}
use Rattle.base.specs.Each.{each_from}
use Rattle.base.proofs.Each.{each_at, each_same}
use Rattle.base.proofs.EachLeft.{each_length, each_moved, each_last}
use Rattle.rules.specs.States.{Entry}
use Rattle.room.specs.Areas.{Room}
use Rattle.room.specs.Slots.{entry_slot}
use Rattle.lookahead.specs.Sets.{set_at}
use Rattle.states.specs.StatesIn.{entry_in, run_in, first_of, state_in, states_in, PlaceOf}

-- ---- the states
module _ (r : Room) (count : ℕ) where
  pub states_length : length (states_in r count) ≡ count
  unfolding states_in
  states_length = each_length (state_in r) 0 count

  pub state_at : (s : ℕ) → s < count → get_or (states_in r count) s [] ≡ state_in r s
  unfolding states_in
  state_at s h = let e : 0 + s ≡ s = omega arith in each_at (state_in r) 0 count s [] h ∙ ap (state_in r) e

  pub states_more : states_in r (count + 1) ≡ states_in r count ++ (state_in r count ∷ [])
  unfolding states_in
  states_more = let e : 0 + count ≡ count = omega arith in each_last (state_in r) 0 count ∙ ap (λ (s : ℕ). each_from (state_in r) 0 count ++ (state_in r s ∷ [])) e

-- ---- their entries
module _ (r : Room) where
  pub state_run : (s : ℕ) → state_in r s ≡ run_in r (first_of r s) (first_of r (s + 1))
  unfolding state_in
  state_run s = refl

  pub entry_count : (s : ℕ) → length (state_in r s) ≡ first_of r (s + 1) - first_of r s
  unfolding state_in
  entry_count s = each_length (entry_in r) (first_of r s) (first_of r (s + 1) - first_of r s)

  pub entry_of_state : (s k : ℕ) (d : Entry) → PlaceOf r s k → get_or (state_in r s) (k - first_of r s) d ≡ entry_in r k
  unfolding state_in
  entry_of_state s k d p =
      let e : first_of r s + (k - first_of r s) ≡ k = omega arith in
      each_at (entry_in r) (first_of r s) (first_of r (s + 1) - first_of r s) (k - first_of r s) d (omega arith) ∙ ap (entry_in r) e

-- the set of an entry lies in its slot
pub set_of_lem : (r : Room) (k : ℕ) → (entry_in r k).set ≡ set_at r (entry_slot k)
unfolding entry_in
set_of_lem r k = refl

-- ---- two rooms with the same entries
pub entry_same : (v q : Room) (k : ℕ) → q.entries ≡ v.entries → set_at q (entry_slot k) ≡ set_at v (entry_slot k) → entry_in q k ≡ entry_in v k
unfolding entry_in
entry_same v q k entries slot = rw (entries, slot)

module _ (v q : Room) where
  pub run_same : (first end : ℕ) → ((k : ℕ) → first ≤ k → k < end → entry_in q k ≡ entry_in v k) → run_in q first end ≡ run_in v first end
  run_same first end same = each_same (entry_in q) (entry_in v) first (end - first) (λ k h g. same k h (omega arith))

  -- at other places: a run that was copied
  pub run_copied : (first end to : ℕ) → ((k : ℕ) → k < end - first → entry_in q (to + k) ≡ entry_in v (first + k)) → run_in q to (to + (end - first)) ≡ run_in v first end
  run_copied first end to same =
      let e : to + (end - first) - to ≡ end - first = omega arith in
      rw e (each_moved (entry_in q) (entry_in v) to first (end - first) same)

  pub first_same : q.first_entries ≡ v.first_entries → (s : ℕ) → first_of q s ≡ first_of v s
  first_same firsts s = ap (λ (l : List ℕ). get_or l s 0) firsts

  pub state_same : (s : ℕ) → first_of q s ≡ first_of v s → first_of q (s + 1) ≡ first_of v (s + 1) → ((k : ℕ) → PlaceOf v s k → entry_in q k ≡ entry_in v k) → state_in q s ≡ state_in v s
  unfolding state_in
  state_same s first end same = rw (first, end) (run_same (first_of v s) (first_of v (s + 1)) (λ k h g. same k (record { from = h; to = g })))
