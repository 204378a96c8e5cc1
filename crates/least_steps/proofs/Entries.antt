-- The entries with their least sets: where they are read, and rooms with the same ones.
use Prim.Native.Nat.{ℕ, zero, suc, ◌+◌, ◌-◌, ◌<◌, ◌≤◌}
use mathlib.Core.Path.{◌≡◌, refl, sym, ap, ◌∙◌}
use mathlib.Core.List.{[], ◌∷◌, map}
use native.Mathlib.Omega.{arith}
use lib.ListN.{length, get_or, set, get_or-eq_default}
use Rattle.base.specs.Each.{each_from}
use Rattle.base.proofs.Each.{each_at, each_same, each_set}
use Rattle.base.proofs.EachLeft.{each_length}
use Rattle.rules.specs.Tokens.{TokenSet}
use Rattle.rules.specs.States.{State}
use Rattle.rules.specs.FinalCheck.{with_set}
use Rattle.room.specs.Areas.{Room}
use Rattle.lookahead.specs.Sets.{set_at, put_set}
use Rattle.lookahead.proofs.Slots.{put_there}
use Rattle.states.specs.StatesIn.{entry_in, first_of}
use Rattle.states.proofs.States.{first_same}
use Rattle.least_steps.specs.Least.{least_slot, least_entry, least_run, least_state, least_in}

pub map_each : {A B : Type 0} (f : A → B) (h : ℕ → A) (i n : ℕ) → map f (each_from h i n) ≡ each_from (λ k. f (h k)) i n
unfolding each_from
map_each f h i zero = refl
map_each f h i (suc n) = ap (λ l. f (h i) ∷ l) (map_each f h (suc i) n)

module _ (r : Room) where
  pub least_item : (k : ℕ) → (least_entry r k).item ≡ (entry_in r k).item
  unfolding least_entry
  least_item k = refl

  pub least_next : (k : ℕ) → (least_entry r k).next ≡ (entry_in r k).next
  unfolding least_entry
  least_next k = refl

  pub least_set : (k : ℕ) → (least_entry r k).set ≡ set_at r (least_slot k)
  unfolding least_entry
  least_set k = refl

  pub least_run_lem : (s : ℕ) → least_state r s ≡ least_run r (first_of r s) (first_of r (s + 1))
  unfolding least_state
  least_run_lem s = refl

  pub least_length : (count : ℕ) → length (least_in r count) ≡ count
  unfolding least_in
  least_length count = each_length (least_state r) 0 count

  pub least_at : (count s : ℕ) → s < count → get_or (least_in r count) s [] ≡ least_state r s
  unfolding least_in
  least_at count s h = let e : 0 + s ≡ s = omega arith in each_at (least_state r) 0 count s [] h ∙ ap (least_state r) e

  pub least_past : (count s : ℕ) → count ≤ s → get_or (least_in r count) s [] ≡ []
  least_past count s h = get_or-eq_default (least_in r count) [] (omega (arith, least_length count))

-- ---- two rooms
module _ (v q : Room) where
  pub least_same : (k : ℕ) → q.entries ≡ v.entries → set_at q (least_slot k) ≡ set_at v (least_slot k) → least_entry q k ≡ least_entry v k
  unfolding least_entry entry_in
  least_same k entries slot = rw (entries, slot)

  pub least_put : (k : ℕ) (s : TokenSet) → q ≡ put_set (least_slot k) s v → least_slot k < length v.sets → least_entry q k ≡ with_set s (least_entry v k)
  unfolding least_entry entry_in
  least_put k s put h =
      let e : set_at q (least_slot k) ≡ s = put_there v q (least_slot k) s put h in
      let d : q.entries ≡ v.entries = ap (λ (r : Room). r.entries) put in
      rw (e, d)

  pub least_state_same : (s : ℕ) → q.first_entries ≡ v.first_entries → ((k : ℕ) → first_of v s ≤ k → k < first_of v (s + 1) → least_entry q k ≡ least_entry v k)
      → least_state q s ≡ least_state v s
  unfolding least_state
  least_state_same s firsts same = rw (first_same v q firsts s, first_same v q firsts (s + 1)) (each_same (least_entry q) (least_entry v) (first_of v s) (first_of v (s + 1) - first_of v s) (λ k h g. same k h (omega arith)))

  pub same_items : (k : ℕ) → q.entries ≡ v.entries → (entry_in q k).item ≡ (entry_in v k).item
  unfolding entry_in
  same_items k entries = rw entries

  -- one state differs
  pub least_set_one : (count s : ℕ) (x : State) → s < count → least_state q s ≡ x → ((t : ℕ) → t < count → (t ≡ s → ⊥) → least_state q t ≡ least_state v t)
      → least_in q count ≡ set (least_in v count) s x
  unfolding least_in
  least_set_one count s x h there elsewhere =
      let at : 0 + s ≡ s = omega arith in
      each_set (least_state q) (least_state v) 0 count s x h (ap (least_state q) at ∙ there) (λ t f g ne. elsewhere t (omega arith) (λ e. ne (e ∙ sym at)))

  pub least_states_same : (count : ℕ) → ((s : ℕ) → s < count → least_state q s ≡ least_state v s) → least_in q count ≡ least_in v count
  unfolding least_in
  least_states_same count same = each_same (least_state q) (least_state v) 0 count (λ s h g. same s (omega arith))
