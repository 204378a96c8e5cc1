-- Where the entries of the states lie, and that they stay there.
use Prim.Native.Nat.{ℕ, zero, suc, ◌+◌, ◌*◌, ◌-◌, ◌<◌, ◌≤◌}
use mathlib.Core.Path.{◌≡◌, refl, ap, ◌∙◌}
use mathlib.Core.List.{List, [], map}
use native.Mathlib.Omega.{arith}
use native.Mathlib.Numerals.{add-one}
use native.Mathlib.Decide.{ℕ_discrete, dec_le}
use lib.ListN.{length, get_or, get_or-eq_default}
use Rattle.base.specs.Among.{Among}
use Rattle.base.specs.Each.{each_from}
use Rattle.base.specs.Lists.{sum}
use Rattle.base.proofs.Each.{each_same}
use Rattle.base.proofs.EachLeft.{each_among}
use Rattle.base.proofs.Lists.{among_none}
use Rattle.base.proofs.Members.{map_among}
use Rattle.rules.specs.Limits.{max_entries}
use Rattle.rules.specs.Records.{records}
use Rattle.rules.specs.States.{Entry, item_count}
use Rattle.rules.proofs.Laws.{length_records}
use Rattle.room.specs.Areas.{Room}
use Rattle.room.specs.Bounds.{IsEntry}
use Rattle.states.specs.StatesIn.{entry_in, first_of, state_in, states_in, PlaceOf, PlacedRun, PlacedAt, Placed}
use Rattle.states.proofs.States.{states_length, state_at, entry_count, first_same, state_same}

module _ (record_count count : ℕ) (r : Room) (placed : Placed record_count count r) where
  pub placed_at : (s : ℕ) → s < count → PlacedAt record_count r s
  placed_at s h = placed.each s h

  pub place_in_area : (s k : ℕ) → s < count → PlaceOf r s k → IsEntry k
  place_in_area s k h p = omega (arith, (placed.each s h).bounded)

  -- ---- the places ascend with the states
  ascending : (a n : ℕ) → a + n ≤ count → first_of r a ≤ first_of r (a + n)
  ascending a zero h = let e : a ≡ a + 0 = omega arith in rw (← e) (omega arith)
  ascending a (suc n) h =
      let q = ascending a n (omega arith) in
      let p = (placed.each (a + n) (omega arith)).ordered in
      let e : a + n + 1 ≡ a + suc n = omega arith in
      rw (← e) (omega arith)

  pub firsts_ascend : (a b : ℕ) → a ≤ b → b ≤ count → first_of r a ≤ first_of r b
  firsts_ascend a b h g = let e : a + (b - a) ≡ b = omega arith in rw e at (ascending a (b - a) (omega arith))

  -- so a place is one of one state alone
  pub one_state : (s t k : ℕ) → s < count → t < count → PlaceOf r s k → PlaceOf r t k → s ≡ t
  one_state s t k h g p q = elim (ℕ_discrete s t) [
    | yes e ↦ e
    | no ne ↦ elim (dec_le (s + 1) t) [
      | yes l ↦ absurd (omega (arith, firsts_ascend (s + 1) t l (omega arith)))
      | no l ↦ absurd (omega (arith, firsts_ascend (t + 1) s (omega arith) (omega arith)))
    ]
  ]

  -- ---- the place behind the last entry
  pub end_within : first_of r count ≤ max_entries
  end_within = go count refl
    where
      go : (n : ℕ) → n ≡ count → first_of r n ≤ max_entries
      go zero e = omega (arith, placed.begins)
      go (suc n) e = rw add-one at (placed.each n (omega arith)).bounded

  -- is the number of the entries
  count_from : (s n : ℕ) → s + n ≤ count → sum (map length (each_from (state_in r) s n)) + first_of r s ≡ first_of r (s + n)
  unfolding sum each_from
  count_from s zero h = let e : s + 0 ≡ s = omega arith in rw e (omega arith)
  count_from s (suc n) h =
      let later = count_from (suc s) n (omega arith) in
      let here : length (state_in r s) ≡ first_of r (suc s) - first_of r s = rw add-one at (entry_count r s) in
      let rise : first_of r s ≤ first_of r (suc s) = rw add-one at (placed.each s (omega arith)).ordered in
      let e : suc s + n ≡ s + suc n = omega arith in
      rw (← e) (omega arith)

  pub item_count_lem : item_count (states_in r count) ≡ first_of r count
  unfolding item_count states_in
  item_count_lem =
      let z : 0 + count ≡ count = omega arith in
      let e : item_count (states_in r count) + first_of r 0 ≡ first_of r count = rw z at (count_from 0 count (omega arith)) in
      omega (arith, placed.begins)

  -- ---- every item of a state is one of the records
  state_recorded : (s i : ℕ) → s < count → Among i (map (λ (e : Entry). e.item) (state_in r s)) → i < record_count
  unfolding state_in
  state_recorded s i h m =
      let (e, k, q) = map_among (λ (e : Entry). e.item) (each_from (entry_in r) (first_of r s) (first_of r (s + 1) - first_of r s)) m in
      let (j, f, g, p) = each_among (entry_in r) (first_of r s) (first_of r (s + 1) - first_of r s) k in
      let z : i ≡ (entry_in r j).item = q ∙ ap (λ (x : Entry). x.item) p in
      rw z ((placed.each s h).recorded j f (omega arith))

  pub items_recorded : (s i : ℕ) → Among i (map (λ (e : Entry). e.item) (get_or (states_in r count) s [])) → i < record_count
  items_recorded s i m = elim (dec_le count s) [
    | yes h ↦ (let e : get_or (states_in r count) s [] ≡ [] = get_or-eq_default (states_in r count) [] (omega (arith, states_length r count)) in absurd (among_none (rw e at m)))
    | no h ↦ state_recorded s i (omega arith) (rw (state_at r count s (omega arith)) at m)
  ]

-- a part of a run, and a run whose places are known by other names
pub run_behind : (record_count : ℕ) (r : Room) (first k end : ℕ) → PlacedRun record_count r first end → first ≤ k → k < end → PlacedRun record_count r k end
run_behind record_count r first k end run h g = record { ordered = omega arith; bounded = run.bounded; recorded = λ j f l. run.recorded j (omega arith) l }

pub run_read : (record_count : ℕ) (r : Room) (s first end : ℕ) → PlacedAt record_count r s → first ≡ first_of r s → end ≡ first_of r (s + 1) → PlacedRun record_count r first end
run_read record_count r s first end placed p q = rw (p, q) placed

-- an item of a run lies within the bytes of the grammar
pub item_fits : (bytes : List ℕ) (r : Room) (first end k i : ℕ) → PlacedRun (length (records bytes)) r first end → first ≤ k → k < end → i ≡ (entry_in r k).item → 8 * i + 8 ≤ length bytes
item_fits bytes r first end k i run h g is = omega (arith, is, run.recorded k h g, length_records bytes)

-- ---- a room with the same places
pub run_placed : (record_count : ℕ) (v q : Room) (first end : ℕ) → ((k : ℕ) → first ≤ k → k < end → (entry_in q k).item ≡ (entry_in v k).item)
    → PlacedRun record_count v first end → PlacedRun record_count q first end
run_placed record_count v q first end same run = record {
  ordered = run.ordered;
  bounded = run.bounded;
  recorded = λ k h g. rw (same k h g) (run.recorded k h g);
}

-- what lies behind the last state may differ
module _ (record_count count : ℕ) (v q : Room) (placed : Placed record_count count v) where
  module _ (firsts : (s : ℕ) → s ≤ count → first_of q s ≡ first_of v s) where
    before_end : (s k : ℕ) → s < count → k < first_of v (s + 1) → k < first_of v count
    before_end s k h g = omega (arith, firsts_ascend record_count count v placed (s + 1) count (omega arith) (omega arith))

    pub placed_kept : ((k : ℕ) → k < first_of v count → (entry_in q k).item ≡ (entry_in v k).item) → Placed record_count count q
    placed_kept same = record {
      few = placed.few;
      begins = firsts 0 (omega arith) ∙ placed.begins;
      each = λ s h. rw (firsts s (omega arith), firsts (s + 1) (omega arith)) (run_placed record_count v q _ _ (λ k f g. same k (before_end s k h g)) (placed.each s h));
    }

    pub states_kept : ((k : ℕ) → k < first_of v count → entry_in q k ≡ entry_in v k) → states_in q count ≡ states_in v count
    unfolding states_in
    states_kept same =
        each_same (state_in q) (state_in v) 0 count
        (λ s h g. state_same v q s (firsts s (omega arith)) (firsts (s + 1) (omega arith)) (λ k p. same k (before_end s k (omega arith) p.to)))

  module _ (firsts : q.first_entries ≡ v.first_entries) where
    pub placed_same : ((k : ℕ) → k < first_of v count → (entry_in q k).item ≡ (entry_in v k).item) → Placed record_count count q
    placed_same same = placed_kept (λ s h. first_same v q firsts s) same

    pub states_same : ((k : ℕ) → k < first_of v count → entry_in q k ≡ entry_in v k) → states_in q count ≡ states_in v count
    states_same same = states_kept (λ s h. first_same v q firsts s) same
