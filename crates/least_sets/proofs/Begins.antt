-- The least sets at the beginning, and that the rounds from there are those of the states.
use Prim.Native.Nat.{ℕ, ◌+◌, ◌*◌, ◌-◌, ◌<◌, ◌≤◌}
use mathlib.Core.Path.{◌≡◌, sym, ap, ◌∙◌}
use mathlib.Core.List.{List, map}
use native.Mathlib.Omega.{arith}
use lib.ListN.{length, get_or, replicate}
use Rattle.base.specs.Loops.{until}
use Rattle.base.proofs.Each.{each_at, each_same}
use Rattle.base.proofs.Lists.{at_replicate}
use Rattle.rules.specs.Limits.{max_entries}
use Rattle.rules.specs.Records.{records}
use Rattle.rules.specs.Tokens.{TokenSet, eof}
use Rattle.rules.specs.Grammar.{terminal_count}
use Rattle.rules.specs.First.{first_sets}
use Rattle.rules.specs.States.{State, item_count}
use Rattle.rules.specs.FinalCheck.{with_set, give_at, least_settled, least_round, least_begun, least_sets}
use Rattle.room.specs.Areas.{Room}
use Rattle.room.specs.Bounds.{slot_count}
use Rattle.room.specs.Slots.{hand_slot}
use Rattle.lookahead.specs.Sets.{load_set, set_at, put_set}
use Rattle.lookahead.proofs.Slots.{put_there}
use Rattle.context_set.specs.Columns.{Columned}
use Rattle.states.specs.StatesIn.{entry_in, first_of, state_in, states_in, Placed}
use Rattle.states.proofs.States.{states_length, first_same}
use Rattle.states.proofs.Places.{firsts_ascend, end_within, item_count_lem}
use Rattle.least_steps.specs.declared.give.Receivers.TheVariants.{Item}
use Rattle.least_steps.specs.Least.{least_slot, least_entry, least_state, least_in, OnlyLeast, LeastCleared}
use Rattle.least_steps.specs.Giving.{is_given}
use Rattle.least_steps.proofs.Entries.{map_each}
use Rattle.least_steps.proofs.Frames.{hand_least, only_hand, only_both}
use Rattle.least_sets.specs.Steps.{Ready}
use Rattle.least_sets.proofs.Frames.{ready_only}

-- ---- the slots from the first least set on are cleared, as many as there are entries
module _ (count first entries : ℕ) (v q : Room) (from : first ≡ least_slot 0) (is : entries ≡ first_of v count) (cleared : Columned first entries (replicate entries 0) v q) where
  empty_slot : (k : ℕ) → k < first_of v count → set_at q (least_slot k) ≡ 0
  empty_slot k h =
      let e : first + k ≡ least_slot k = omega arith in
      ap (set_at q) (sym e) ∙ sym (each_at (load_set q.sets) first entries k 0 (omega arith)) ∙ ap (λ (l : List TokenSet). get_or l k 0) cleared.are ∙ at_replicate entries 0 k

  pub least_cleared : LeastCleared count v q
  least_cleared = record {
    only = record { others = cleared.only.others; words = cleared.only.words; slots = λ slot h. cleared.only.before slot (omega arith) };
    empty = empty_slot;
  }

pub entries_fit : (bytes : List ℕ) (count : ℕ) (r : Room) → Ready bytes count r → first_of r count ≤ max_entries
entries_fit bytes count r ready = end_within (length (records bytes)) count r ready.placed

-- ---- so every entry of the states has an empty least set
module _ (bytes : List ℕ) (count : ℕ) (v p : Room) (ready : Ready bytes count v) (cleared : LeastCleared count v p) where
  empty_entry : (k : ℕ) → k < first_of v count → least_entry p k ≡ with_set 0 (entry_in v k)
  unfolding least_entry entry_in
  empty_entry k h =
      let words : p.entries ≡ v.entries = ap (λ (r : Room). r.entries) cleared.only.others in
      rw (cleared.empty k h, words)

  empty_state : (s : ℕ) → s < count → least_state p s ≡ map (with_set 0) (state_in v s)
  unfolding least_state state_in
  empty_state s h =
      let firsts : p.first_entries ≡ v.first_entries = ap (λ (r : Room). r.first_entries) cleared.only.others in
      let below = firsts_ascend (length (records bytes)) count v ready.placed (s + 1) count (omega arith) (omega arith) in
      rw (first_same v p firsts s, first_same v p firsts (s + 1))
      (each_same (least_entry p) (λ k. with_set 0 (entry_in v k)) (first_of v s) (first_of v (s + 1) - first_of v s) (λ k f g. empty_entry k (omega arith))
      ∙ sym (map_each (with_set 0) (entry_in v) (first_of v s) (first_of v (s + 1) - first_of v s)))

  all_empty : least_in p count ≡ map (map (with_set 0)) (states_in v count)
  unfolding least_in states_in
  all_empty =
      each_same (least_state p) (λ s. map (with_set 0) (state_in v s)) 0 count (λ s f g. empty_state s (omega arith))
      ∙ sym (map_each (map (with_set 0)) (state_in v) 0 count)

  -- ---- Eof is in the set at hand
  module _ (hand n : ℕ) (q : Room) (at-hand : hand ≡ hand_slot) (put : q ≡ put_set hand (eof n) p) where
    pub eof_only : OnlyLeast v q
    eof_only = only_both v p q cleared.only (only_hand p q hand (eof n) at-hand put)

    pub eof_placed : Placed (length (records bytes)) count q
    eof_placed = (ready_only bytes count v ready q eof_only).placed

    -- the start item of state 0 is given it
    pub begun : (l : List State) → length v.sets ≡ slot_count → n ≡ terminal_count (records bytes)
        → l ≡ give_at 0 (is_given (records bytes) (Item 0)) (set_at q hand_slot) (least_in q count) → l ≡ least_begun (records bytes) (states_in v count)
    unfolding least_begun is_given
    begun l size named e =
        let long : hand < length p.sets = omega (arith, cleared.only.words) in
        let in_hand : set_at q hand_slot ≡ eof n = ap (set_at q) (sym at-hand) ∙ put_there p q hand (eof n) put long in
        let still-empty : least_in q count ≡ map (map (with_set 0)) (states_in v count) =
        hand_least p q hand (eof n) at-hand put (length (records bytes)) count (ready_only bytes count v ready p cleared.only).placed ∙ all_empty in
        rw (← named, ← in_hand, ← still-empty) e

-- ---- from the beginning on, the rounds
pub rounds_found : (bytes : List ℕ) (n count : ℕ) (v q : Room) (l : List State) → Ready bytes count v → OnlyLeast v q → n ≡ terminal_count (records bytes)
    → least_in q count ≡ least_begun (records bytes) (states_in v count)
    → l ≡ until (least_settled (records bytes) (first_sets (records bytes)) count) (least_round (records bytes) (first_sets (records bytes)) count) (first_of q count * (n + 1)) (least_in q count)
    → l ≡ least_sets (records bytes) (first_sets (records bytes)) (states_in v count)
unfolding least_sets
rounds_found bytes n count v q l ready only named begins e =
    let firsts : q.first_entries ≡ v.first_entries = ap (λ (r : Room). r.first_entries) only.others in
    let items : first_of q count * (n + 1) ≡ item_count (states_in v count) * (terminal_count (records bytes) + 1) =
    rw (item_count_lem (length (records bytes)) count v ready.placed, first_same v q firsts count, named) in
    rw (states_length v count, ← items, ← begins) e
