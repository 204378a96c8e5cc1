-- What stays while the entry at a place hands on, and the slot of its least set.
use Prim.Native.Nat.{ℕ, ◌+◌, ◌<◌}
use mathlib.Core.Path.{◌≡◌, refl, ap, ◌∙◌}
use mathlib.Core.List.{List, []}
use native.Mathlib.Omega.{arith}
use lib.ListN.{length}
use Rattle.rules.specs.Records.{records}
use Rattle.rules.specs.Tokens.{TokenSet}
use Rattle.rules.specs.Grammar.{terminal_count}
use Rattle.room.specs.Areas.{Room, with_sets}
use Rattle.room.specs.Bounds.{IsEntry, IsSlot, FewTerminals}
use Rattle.room.specs.Slots.{hand_slot}
use Rattle.lookahead.specs.Sets.{set_at, put_set, copy_set}
use Rattle.lookahead.proofs.Slots.{put_elsewhere, length_stored_set}
use Rattle.grammar.specs.Asked.{Faultless}
use Rattle.grammar.proofs.Coded.{terminal_count_below}
use Rattle.states.specs.StatesIn.{entry_in, Placed}
use Rattle.states.proofs.Entries.{item_small}
use Rattle.least_steps.specs.Least.{least_slot, least_in, OnlyLeast}
use Rattle.least_steps.proofs.Entries.{least_same, least_state_same, least_states_same}

pub only_none : (v : Room) → OnlyLeast v v
only_none v = record { others = refl; words = refl; slots = λ slot h. refl }

pub only_both : (u v w : Room) → OnlyLeast u v → OnlyLeast v w → OnlyLeast u w
only_both u v w p q = record { others = q.others ∙ p.others; words = q.words ∙ p.words; slots = λ slot h. q.slots slot h ∙ p.slots slot h }

-- ---- the set at hand is another
module _ (v p : Room) (hand : ℕ) (tokens : TokenSet) (is : hand ≡ hand_slot) (put : p ≡ put_set hand tokens v) where
  pub only_hand : OnlyLeast v p
  only_hand = record {
    others = ap (with_sets []) put;
    words = ap (λ (r : Room). length r.sets) put ∙ length_stored_set v.sets hand tokens;
    slots = λ slot h. put_elsewhere v p hand tokens put slot (λ e. omega arith);
  }

  pub hand_least : (record_count count : ℕ) → Placed record_count count v → least_in p count ≡ least_in v count
  hand_least record_count count placed =
      least_states_same v p count
      (λ s h. least_state_same v p s (ap (λ (r : Room). r.first_entries) put)
      (λ k f g. least_same v p k (ap (λ (r : Room). r.entries) put) (put_elsewhere v p hand tokens put (least_slot k) (λ e. omega (arith, (placed.each s h).bounded)))))

pub only_put : (v p : Room) (tokens : TokenSet) → p ≡ put_set hand_slot tokens v → OnlyLeast v p
only_put v p tokens put = only_hand v p hand_slot tokens refl put

pub only_own : (v p : Room) (place : ℕ) → p ≡ copy_set hand_slot (least_slot place) v → OnlyLeast v p
only_own v p place put = only_put v p (set_at v (least_slot place)) put

pub few_terminals : (bytes : List ℕ) (n : ℕ) → Faultless bytes → n ≡ terminal_count (records bytes) → FewTerminals n
few_terminals bytes n clean e = rw e (terminal_count_below (records bytes) clean)

-- ---- the entry at a place
module _ (place : ℕ) (h : IsEntry place) where
  pub own_slot : (own : ℕ) → own ≡ least_slot place → IsSlot own
  own_slot own e = omega arith

  pub own_apart : (own hand : ℕ) → own ≡ least_slot place → hand ≡ hand_slot → own ≡ hand → ⊥
  own_apart own hand e f z = omega arith

pub dot_moved : (v : Room) (place i : ℕ) → i ≡ (entry_in v place).item → i + 1 < 65537
dot_moved v place i e = omega (arith, item_small v place i e)
