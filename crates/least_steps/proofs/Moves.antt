-- The entry at a place hands on its least set, to its moved dot and to the items behind its dot.
use Prim.Native.Nat.{ℕ, ◌+◌, ◌<◌}
use mathlib.Core.Path.{◌≡◌, refl, sym, ap, ◌∙◌}
use mathlib.Core.Bool.{Bool, true, false, not, ◌&&◌, true≢false}
use mathlib.Core.List.{List}
use native.Mathlib.Omega.{arith}
use lib.ListN.{length}
use lib.Dec.{eqb}
use borrow.Author.Tests.{not-true, not-false}
use Rattle.base.proofs.Tests.{both_true}
use Rattle.rules.specs.Records.{Grammar, at, records, is_terminal}
use Rattle.rules.specs.Tokens.{is_empty_set}
use Rattle.rules.specs.Grammar.{at_end, is_left_side_of, symbols_behind, terminal_count}
use Rattle.rules.specs.First.{first1}
use Rattle.rules.specs.States.{State, closes, hands_on}
use Rattle.rules.specs.FinalCheck.{have_at, give_at, moves, is_behind_dot, closing}
use Rattle.room.specs.Areas.{Room, view}
use Rattle.room.specs.Bounds.{LongEnough}
use Rattle.room.specs.Slots.{hand_slot}
use Rattle.room.proofs.Lengths.{view_lengths}
use Rattle.lookahead.specs.Sets.{set_at, put_set, copy_set}
use Rattle.lookahead.proofs.Slots.{put_there}
use Rattle.rules.proofs.Laws.{length_records}
use Rattle.grammar.specs.Asked.{InRange}
use Rattle.states.specs.StatesIn.{entry_in, Placed}
use Rattle.first.specs.Firsts.{firsts_in}
use Rattle.least_steps.specs.declared.give.Receivers.TheVariants.{Item, OfNonterminal}
use Rattle.least_steps.specs.Least.{least_slot, least_entry, least_in}
use Rattle.least_steps.specs.Giving.{is_given}
use Rattle.least_steps.specs.Steps.{closing_put}
use Rattle.least_steps.proofs.Entries.{least_item, least_set, least_next}
use Rattle.least_steps.proofs.Frames.{hand_least}

pub recorded_fits : (bytes : List ℕ) (r : Room) (at-k i : ℕ) → (entry_in r at-k).item < length (records bytes) → i ≡ (entry_in r at-k).item → InRange i bytes
recorded_fits bytes r at-k i h is = omega (arith, length_records bytes)

-- ---- the tests of the entry at a place
module _ (g : Grammar) (r : Room) (at-k i : ℕ) (is : i ≡ (entry_in r at-k).item) where
  item_is : (least_entry r at-k).item ≡ i
  item_is = least_item r at-k ∙ sym is

  pub moves_some : (slot : ℕ) (b c : Bool) → slot ≡ least_slot at-k → b ≡ eqb (set_at r slot) 0 → b ≡ false → c ≡ at_end g i → not c ≡ moves g (least_entry r at-k)
  unfolding moves is_empty_set
  moves_some slot b c own empty z last = rw (item_is, ← last, least_set r at-k, ← own, ← empty, z)

  pub moves_open : (b : Bool) → b ≡ moves g (least_entry r at-k) → b ≡ true → at_end g i ≡ false
  unfolding moves
  moves_open b says z =
      let e : moves g (least_entry r at-k) ≡ true = sym says ∙ z in
      not-true (at_end g i) (rw item_is at (both_true (not (is_empty_set (least_entry r at-k).set)) (not (at_end g (least_entry r at-k).item)) e).1)

  closes_open : (b : Bool) → b ≡ closes g (least_entry r at-k).item (least_entry r at-k).set → not b ≡ false → at_end g i ≡ false
  unfolding closes
  closes_open b says z =
      let e : closes g (least_entry r at-k).item (least_entry r at-k).set ≡ true = sym says ∙ not-false b z in
      let later = (both_true (not (is_empty_set (least_entry r at-k).set)) _ e).1 in
      not-true (at_end g i) (rw item_is at (both_true (not (at_end g (least_entry r at-k).item)) _ later).0)

  pub closes_some : (b c : Bool) → b ≡ moves g (least_entry r at-k) → b ≡ true → c ≡ is_terminal (at g (i + 1)) → not c ≡ closes g (least_entry r at-k).item (least_entry r at-k).set
  unfolding moves closes
  closes_some b c says z term =
      let e : moves g (least_entry r at-k) ≡ true = sym says ∙ z in
      let (full, behind) = both_true (not (is_empty_set (least_entry r at-k).set)) (not (at_end g (least_entry r at-k).item)) e in
      rw (full, behind, item_is, ← term)

module _ (g : Grammar) (r : Room) (at-k : ℕ) where
  pub moves_none : (slot : ℕ) (b : Bool) → slot ≡ least_slot at-k → b ≡ eqb (set_at r slot) 0 → b ≡ true → false ≡ moves g (least_entry r at-k)
  unfolding moves is_empty_set
  moves_none slot b own empty z = rw (least_set r at-k, ← own, ← empty, z)

  pub closes_none : (b : Bool) → b ≡ moves g (least_entry r at-k) → b ≡ false → false ≡ closes g (least_entry r at-k).item (least_entry r at-k).set
  unfolding moves closes
  closes_none b says z = by_empty (is_empty_set (least_entry r at-k).set) (at_end g (least_entry r at-k).item) (is_terminal (at g ((least_entry r at-k).item + 1))) (sym says ∙ z)
    where
      by_empty : (x y w : Bool) → (not x && not y) ≡ false → false ≡ (not x && (not y && not w))
      by_empty true y w e = refl
      by_empty false true w e = refl
      by_empty false false w e = absurd (true≢false e)

  pub closes_here : (b : Bool) → b ≡ closes g (least_entry r at-k).item (least_entry r at-k).set → not b ≡ false → at_end g (entry_in r at-k).item ≡ false
  closes_here b says z = closes_open g r at-k (entry_in r at-k).item refl b says z

-- ---- what is handed on lies in the set at hand
module _ (bytes : List ℕ) (n at-k i hand own : ℕ) (v : Room) (is : i ≡ (entry_in v at-k).item) where
  pub open_here : at_end (records bytes) (entry_in v at-k).item ≡ false → at_end (records bytes) i ≡ false
  open_here e = rw is e

  pub closing_put_lem : (q : Room) → hand ≡ hand_slot → own ≡ least_slot at-k
      → q ≡ put_set hand (first1 n (firsts_in (records bytes) v) (symbols_behind (records bytes) (i + 1)) (set_at v own)) v → q ≡ closing_put bytes n at-k v
  closing_put_lem q h o e = rw (← is, ← h, ← o) e

pub own_put : (at-k hand own : ℕ) (v q : Room) → hand ≡ hand_slot → own ≡ least_slot at-k → q ≡ copy_set hand own v → q ≡ copy_set hand_slot (least_slot at-k) v
own_put at-k hand own v q h o e = rw (← h, ← o) e

given_behind : (g : Grammar) (i x : ℕ) → x ≡ (at g (i + 1)).symbol → is_given g (OfNonterminal x) ≡ is_behind_dot g i
unfolding is_given is_behind_dot
given_behind g i x e = let left : ℕ → ℕ → Bool = λ a j. is_left_side_of g a j in ap left e

-- ---- the entry at a place hands on
module _ (record_count count at-k : ℕ) (w : List ℕ) (p : Room) (fits : LongEnough w) (placed : Placed record_count count (view w)) where
  module _ (g : Grammar) (i t : ℕ) (put : p ≡ copy_set hand_slot (least_slot at-k) (view w))
      (is : i ≡ (entry_in (view w) at-k).item) (leads : t ≡ (entry_in (view w) at-k).next) where
    in_hand : set_at p hand_slot ≡ (least_entry (view w) at-k).set
    in_hand = let l = (view_lengths w fits).sets_length in put_there (view w) p hand_slot _ put (omega arith) ∙ sym (least_set (view w) at-k)

    pub moved_from_lem : (l : List State) → l ≡ give_at t (is_given g (Item (i + 1))) (set_at p hand_slot) (least_in p count)
        → l ≡ give_at (least_entry (view w) at-k).next (eqb ((least_entry (view w) at-k).item + 1)) (least_entry (view w) at-k).set (least_in (view w) count)
    unfolding is_given
    moved_from_lem l e = rw (least_item (view w) at-k, least_next (view w) at-k, ← is, ← leads, ← in_hand, ← hand_least (view w) p hand_slot _ refl put record_count count placed) e

    pub moved_lacked : (r : Bool) → r ≡ not (have_at (least_in p count) t (is_given g (Item (i + 1))) (set_at p hand_slot))
        → r ≡ not (have_at (least_in (view w) count) (least_entry (view w) at-k).next (eqb ((least_entry (view w) at-k).item + 1)) (least_entry (view w) at-k).set)
    unfolding is_given
    moved_lacked r e = rw (least_item (view w) at-k, least_next (view w) at-k, ← is, ← leads, ← in_hand, ← hand_least (view w) p hand_slot _ refl put record_count count placed) e

  module _ (bytes : List ℕ) (n s i x : ℕ) (named : n ≡ terminal_count (records bytes)) (put : p ≡ closing_put bytes n at-k (view w))
      (is : i ≡ (entry_in (view w) at-k).item) (behind : x ≡ (at (records bytes) (i + 1)).symbol) where
    handed_on_lem : set_at p hand_slot ≡ closing (records bytes) (firsts_in (records bytes) (view w)) (least_entry (view w) at-k)
    unfolding closing hands_on
    handed_on_lem =
        let l = (view_lengths w fits).sets_length in
        rw (least_item (view w) at-k, least_set (view w) at-k, ← named) (put_there (view w) p hand_slot _ put (omega arith))

    pub closed_from_lem : (l : List State) → l ≡ give_at s (is_given (records bytes) (OfNonterminal x)) (set_at p hand_slot) (least_in p count)
        → l ≡ give_at s (is_behind_dot (records bytes) (least_entry (view w) at-k).item) (closing (records bytes) (firsts_in (records bytes) (view w)) (least_entry (view w) at-k)) (least_in (view w) count)
    closed_from_lem l e = rw (← handed_on_lem, least_item (view w) at-k, ← is, ← given_behind (records bytes) i x behind, ← hand_least (view w) p hand_slot _ refl put record_count count placed) e

    pub closed_lacked : (r : Bool) → r ≡ not (have_at (least_in p count) s (is_given (records bytes) (OfNonterminal x)) (set_at p hand_slot))
        → r ≡ not (have_at (least_in (view w) count) s (is_behind_dot (records bytes) (least_entry (view w) at-k).item) (closing (records bytes) (firsts_in (records bytes) (view w)) (least_entry (view w) at-k)))
    closed_lacked r e = rw (← handed_on_lem, least_item (view w) at-k, ← is, ← given_behind (records bytes) i x behind, ← hand_least (view w) p hand_slot _ refl put record_count count placed) e
