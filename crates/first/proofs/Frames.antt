-- What stays while FIRST is collected, and that nothing else can be found.
use Prim.Native.Nat.{ℕ, ◌+◌, ◌≤◌, ◌<◌}
use mathlib.Core.Path.{◌≡◌, refl, sym, ap, ◌∙◌}
use mathlib.Core.Logic.{◌⊎◌, inl, inr, ⊎_elim}
use mathlib.Core.Bool.{Bool, true, not}
use mathlib.Core.List.{List, []}
use native.Mathlib.Omega.{arith}
use native.Mathlib.Decide.{ℕ_discrete, dec_le}
use lib.ListN.{length, get_or}
use Rattle.base.proofs.Each.{each_at}
use Rattle.rules.specs.Limits.{work_size, max_nonterminals}
use Rattle.rules.specs.Records.{Grammar, at, records, is_left_side}
use Rattle.rules.specs.Tokens.{join, within}
use Rattle.rules.specs.Grammar.{at_start, symbols_behind, nonterminal_count}
use Rattle.rules.specs.First.{Sets, set_of, first0, add_first, first_sets}
use Rattle.room.specs.Areas.{Room, view, with_sets}
use Rattle.room.specs.Bounds.{LongEnough, slot_count}
use Rattle.room.specs.Slots.{hand_slot}
use Rattle.room.proofs.Lengths.{view_lengths}
use Rattle.room.proofs.Whole.{view_inj}
use Rattle.lookahead.specs.Sets.{load_set, set_at, put_set}
use Rattle.lookahead.proofs.Slots.{same_words, put_there, put_elsewhere, length_stored_set}
use Rattle.rules.proofs.Laws.{length_records, nonterminal_counted_at}
use Rattle.grammar.specs.Asked.{InRange, NoFault, Faultless}
use Rattle.grammar.proofs.Coded.{nonterminal_count_below, left_nonterminal}
use Rattle.first.specs.Firsts.{firsts_in, has_first, OnlyFirsts, FirstsCleared, FirstsFound}
use Rattle.first.proofs.Clears.{only_cleared}
use Rattle.first.proofs.Loads.{loads_stored}
use Rattle.first.proofs.Growth.{add_first_is}
use Rattle.first.proofs.Collects.{firsts_kept}

pub only_none : (g : Grammar) (v : Room) → OnlyFirsts g v v
only_none g v = record { others = refl; words = refl; slots = λ slot h ne. refl }

pub only_both : (g : Grammar) (u v w : Room) → OnlyFirsts g u v → OnlyFirsts g v w → OnlyFirsts g u w
only_both g u v w p q = record {
  others = q.others ∙ p.others;
  words = q.words ∙ p.words;
  slots = λ slot h ne. q.slots slot h ne ∙ p.slots slot h ne;
}

-- a set was put into a nonterminal's slot, or into the slot at hand
only_put : (g : Grammar) (v q : Room) (slot s : ℕ) → (slot < nonterminal_count g) ⊎ (slot ≡ hand_slot) → q ≡ put_set slot s v → OnlyFirsts g v q
only_put g v q slot s allowed put = record {
  others = ap (with_sets []) put;
  words = ap (λ (r : Room). length r.sets) put ∙ length_stored_set v.sets slot s;
  slots = λ other h ne. put_elsewhere v q slot s put other (λ e. ⊎_elim (λ l. omega arith) (λ z. ne (e ∙ z)) allowed);
}

-- ---- the production of record i
module _ (bytes : List ℕ) (n i a slot own : ℕ) (w : List ℕ) (p : Room) (clean : Faultless bytes)
    (h : InRange i bytes) (starts : at_start (records bytes) i ≡ true) (fits : LongEnough w) (named : a ≡ (at (records bytes) i).symbol)
    (mine : own ≡ a) (hand : slot ≡ hand_slot) (collected : p ≡ put_set slot (first0 n (firsts_in (records bytes) (view w)) (symbols_behind (records bytes) i)) (view w)) where
  here : i < length (records bytes)
  here = omega (arith, length_records bytes)

  left_side_lem : is_left_side (at (records bytes) i) ≡ true
  unfolding at_start
  left_side_lem = starts

  below : own < nonterminal_count (records bytes)
  below = omega (arith, nonterminal_counted_at (records bytes) i here (left_nonterminal (records bytes) clean i here left_side_lem))

  few : nonterminal_count (records bytes) ≤ max_nonterminals
  few = nonterminal_count_below (records bytes) clean

  long : length p.sets ≡ slot_count
  long = ap (λ (r : Room). length r.sets) collected ∙ length_stored_set (view w).sets slot _ ∙ (view_lengths w fits).sets_length

  collected_there : set_at p slot ≡ first0 n (firsts_in (records bytes) (view w)) (symbols_behind (records bytes) i)
  collected_there = let l = (view_lengths w fits).sets_length in put_there (view w) p slot _ collected (omega arith)

  same_firsts : firsts_in (records bytes) p ≡ firsts_in (records bytes) (view w)
  same_firsts = firsts_kept (view w) p slot _ collected (records bytes) clean (omega arith)

  own_there : set_at p own ≡ set_of (firsts_in (records bytes) (view w)) (at (records bytes) i).symbol
  unfolding set_of
  own_there =
      let b = below in
      let f = few in
      let z : own ≡ 0 + (at (records bytes) i).symbol = omega arith in
      put_elsewhere (view w) p slot _ collected own (λ e. omega arith) ∙ ap (load_set (view w).sets) z ∙ sym (each_at (load_set (view w).sets) 0 (nonterminal_count (records bytes)) (at (records bytes) i).symbol 0 (omega arith))

  module _ (q : Room) (put : q ≡ put_set own (join (set_at p own) (set_at p slot)) p) where
    pub first_added_lem : firsts_in (records bytes) q ≡ add_first (records bytes) n i (firsts_in (records bytes) (view w))
    first_added_lem =
        let b = below in
        let f = few in
        let l = long in
        ap (firsts_in (records bytes)) put
        ∙ loads_stored own _ p.sets 0 (nonterminal_count (records bytes)) (at (records bytes) i).symbol (omega arith) (omega arith) (omega arith)
        ∙ rw (same_firsts, own_there, collected_there) (sym (add_first_is (records bytes) n i (firsts_in (records bytes) (view w))))

    pub only_added : OnlyFirsts (records bytes) (view w) q
    only_added =
        only_both (records bytes) (view w) p q (only_put (records bytes) (view w) p slot _ (inr hand) collected) (only_put (records bytes) p q own _ (inl below) put)

  pub first_new : (r : Bool) → r ≡ not (within (set_at p slot) (set_at p own)) → r ≡ not (has_first (records bytes) n (firsts_in (records bytes) (view w)) i)
  unfolding has_first
  first_new r e = rw (collected_there, own_there) at e

-- ---- from the slots cleared at the beginning to the end, where the slot at hand is cleared
pub firsts_found : (g : Grammar) (m : ℕ) (v u q : Room) (w : List ℕ) (hand before size : ℕ) → NoFault g → work_size ≤ before → size ≡ before → length w ≡ size → m ≡ nonterminal_count g → FirstsCleared m v u
    → OnlyFirsts g u (view w) → firsts_in g (view w) ≡ first_sets g → hand ≡ hand_slot → q ≡ put_set hand 0 (view w) → FirstsFound g v q
firsts_found g m v u q w hand before size clean fits first same counted begun only found e put =
    let l = (view_lengths w (omega arith)).sets_length in
    record {
      only = only_both g v u q (only_cleared g m v u counted begun) (only_both g u (view w) q only (only_put g (view w) q hand 0 (inr e) put));
      found = firsts_kept (view w) q hand 0 put g clean (omega arith) ∙ found;
      cleared = ap (set_at q) (sym e) ∙ put_there (view w) q hand 0 put (omega arith);
    }

-- ---- no second room meets the promise
module _ (g : Grammar) (v p q : Room) (one : FirstsFound g v p) (two : FirstsFound g v q) where
  same_slot : (slot : ℕ) → set_at p slot ≡ set_at q slot
  same_slot slot = elim (dec_le (nonterminal_count g) slot) [
    | yes h ↦ (elim (ℕ_discrete slot hand_slot) [
      | yes e ↦ rw e (one.cleared ∙ sym two.cleared)
      | no ne ↦ one.only.slots slot h ne ∙ sym (two.only.slots slot h ne)
    ])
    | no h ↦
        let l : slot < nonterminal_count g = omega arith in
        let z : 0 + slot ≡ slot = omega arith in
        ap (set_at p) (sym z) ∙ sym (each_at (load_set p.sets) 0 (nonterminal_count g) slot 0 l)
        ∙ ap (λ (sets : Sets). get_or sets slot 0) (one.found ∙ sym two.found)
        ∙ each_at (load_set q.sets) 0 (nonterminal_count g) slot 0 l ∙ ap (set_at q) z
  ]

  same_view : p ≡ q
  same_view =
      let others : with_sets [] p ≡ with_sets [] q = one.only.others ∙ sym two.only.others in
      let words : p.sets ≡ q.sets = same_words p.sets q.sets (one.only.words ∙ sym two.only.words) same_slot in
      ap (with_sets p.sets) others ∙ ap (λ (l : List ℕ). with_sets l q) words

pub firsts_unique : (g : Grammar) (v : Room) (w u : List ℕ) → FirstsFound g v (view w) → FirstsFound g v (view u) → w ≡ u
firsts_unique g v w u one two = view_inj w u (same_view g v (view w) (view u) one two)
