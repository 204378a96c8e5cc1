-- Copied entries, and a clone of them.
use Prim.Native.Nat.{ℕ, ◌+◌, ◌-◌, ◌<◌, ◌≤◌}
use mathlib.Core.Path.{◌≡◌, refl, sym, ap, ◌∙◌}
use mathlib.Core.List.{List}
use native.Mathlib.Omega.{arith}
use native.Mathlib.Decide.{ℕ_discrete}
use lib.ListN.{length, get_or, set}
use lib.Seq.{get_or-set_same, get_or-set_other}
use Rattle.rules.specs.Limits.{max_entries, work_size}
use Rattle.rules.specs.declared.StateIndex.{StateIndex}
use Rattle.room.specs.Areas.{Room, view, put_entry, put_origin, put_head}
use Rattle.room.specs.Bounds.{IsEntry}
use Rattle.room.specs.Slots.{entry_slot}
use Rattle.room.proofs.Lengths.{Lengths, view_lengths}
use Rattle.lookahead.specs.Sets.{set_at, copy_set}
use Rattle.lookahead.proofs.Slots.{load_stored, load_other}
use Rattle.states.specs.StatesIn.{entry_in, first_of, end_state}
use Rattle.clones.specs.Clones.{entry_copied, beside_entries, Copied, size_of, beside_clones, Cloned}

-- ---- one entry
pub copy_put : (v u q : Room) (from to word a b : ℕ) → word ≡ get_or v.entries from 0 → u ≡ put_entry to word v → a ≡ entry_slot to → b ≡ entry_slot from → q ≡ copy_set a b u → q ≡ entry_copied from to v
copy_put v u q from to word a b read put slot source copy = rw (copy, put, slot, source, read)

module _ (r : Room) (from to : ℕ) where
  copy_there : IsEntry to → Lengths r → entry_in (entry_copied from to r) to ≡ entry_in r from
  unfolding entry_in
  copy_there h sized =
      let e : get_or (set r.entries to (get_or r.entries from 0)) to 0 ≡ get_or r.entries from 0 = get_or-set_same r.entries to _ 0 (omega (arith, sized.entries_length)) in
      let s : set_at (entry_copied from to r) (entry_slot to) ≡ set_at r (entry_slot from) = load_stored r.sets (entry_slot to) (set_at r (entry_slot from)) (omega (arith, sized.sets_length)) in
      rw (e, s)

  copy_elsewhere : (j : ℕ) → (j ≡ to → ⊥) → entry_in (entry_copied from to r) j ≡ entry_in r j
  unfolding entry_in
  copy_elsewhere j ne =
      let e : get_or (set r.entries to (get_or r.entries from 0)) j 0 ≡ get_or r.entries j 0 = get_or-set_other r.entries to j _ 0 ne in
      let s : set_at (entry_copied from to r) (entry_slot j) ≡ set_at r (entry_slot j) = load_other r.sets (entry_slot to) (set_at r (entry_slot from)) (entry_slot j) (λ z. ne (omega arith)) in
      rw (e, s)

-- ---- a run of entries
pub copied_none : (first at : ℕ) (v : Room) → Copied first 0 at v v
copied_none first at v = record {
  others = refl;
  entries = record { kept = λ k h. refl; copied = λ k h. absurd (omega arith); slots_before = λ slot h. refl; slots_behind = λ slot h. refl };
}

pub copied_more : (first at n : ℕ) (v : Room) (w : List ℕ) (q : Room) (m size : ℕ) → Copied first n at v (view w) → work_size ≤ m → length w ≡ m → n < size → first + size ≤ at → at + size ≤ max_entries → q ≡ entry_copied (first + n) (at + n) (view w)
    → Copied first (n + 1) at v q
copied_more first at n v w q m size upto fits same h apart low copy = record {
  others = ap beside_entries copy ∙ upto.others;
  entries = record {
    kept = λ k l. ap (λ (r : Room). entry_in r k) copy ∙ copy_elsewhere (view w) (first + n) (at + n) k (λ e. omega arith) ∙ upto.entries.kept k l;
    copied = λ k l. elim (ℕ_discrete k n) [
      | yes e ↦ rw e (ap (λ (r : Room). entry_in r (at + n)) copy ∙ copy_there (view w) (first + n) (at + n) (omega arith) (view_lengths w (omega arith)) ∙ upto.entries.kept (first + n) (omega arith))
      | no ne ↦ ap (λ (r : Room). entry_in r (at + k)) copy ∙ copy_elsewhere (view w) (first + n) (at + n) (at + k) (λ e. ne (omega arith)) ∙ upto.entries.copied k (omega arith)
    ];
    slots_before = λ slot l. ap (λ (r : Room). set_at r slot) copy ∙ load_other (view w).sets (entry_slot (at + n)) _ slot (λ e. omega arith) ∙ upto.entries.slots_before slot l;
    slots_behind = λ slot l. ap (λ (r : Room). set_at r slot) copy ∙ load_other (view w).sets (entry_slot (at + n)) _ slot (λ e. omega arith) ∙ upto.entries.slots_behind slot l;
  };
}

pub copied_all : (first at n size : ℕ) (v q : Room) → Copied first n at v q → n ≤ size → size ≤ n → Copied first size at v q
copied_all first at n size v q upto h g = let e : n ≡ size = omega arith in rw e at upto

-- ---- a clone
module _ (s count first end at size original : ℕ) (clone : StateIndex) (v u x y q : Room) (is_clone : clone.0 ≡ count) (is-first : first ≡ first_of v s) (is_end : end ≡ first_of v (s + 1)) (is-size : size ≡ end - first) (is_at : at ≡ first_of v clone.0) (copied : Copied first size at v u)
    (ends : x ≡ end_state clone (at + size) u) (was : original ≡ get_or x.origins s 0) (origins : y ≡ put_origin clone.0 original x) (heads : q ≡ put_head clone.0 count y) where
  beside : {A : Type 0} (f : Room → A) → f (beside_entries u) ≡ f (beside_entries v)
  beside f = ap f copied.others

  size_is : size ≡ size_of v s
  size_is = rw (is-size, is_end, is-first)

  at_is : at ≡ first_of v count
  at_is = is_at ∙ ap (first_of v) is_clone

  whole : q ≡ put_head clone.0 count (put_origin clone.0 original (end_state clone (at + size) u))
  whole = heads ∙ ap (put_head clone.0 count) (origins ∙ ap (put_origin clone.0 original) ends)

  pub cloned_all : Cloned s count v q
  unfolding entry_in
  cloned_all = record {
    others = ap beside_clones whole ∙ beside beside_clones;
    firsts = ap (λ (r : Room). r.first_entries) whole ∙ rw (is_clone, beside (λ r. r.first_entries), at_is, size_is);
    origins = ap (λ (r : Room). r.origins) whole ∙ rw (is_clone, was, ends, beside (λ r. r.origins));
    heads = ap (λ (r : Room). r.heads) whole ∙ rw (is_clone, beside (λ r. r.heads));
    entries = record {
      kept = λ k h. ap (λ (r : Room). entry_in r k) whole ∙ copied.entries.kept k (rw at_is h);
      copied = λ k h. ap (λ (r : Room). entry_in r (first_of v count + k)) whole ∙ ap (λ (n : ℕ). entry_in u (n + k)) (sym at_is) ∙ copied.entries.copied k (rw size_is h) ∙ ap (λ (n : ℕ). entry_in v (n + k)) is-first;
      slots_before = λ slot h. ap (λ (r : Room). set_at r slot) whole ∙ copied.entries.slots_before slot h;
      slots_behind = λ slot h. ap (λ (r : Room). set_at r slot) whole ∙ copied.entries.slots_behind slot h;
    };
  }
