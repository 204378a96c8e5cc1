-- Patched links, as the loop over a state's entries writes them.
use Prim.Native.Nat.{ℕ, ◌+◌, ◌*◌, ◌<◌, ◌≤◌}
use mathlib.Core.Path.{◌≡◌, refl, sym, ap, ◌∙◌}
use mathlib.Core.Bool.{Bool, true, false, not, ◌&&◌}
use mathlib.Core.List.{List, []}
use native.Mathlib.Omega.{arith}
use native.Mathlib.Decide.{ℕ_discrete, dec_le}
use lib.ListN.{length}
use lib.Dec.{eqb}
use borrow.Author.Tests.{eq-eqb, ne_eqb}
use Rattle.base.specs.Pick.{pick}
use Rattle.rules.specs.Limits.{max_entries, work_size}
use Rattle.rules.specs.Records.{Grammar, records}
use Rattle.rules.specs.Grammar.{at_end}
use Rattle.rules.specs.States.{Entry}
use Rattle.rules.specs.declared.StateIndex.{StateIndex}
use Rattle.rules.proofs.Laws.{length_records}
use Rattle.room.specs.Areas.{Room, view, with_entries}
use Rattle.room.specs.Bounds.{IsState, IsEntry}
use Rattle.room.proofs.Lengths.{Lengths, view_lengths}
use Rattle.states.specs.StatesIn.{entry_in, first_of, PlaceOf, PlacedAt, put_next}
use Rattle.states.proofs.Changes.{stored_elsewhere, next_there}
use Rattle.clones.specs.Clones.{patched_entry, link_patched, Patched}

-- ---- one link
pub item_read : (bytes : List ℕ) (r : Room) (k i : ℕ) → (entry_in r k).item < length (records bytes) → i ≡ (entry_in r k).item → 8 * i + 8 ≤ length bytes
item_read bytes r k i low is = omega (arith, is, length_records bytes)

module _ (g : Grammar) (successor k i : ℕ) (clone : StateIndex) (v : Room) (item : i ≡ (entry_in v k).item) (b : Bool) (tested : b ≡ at_end g i) where
  is_end : at_end g (entry_in v k).item ≡ b
  is_end = rw (← item) (sym tested)

  pub link_ended : b ≡ true → v ≡ link_patched g successor clone k v
  unfolding link_patched
  link_ended e = rw (is_end, e)

  module _ (n : ℕ) (next : n ≡ (entry_in v k).next) (going : b ≡ false) where
    pub link_elsewhere : (n ≡ successor → ⊥) → v ≡ link_patched g successor clone k v
    unfolding link_patched
    link_elsewhere ne = let d : eqb (entry_in v k).next successor ≡ false = ne_eqb _ _ (λ z. ne (next ∙ z)) in rw (is_end, going, d)

    pub link_patched_lem : (q : Room) → n ≡ successor → q ≡ put_next k clone v → q ≡ link_patched g successor clone k v
    unfolding link_patched
    link_patched_lem q e put = let d : eqb (entry_in v k).next successor ≡ true = eq-eqb _ _ (sym next ∙ e) in rw (is_end, going, d) put

module _ (g : Grammar) (successor : ℕ) (clone : StateIndex) (k : ℕ) (v : Room) where
  patch_there : IsEntry k → IsState clone → Lengths v → entry_in (link_patched g successor clone k v) k ≡ patched_entry g successor clone.0 (entry_in v k)
  unfolding link_patched patched_entry
  patch_there h small sized = by_test (not (at_end g (entry_in v k).item) && eqb (entry_in v k).next successor)
    where
      by_test : (b : Bool) → entry_in (pick b (put_next k clone v) v) k ≡ record { item = (entry_in v k).item; next = pick b clone.0 (entry_in v k).next; set = (entry_in v k).set }
      by_test true = next_there k clone v (put_next k clone v) sized small refl h
      by_test false = refl

  patch_elsewhere : (j : ℕ) → (j ≡ k → ⊥) → entry_in (link_patched g successor clone k v) j ≡ entry_in v j
  unfolding link_patched
  patch_elsewhere j ne = by_test (not (at_end g (entry_in v k).item) && eqb (entry_in v k).next successor)
    where
      by_test : (b : Bool) → entry_in (pick b (put_next k clone v) v) j ≡ entry_in v j
      by_test true = stored_elsewhere v (put_next k clone v) k _ j refl ne
      by_test false = refl

  patch_others : with_entries [] (link_patched g successor clone k v) ≡ with_entries [] v
  unfolding link_patched
  patch_others = by_test (not (at_end g (entry_in v k).item) && eqb (entry_in v k).next successor)
    where
      by_test : (b : Bool) → with_entries [] (pick b (put_next k clone v) v) ≡ with_entries [] v
      by_test true = refl
      by_test false = refl

-- ---- the links of a state: those of the places from `first` to n
pub record PatchedUpto (g : Grammar) (first n successor clone : ℕ) (v q : Room) : Type 0 where
  pub others : with_entries [] q ≡ with_entries [] v
  pub inside : (k : ℕ) → first ≤ k → k < n → entry_in q k ≡ patched_entry g successor clone (entry_in v k)
  pub before : (k : ℕ) → k < first → entry_in q k ≡ entry_in v k
  pub behind : (k : ℕ) → n ≤ k → entry_in q k ≡ entry_in v k

pub patched_none : (g : Grammar) (first successor clone : ℕ) (v : Room) → PatchedUpto g first first successor clone v v
patched_none g first successor clone v = record { others = refl; inside = λ k h l. absurd (omega arith); before = λ k h. refl; behind = λ k h. refl }

pub patched_more : (g : Grammar) (first n successor : ℕ) (clone : StateIndex) (end : ℕ) (v : Room) (w : List ℕ) (q : Room) (m : ℕ) → PatchedUpto g first n successor clone.0 v (view w) → work_size ≤ m → length w ≡ m → first ≤ n → n < end → end ≤ max_entries → IsState clone
    → q ≡ link_patched g successor clone n (view w) → PatchedUpto g first (n + 1) successor clone.0 v q
patched_more g first n successor clone end v w q m upto fits same from h low small patch = record {
  others = ap (with_entries []) patch ∙ patch_others g successor clone n (view w) ∙ upto.others;
  inside = λ k a b. elim (ℕ_discrete k n) [
    | yes e ↦ rw e (ap (λ (r : Room). entry_in r n) patch ∙ patch_there g successor clone n (view w) (omega arith) small (view_lengths w (omega arith)) ∙ ap (patched_entry g successor clone.0) (upto.behind n (omega arith)))
    | no ne ↦ ap (λ (r : Room). entry_in r k) patch ∙ patch_elsewhere g successor clone n (view w) k ne ∙ upto.inside k a (omega arith)
  ];
  before = λ k a. ap (λ (r : Room). entry_in r k) patch ∙ patch_elsewhere g successor clone n (view w) k (λ e. omega arith) ∙ upto.before k a;
  behind = λ k a. ap (λ (r : Room). entry_in r k) patch ∙ patch_elsewhere g successor clone n (view w) k (λ e. omega arith) ∙ upto.behind k (omega arith);
}

module _ (g : Grammar) (s successor clone first end n : ℕ) (v q : Room) (is-first : first ≡ first_of v s) (is_end : end ≡ first_of v (s + 1)) (upto : PatchedUpto g first n successor clone v q) where
  pub patched_fits : (records : ℕ) → PlacedAt records v s → first ≤ n → n < end → (entry_in q n).item < records
  patched_fits records placed from h =
      rw (ap (λ (e : Entry). e.item) (upto.behind n (omega arith))) (placed.recorded n (rw (← is-first) from) (rw (← is_end) h))

  pub patched_all : n ≤ end → end ≤ n → Patched g s successor clone v q
  patched_all h l = record {
    others = upto.others;
    inside = λ k p. upto.inside k (rw is-first p.from) (lower k p.to);
    outside = λ k out. elim (dec_le first k) [
      | yes a ↦ upto.behind k (upper k a out)
      | no a ↦ upto.before k (omega arith)
    ];
  }
    where
      lower : (k : ℕ) → k < first_of v (s + 1) → k < n
      lower k p = omega (arith, is_end)

      upper : (k : ℕ) → first ≤ k → (PlaceOf v s k → ⊥) → n ≤ k
      upper k a out = elim (dec_le end k) [ yes b ↦ omega arith | no b ↦ absurd (out (record { from = rw (← is-first) a; to = omega (arith, is_end) })) ]
