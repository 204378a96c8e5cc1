-- The records of a state's reductions on a token, entry by entry.
use Prim.Native.Nat.{ℕ, zero, suc, ◌+◌, ◌-◌, ◌<◌, ◌≤◌}
use mathlib.Core.Path.{◌≡◌, refl, sym, ap, ◌∙◌}
use mathlib.Core.Bool.{Bool, true, false, not, ◌&&◌}
use mathlib.Core.List.{List, [], ◌∷◌, ◌++◌, map}
use native.Mathlib.Omega.{arith}
use borrow.Author.Tests.{not-true, not-false}
use Rattle.base.specs.Pick.{pick}
use Rattle.base.specs.Each.{each_from}
use Rattle.base.specs.Lists.{numbers_from, keep, concat}
use Rattle.rules.specs.Records.{at, records}
use Rattle.rules.specs.Tokens.{TokenSet, has}
use Rattle.rules.specs.Grammar.{at_end}
use Rattle.rules.specs.States.{Entry, reductions}
use Rattle.rules.specs.Table.{TableRecord, table_record}
use Rattle.room.specs.Areas.{view}
use Rattle.room.specs.Slots.{entry_slot}
use Rattle.lookahead.specs.Sets.{has_token}
use Rattle.states.specs.StatesIn.{entry_in, first_of, state_in}
use Rattle.states.proofs.States.{set_of_lem}
use Rattle.states.proofs.Places.{item_fits}
use Rattle.table_counts.specs.Asked.{Readable, ReadableEntry}
use Rattle.table_counts.specs.Records.{in_turn, on_entry, on_token}

-- ---- those that pass two tests, entry by entry
kept_in_turn : (h : Entry → TableRecord) (p q : Entry → Bool) (f : ℕ → Entry) (n i : ℕ)
    → map h (keep p (keep q (each_from f i n))) ≡ concat (map (λ k. pick (q (f k) && p (f k)) (h (f k) ∷ []) []) (numbers_from i n))
unfolding keep each_from concat numbers_from
kept_in_turn h p q f zero i = refl
kept_in_turn h p q f (suc n) i = go (q (f i)) (p (f i)) refl (kept_in_turn h p q f n (suc i))
  where
    later : List Entry
    later = keep q (each_from f (suc i) n)

    others : List TableRecord
    others = concat (map (λ k. pick (q (f k) && p (f k)) (h (f k) ∷ []) []) (numbers_from (suc i) n))

    go : (a b : Bool) → p (f i) ≡ b → map h (keep p later) ≡ others → map h (keep p (pick a (f i ∷ later) later)) ≡ pick (a && b) (h (f i) ∷ []) [] ++ others
    go true true e more = rw e (ap (λ (l : List TableRecord). h (f i) ∷ l) more)
    go true false e more = rw e more
    go false b e more = more

-- ---- of a state in the room
pub entries_in_turn : (bytes work : List ℕ) (s t first end : ℕ) → first ≡ first_of (view work) s → end ≡ first_of (view work) (s + 1)
    → on_token bytes work s t ≡ in_turn (on_entry bytes work s t) first end
unfolding on_token reductions state_in in_turn on_entry
entries_in_turn bytes work s t first end p q =
    rw (p, q) (kept_in_turn (λ e. table_record s 2 t (at (records bytes) e.item).production) (λ e. has e.set t) (λ e. at_end (records bytes) e.item) (entry_in (view work)) (first_of (view work) (s + 1) - first_of (view work) s) (first_of (view work) s))

pub entry_readable : (bytes work : List ℕ) (s first end k : ℕ) → Readable bytes work s → first ≡ first_of (view work) s → end ≡ first_of (view work) (s + 1) → first ≤ k → k < end → ReadableEntry bytes work k
entry_readable bytes work s first end k readable p q h g = record {
  long = readable.long;
  few = omega (arith, readable.placed.bounded);
  within = item_fits bytes (view work) (first_of (view work) s) (first_of (view work) (s + 1)) k _ readable.placed (omega arith) (omega arith) refl;
}

-- ---- the entry at place k
module _ (bytes work : List ℕ) (s t k i : ℕ) (c : Bool) (is : i ≡ (entry_in (view work) k).item) (last : c ≡ at_end (records bytes) i) where
  ends_as : at_end (records bytes) (entry_in (view work) k).item ≡ c
  ends_as = sym (last ∙ ap (at_end (records bytes)) is)

  pub incomplete : not c ≡ true → on_entry bytes work s t k ≡ []
  unfolding on_entry
  incomplete z = rw (ends_as, not-true c z)

  module _ (slot : ℕ) (b : Bool) (complete : not c ≡ false) (place : slot ≡ entry_slot k) (contained : b ≡ has_token slot t (view work)) where
    held_as : has (entry_in (view work) k).set t ≡ b
    held_as = ap (λ (x : TokenSet). has x t) (set_of_lem (view work) k) ∙ sym (contained ∙ ap (λ (x : ℕ). has_token x t (view work)) place)

    pub not_held : b ≡ false → on_entry bytes work s t k ≡ []
    unfolding on_entry
    not_held z = rw (ends_as, not-false c complete, held_as, z)

    pub held : b ≡ true → on_entry bytes work s t k ≡ table_record s 2 t (at (records bytes) (entry_in (view work) k).item).production ∷ []
    unfolding on_entry
    held z = rw (ends_as, not-false c complete, held_as, z)
