-- The walk along the entries of a state that stand before a symbol.
use Prim.Native.Nat.{ℕ, ◌+◌, ◌<◌, ◌≤◌}
use mathlib.Core.Path.{◌≡◌, refl, sym, ◌∙◌}
use mathlib.Core.Bool.{Bool, true, false, true≢false}
use native.Mathlib.Omega.{arith}
use mathlib.Core.List.{List}
use lib.ListN.{length}
use lib.Dec.{eqb, ltb}
use borrow.Author.Tests.{eq-eqb, ne_eqb, ltb-true, ltb-false}
use Rattle.std.specs.Prelude.{Some, None, is_some, unwrap_or}
use Rattle.base.specs.Pick.{pick}
use Rattle.base.specs.Loops.{place_below}
use Rattle.rules.specs.Records.{records}
use Rattle.room.specs.Areas.{Room, view}
use Rattle.room.specs.Bounds.{LongEnough}
use Rattle.lookahead.specs.Sets.{set_at}
use Rattle.states.specs.StatesIn.{entry_in, PlacedRun}
use Rattle.states.proofs.States.{set_of_lem}
use Rattle.states.proofs.Places.{item_fits}
use Rattle.lr.specs.Kernels.{ReadableEntry, same_entry}

-- ---- places below an end
module _ (n i : ℕ) where
  pub below_some : (t : ℕ) → place_below n i ≡ Some t → (t ≡ i) × (i < n)
  below_some t = go (ltb i n) refl
    where
      go : (b : Bool) → ltb i n ≡ b → pick b (Some i) None ≡ Some t → (t ≡ i) × (i < n)
      go true f e = (cc, ltb-true i n f)
      go false f e = let z : ◌≡◌ {A = ℕ} 0 1 = cc in absurd (omega arith)

  pub below_none : place_below n i ≡ None → n ≤ i
  below_none = go (ltb i n) refl
    where
      go : (b : Bool) → ltb i n ≡ b → pick b (Some i) None ≡ None → n ≤ i
      go true f e = let z : ◌≡◌ {A = ℕ} 0 1 = cc in absurd (omega arith)
      go false f e = ltb-false i n f

  pub below_or_end : i ≤ n → unwrap_or (place_below n i) n ≡ i
  below_or_end h = go (ltb i n) refl
    where
      go : (b : Bool) → ltb i n ≡ b → unwrap_or (pick b (Some i) None) n ≡ i
      go true f = refl
      go false f = omega (arith, ltb-false i n f)

pub some_below : (n i : ℕ) → is_some (place_below n i) ≡ true → i < n
some_below n i = go (ltb i n) refl
  where
    go : (b : Bool) → ltb i n ≡ b → is_some (pick b (Some i) None) ≡ true → i < n
    go true f e = ltb-true i n f
    go false f e = absurd (true≢false (sym e))

pub none_below : (n i : ℕ) → is_some (place_below n i) ≡ false → n ≤ i
none_below n i = go (ltb i n) refl
  where
    go : (b : Bool) → ltb i n ≡ b → is_some (pick b (Some i) None) ≡ false → n ≤ i
    go true f e = absurd (true≢false e)
    go false f e = ltb-false i n f

-- an entry of a run can be read
pub entry_ready : (bytes work : List ℕ) (first end k : ℕ) → LongEnough work → PlacedRun (length (records bytes)) (view work) first end → first ≤ k → k < end
    → ReadableEntry bytes work k
entry_ready bytes work first end k long run from to = record { long = long; place = omega (arith, run.bounded); item = item_fits bytes (view work) first end k _ run from to refl }

-- ---- two entries
module _ (v : Room) (j k a b : ℕ) (one : a ≡ (entry_in v j).item) (two : b ≡ (entry_in v k).item) where
  pub entries_differ : (a ≡ b → ⊥) → false ≡ same_entry (entry_in v j) (entry_in v k)
  unfolding same_entry
  entries_differ ne = let f : eqb (entry_in v j).item (entry_in v k).item ≡ false = ne_eqb _ _ (λ e. ne (one ∙ e ∙ sym two)) in rw f

  pub entries_alike : (p q : ℕ) (r : Bool) → (a ≡ b) → p ≡ 128 + j → q ≡ 128 + k → r ≡ eqb (set_at v p) (set_at v q) → r ≡ same_entry (entry_in v j) (entry_in v k)
  unfolding same_entry
  entries_alike p q r e ep eq says =
      let t : eqb (entry_in v j).item (entry_in v k).item ≡ true = eq-eqb _ _ (sym one ∙ e ∙ two) in
      rw (t, set_of_lem v j, set_of_lem v k) (rw (ep, eq) at says)
