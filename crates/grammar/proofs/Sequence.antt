-- Records in sequence: the numbers of productions ascend, a record's left side stands its position before it, and the first record
-- that belongs to no earlier production is the left side of the production asked for.
use Prim.Native.Nat.{ℕ, zero, suc, ◌+◌, ◌-◌, ◌<◌, ◌≤◌}
use mathlib.Core.Path.{◌≡◌, refl, sym, ap, ◌∙◌}
use mathlib.Core.Logic.{⊎_elim}
use mathlib.Core.Bool.{true, false, ◌&&◌}
use native.Mathlib.Omega.{arith}
use native.Mathlib.Decide.{ℕ_discrete}
use lib.ListN.{length}
use lib.Dec.{eqb}
use borrow.Author.Tests.{eqb-true, ne_eqb, eq-eqb}
pub use Rattle.base.proofs.Found.{first_is}
use Rattle.base.proofs.Tests.{both_true, either_true}
use Rattle.rules.specs.Records.{Record, Grammar, at, is_left_side, comes_behind, in_sequence}
use Rattle.rules.specs.Grammar.{left_side_of}

-- r is the next record of q's production, or begins the next production
data Follows (q r : Record) : Type 0 where
  next : r.production ≡ q.production → r.position ≡ q.position + 1 → Follows q r
  begins : r.production ≡ q.production + 1 → r.position ≡ 0 → Follows q r

behind_follows : (q r : Record) → comes_behind q r ≡ true → Follows q r
unfolding comes_behind
behind_follows q r e =
    ⊎_elim
    (λ b. let (f, h) = both_true _ _ b in next (eqb-true _ _ f) (eqb-true _ _ h))
    (λ b. let (f, h) = both_true _ _ b in begins (eqb-true _ _ f) (eqb-true _ _ h))
    (either_true _ _ e)

module _ (g : Grammar) (sequence : (i : ℕ) → i < length g → in_sequence g i ≡ true) where
  first_record : 0 < length g → ((at g 0).production ≡ 0) × ((at g 0).position ≡ 0)
  unfolding in_sequence
  first_record h = let (e, f) = both_true _ _ (sequence 0 h) in (eqb-true _ _ e, eqb-true _ _ f)

  follows : (i : ℕ) → suc i < length g → Follows (at g i) (at g (suc i))
  unfolding in_sequence
  follows i h =
      let k : suc i - 1 ≡ i = omega arith in
      let some : eqb (suc i) 0 ≡ false = ne_eqb (suc i) 0 (λ z. omega arith) in
      let e : comes_behind (at g (suc i - 1)) (at g (suc i)) ≡ true = rw some at (sequence (suc i) h) in
      behind_follows (at g i) (at g (suc i)) (rw k at e)

  pub ascends : (i j : ℕ) → i < length g → j ≤ i → (at g j).production ≤ (at g i).production
  ascends zero j h l = let e : j ≡ 0 = omega arith in rw e (omega arith)
  ascends (suc i) j h l = elim (ℕ_discrete j (suc i)) [
    | yes e ↦ rw e (omega arith)
    | no n ↦ let before = ascends i j (omega arith) (omega arith) in up (follows i h) before
  ]
    where
      up : Follows (at g i) (at g (suc i)) → (at g j).production ≤ (at g i).production → (at g j).production ≤ (at g (suc i)).production
      up (next e f) b = omega arith
      up (begins e f) b = omega arith

  -- records before a left side belong to earlier productions
  earlier : (i j : ℕ) → i < length g → (at g i).position ≡ 0 → j < i → (at g j).production < (at g i).production
  earlier zero j h z l = absurd (omega arith)
  earlier (suc i) j h z l = up (follows i h) (ascends i j (omega arith) (omega arith))
    where
      up : Follows (at g i) (at g (suc i)) → (at g j).production ≤ (at g i).production → (at g j).production < (at g (suc i)).production
      up (next e f) b = absurd (omega arith)
      up (begins e f) b = omega arith

  -- ---- the left side of a production
  left_side_is : (i : ℕ) → i < length g → (at g i).position ≡ 0 → left_side_of g (at g i).production ≡ i
  unfolding left_side_of is_left_side
  left_side_is i h z = first_is _ (length g) i (omega arith) (λ l. rw (eq-eqb _ _ z, eq-eqb _ _ refl)) none
    where
      none : (j : ℕ) → j < i → (eqb (at g j).position 0 && eqb (at g j).production (at g i).production) ≡ true → ⊥
      none j l t =
          let e : (at g j).production ≡ (at g i).production = eqb-true _ _ (both_true (eqb (at g j).position 0) _ t).1 in
          let b = earlier i j h z l in
          omega arith

  -- the left side that stands before record i, as many places back as its position says
  record LeftSide (i : ℕ) : Type 0 where
    place : ℕ
    back : place + (at g i).position ≡ i
    left : (at g place).position ≡ 0
    same : (at g place).production ≡ (at g i).production

  left_side_lem : (i : ℕ) → i < length g → LeftSide i
  left_side_lem zero h = let (_, z) = first_record h in record { place = 0; back = omega arith; left = z; same = refl }
  left_side_lem (suc i) h = go (follows i h) (left_side_lem i (omega arith))
    where
      go : Follows (at g i) (at g (suc i)) → LeftSide i → LeftSide (suc i)
      go (next e f) s = let b = s.back in record { place = s.place; back = omega arith; left = s.left; same = s.same ∙ sym e }
      go (begins e f) s = record { place = suc i; back = omega arith; left = f; same = refl }

  pub left_back : (i : ℕ) → i < length g → ((at g i).position ≤ i) × (i - (at g i).position ≡ left_side_of g (at g i).production)
  left_back i h =
      let s = left_side_lem i h in
      let b = s.back in
      let k : i - (at g i).position ≡ s.place = omega arith in
      (omega arith, k ∙ sym (left_side_is s.place (omega arith) s.left) ∙ ap (left_side_of g) s.same)

  -- the first record that belongs to no production before p
  pub left_side_first : (p k : ℕ) → k ≤ length g → ((j : ℕ) → j < k → (at g j).production < p)
      → (k < length g → p ≤ (at g k).production) → left_side_of g p ≡ k
  unfolding left_side_of is_left_side
  left_side_first p k l below above = first_is _ (length g) k l (λ h. passes k h below (above h)) none
    where
      passes : (k : ℕ) → k < length g → ((j : ℕ) → j < k → (at g j).production < p) → p ≤ (at g k).production
          → (eqb (at g k).position 0 && eqb (at g k).production p) ≡ true
      passes zero h low up = let (e, f) = first_record h in rw (eq-eqb _ _ f, eq-eqb (at g 0).production p (omega arith))
      passes (suc i) h low up = go (follows i h) (low i (omega arith))
        where
          go : Follows (at g i) (at g (suc i)) → (at g i).production < p
              → (eqb (at g (suc i)).position 0 && eqb (at g (suc i)).production p) ≡ true
          go (next e f) b = absurd (omega arith)
          go (begins e f) b = rw (eq-eqb _ _ f, eq-eqb (at g (suc i)).production p (omega arith))

      none : (j : ℕ) → j < k → (eqb (at g j).position 0 && eqb (at g j).production p) ≡ true → ⊥
      none j h t =
          let e : (at g j).production ≡ p = eqb-true _ _ (both_true (eqb (at g j).position 0) _ t).1 in
          let b = below j h in
          omega arith
