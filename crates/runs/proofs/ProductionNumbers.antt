-- The numbers of a coded grammar's productions: a number has one left and one right side; the start stands on the left of production 0
-- alone and on no right side.
use Prim.Native.Nat.{ℕ, zero, suc, ◌+◌, ◌-◌, ◌<◌, ◌≤◌}
use mathlib.Core.Path.{◌≡◌, refl, sym, ap, ◌∙◌}
use mathlib.Core.Logic.{◌⊎◌, inl, inr, ⊎_elim}
use mathlib.Core.Bool.{true, ◌&&◌, not, true≢false}
use mathlib.Core.List.{List}
use native.Mathlib.Omega.{arith}
use native.Mathlib.Decide.{dec_lt}
use lib.ListN.{length, drop, length-drop}
use lib.Seq.{get_or-drop}
use lib.Dec.{eqb}
use borrow.Author.Tests.{eqb-true, eq-eqb, not-false}
use Rattle.base.specs.Among.{Among}
use Rattle.base.proofs.Found.{before_first, at_first}
use Rattle.base.proofs.Places.{place}
use Rattle.base.proofs.Tests.{both_true, either_true, or_false}
use Rattle.rules.specs.Limits.{Limits}
use Rattle.rules.specs.Records.{Record, Grammar, past, at, is_left_side, bad_record, comes_behind, in_sequence, out_of_sequence}
use Rattle.rules.specs.Grammar.{Symbol, nonterminal, symbols_behind, left_side_of, start, left_of}
use Rattle.rules.specs.Run.{side_length}
use Rattle.knuth.specs.Rules.{Rule}
use Rattle.knuth.specs.Coded.{Checked}
use Rattle.knuth.proofs.Productions.{side_among, nonterminal_record}
use Rattle.knuth.proofs.Checked.{in_sequence_behind, names_start_first, start_is_first}

-- ---- records in sequence
pub comes_behind_lem : (q r : Record) → comes_behind q r ≡ true
    → ((r.production ≡ q.production) × (r.position ≡ q.position + 1)) ⊎ ((r.production ≡ q.production + 1) × (r.position ≡ 0))
unfolding comes_behind
comes_behind_lem q r e =
    let next = eqb r.production q.production && eqb r.position (q.position + 1) in
    let new = eqb r.production (q.production + 1) && eqb r.position 0 in
    ⊎_elim (λ f. let (a, b) = both_true _ _ f in inl (eqb-true _ _ a, eqb-true _ _ b)) (λ f. let (a, b) = both_true _ _ f in inr (eqb-true _ _ a, eqb-true _ _ b))
    (either_true next new e)

number_ascends : (q r : Record) → comes_behind q r ≡ true → (q.production ≤ r.production) × (r.position ≡ 0 → q.production < r.production)
number_ascends q r e = ⊎_elim (λ (a, b). (omega arith, λ z. omega arith)) (λ (a, b). (omega arith, λ z. omega arith)) (comes_behind_lem q r e)

-- a record behind the first k stands at a place from k on
among_drop_at : {r : Record} (k : ℕ) (g : Grammar) → Among r (drop k g) → (i : ℕ) × (k ≤ i) × (i < length g) × (at g i ≡ r)
unfolding at
among_drop_at k g m =
    let (j, h, e) = place past m in
    (k + j, omega arith, omega (arith, length-drop k g), sym (e ∙ get_or-drop k g j past))

module _ (l : Limits) (g : Grammar) (checked : Checked l g) where
  pub in_sequence_lem : (i : ℕ) → i < length g → in_sequence g i ≡ true
  unfolding out_of_sequence
  in_sequence_lem i h =
      let (_, q) = or_false (bad_record l (at g i)) _ (checked.faultless i h) in
      let (p, _) = or_false (not (in_sequence g i)) _ q in
      not-false _ p

  numbers_ascend : (k i j : ℕ) → j ≡ i + suc k → j < length g
      → ((at g i).production ≤ (at g j).production) × ((at g j).position ≡ 0 → (at g i).production < (at g j).production)
  numbers_ascend zero i j e h =
      let e₁ : j ≡ i + 1 = omega arith in
      rw e₁ (number_ascends (at g i) (at g (i + 1)) (in_sequence_behind g i (in_sequence_lem (i + 1) (omega arith))))
  numbers_ascend (suc k) i j e h =
      let m : ℕ = i + suc k in
      let e₁ : j ≡ m + 1 = omega arith in
      let (a, _) = numbers_ascend k i m refl (omega arith) in
      let (b, c) = number_ascends (at g m) (at g (m + 1)) (in_sequence_behind g m (in_sequence_lem (m + 1) (omega arith))) in
      rw e₁ (omega arith, λ z. omega (arith, c z))

  pub first_record : 0 < length g → ((at g 0).production ≡ 0) × ((at g 0).position ≡ 0)
  unfolding in_sequence
  first_record h =
      let (a, b) = both_true (eqb (at g 0).production 0) (eqb (at g 0).position 0) (in_sequence_lem 0 h) in
      (eqb-true _ _ a, eqb-true _ _ b)

  -- ---- the left-side record of a production
  left_side_found : {p A : ℕ} {η : List Symbol} (r : Rule g p A η) → left_side_of g p ≡ r.left_side
  unfolding left_side_of is_left_side
  left_side_found {p} r = omega (arith, not_later, not_earlier)
    where
      passes : (is_left_side (at g r.left_side) && eqb (at g r.left_side).production p) ≡ true
      passes = rw (eq-eqb _ _ r.position, eq-eqb _ _ r.number)

      not_later : left_side_of g p ≤ r.left_side
      not_later = elim (dec_lt r.left_side (left_side_of g p)) [
        | yes h ↦ absurd (true≢false (sym passes ∙ before_first (λ i. is_left_side (at g i) && eqb (at g i).production p) (length g) 0 r.left_side (omega arith) h))
        | no h ↦ omega arith
      ]

      not_earlier : r.left_side ≤ left_side_of g p
      not_earlier = elim (dec_lt (left_side_of g p) r.left_side) [
        | yes h ↦
            let k : ℕ = left_side_of g p in
            let w : r.left_side < length g = r.within in
            let e = at_first (λ i. is_left_side (at g i) && eqb (at g i).production p) (length g) 0 (omega arith) in
            let (_, e₂) = both_true (is_left_side (at g k)) (eqb (at g k).production p) e in
            let n₂ = eqb-true (at g k).production p e₂ in
            let n₁ = r.number in
            let (_, c) = numbers_ascend (r.left_side - suc k) k r.left_side (omega arith) w in
            omega (arith, c r.position)
        | no h ↦ omega arith
      ]

  pub side_length_lem : {p A : ℕ} {η : List Symbol} → Rule g p A η → side_length g p ≡ length η
  unfolding side_length
  side_length_lem r = ap length (ap (symbols_behind g) (left_side_found r) ∙ r.right)

  pub production_left : {p A : ℕ} {η : List Symbol} → Rule g p A η → left_of g p ≡ A
  unfolding left_of
  production_left r = ap (λ i. (at g i).symbol) (left_side_found r) ∙ r.left

  -- ---- the start
  pub start_has_zero : {p : ℕ} {η : List Symbol} → Rule g p (start g) η → p ≡ 0
  start_has_zero r =
      let z : r.left_side ≡ 0 = start_is_first l g checked r in
      let w : r.left_side < length g = r.within in
      sym r.number ∙ ap (λ i. (at g i).production) z ∙ (first_record (omega arith)).0

  pub zero_has_start : {A : ℕ} {η : List Symbol} → Rule g 0 A η → A ≡ start g
  unfolding start
  zero_has_start r = sym r.left ∙ ap (λ i. (at g i).symbol) z
    where
      z : r.left_side ≡ 0
      z = elim (dec_lt 0 r.left_side) [
        | yes h ↦
            let w : r.left_side < length g = r.within in
            let n = r.number in
            let (_, c) = numbers_ascend (r.left_side - 1) 0 r.left_side (omega arith) w in
            absurd (omega (arith, c r.position))
        | no h ↦ omega arith
      ]

  pub rule_zero : 0 < length g → Rule g 0 (start g) (symbols_behind g 0)
  unfolding start
  rule_zero h = let (n, p) = first_record h in record { left_side = 0; within = h; position = p; number = n; left = refl; right = refl }

  pub start_behind_none : {p A : ℕ} {η : List Symbol} → Rule g p A η → Among (nonterminal (start g)) η → ⊥
  unfolding symbols_behind
  start_behind_none r m =
      let (q, k, e) = side_among (drop (r.left_side + 1) g) (rw (← r.right) at m) in
      let (i, low, h, e₁) = among_drop_at (r.left_side + 1) g k in
      let (nt, s) = nonterminal_record q (start g) e in
      let z : i ≡ 0 = names_start_first g i (rw e₁ nt) (rw e₁ s) (checked.start_once i h) in
      omega arith
