-- What is found in the records of a table, and what is missed there.
use Prim.Native.Nat.{ℕ}
use mathlib.Core.Path.{◌≡◌, refl, sym, ◌∙◌}
use mathlib.Core.Logic.{◌⊎◌, inl, inr}
use mathlib.Core.Bool.{Bool, true, false, ◌&&◌, true≢false}
use mathlib.Core.Option.{none, some}
use mathlib.Core.List.{List, [], ◌∷◌}
use native.Mathlib.Omega.{arith}
use lib.Dec.{eqb}
use borrow.Author.Tests.{eqb-true, eq-eqb}
use Rattle.base.specs.Pick.{pick}
use Rattle.base.specs.Among.{Among, here, later}
use Rattle.base.specs.Lists.{some_of}
use Rattle.base.proofs.Lists.{among_cons}
use Rattle.base.proofs.Tests.{both_true, some_true}
use Rattle.rules.specs.Table.{TableRecord, table_record, is_for, target_of}

module _ (s kind y : ℕ) where
  -- what is found is the target of a record of that state, kind and symbol
  pub found : (rs : List TableRecord) (v : ℕ) → target_of rs s kind y ≡ some v → (r : TableRecord) × Among r rs × (is_for s kind y r ≡ true) × (r.target ≡ v)
  unfolding target_of
  found [] v e = absurd (let z : ◌≡◌ {A = ℕ} 0 1 = cc in omega arith)
  found (r ∷ rs) v e = go (is_for s kind y r) refl e (λ h. found rs v h)
    where
      go : (b : Bool) → is_for s kind y r ≡ b → pick b (some r.target) (target_of rs s kind y) ≡ some v
          → (target_of rs s kind y ≡ some v → (q : TableRecord) × Among q rs × (is_for s kind y q ≡ true) × (q.target ≡ v))
          → (q : TableRecord) × Among q (r ∷ rs) × (is_for s kind y q ≡ true) × (q.target ≡ v)
      go true q e more = (r, here, q, cc)
      go false q e more = let (x, m, h, k) = more e in (x, later m, h, k)

  pub is_for_lem : (r : TableRecord) → is_for s kind y r ≡ true → (r.state ≡ s) × (r.kind ≡ kind) × (r.symbol ≡ y)
  unfolding is_for
  is_for_lem r q =
      let (q₁, q₂) = both_true (eqb r.state s) (eqb r.kind kind && eqb r.symbol y) q in
      let (q₃, q₄) = both_true (eqb r.kind kind) (eqb r.symbol y) q₂ in
      (eqb-true _ _ q₁, eqb-true _ _ q₃, eqb-true _ _ q₄)

  -- nothing that is there is missed
  for_none : (rs : List TableRecord) {r : TableRecord} → Among r rs → is_for s kind y r ≡ true → target_of rs s kind y ≡ none → ⊥
  unfolding target_of
  for_none [] m h e = elim m [ ]
  for_none (q ∷ rs) {r} m h e = go (is_for s kind y q) refl e (among_cons m) (λ k e'. for_none rs k h e')
    where
      go : (b : Bool) → is_for s kind y q ≡ b → pick b (some q.target) (target_of rs s kind y) ≡ none → (r ≡ q) ⊎ Among r rs
          → (Among r rs → target_of rs s kind y ≡ none → ⊥) → ⊥
      go true d e m more = let z : ◌≡◌ {A = ℕ} 0 1 = cc in omega arith
      go false d e (inl same) more = true≢false (sym h ∙ rw (← same) at d)
      go false d e (inr k) more = more k e

  pub not_missed : (rs : List TableRecord) (v : ℕ) → Among (table_record s kind y v) rs → target_of rs s kind y ≡ none → ⊥
  unfolding is_for table_record
  not_missed rs v m = for_none rs m (rw (eq-eqb s s refl, eq-eqb kind kind refl, eq-eqb y y refl))

  pub missed_none : (rs : List TableRecord) → target_of rs s kind y ≡ none → some_of (is_for s kind y) rs ≡ false
  missed_none rs e = go (some_of (is_for s kind y) rs) refl
    where
      go : (b : Bool) → some_of (is_for s kind y) rs ≡ b → b ≡ false
      go true q = let (r, m, h) = some_true (is_for s kind y) rs q in absurd (for_none rs m h e)
      go false q = refl
