-- The order of records by state, kind, symbol: it is one, and a record that is for a key stands neither before it nor behind it.
use Prim.Native.Nat.{ℕ, zero, suc, ◌-◌, ◌<◌}
use mathlib.Core.Path.{◌≡◌}
use mathlib.Core.Logic.{⊎_elim}
use mathlib.Core.Bool.{true, ◌&&◌, ◌||◌}
use mathlib.Core.List.{List}
use native.Mathlib.Omega.{arith}
use native.Mathlib.Decide.{ℕ_discrete}
use lib.Dec.{eqb, ltb}
use borrow.Author.Tests.{eqb-true, eq-eqb, lt-ltb, le-ltb, ltb-true}
use Rattle.base.proofs.Tests.{both_true, either_true}
use Rattle.rules.specs.Table.{TableRecord, table_record, is_for}
use Rattle.rules.specs.Drive.{table_at, ascends}
use Rattle.record.specs.Search.{Ascending}

data Before (q r : TableRecord) : Type 0 where
  by_state : q.state < r.state → Before q r
  by_kind : q.state ≡ r.state → q.kind < r.kind → Before q r
  by_symbol : q.state ≡ r.state → q.kind ≡ r.kind → q.symbol < r.symbol → Before q r

is_before_lem : (q r : TableRecord) → ascends q r ≡ true → Before q r
unfolding ascends
is_before_lem q r e = ⊎_elim (λ h. by_state (ltb-true _ _ h)) same_state (either_true (ltb q.state r.state) _ e)
  where
    same_kind : q.state ≡ r.state → (eqb q.kind r.kind && ltb q.symbol r.symbol) ≡ true → Before q r
    same_kind s h = let both = both_true (eqb q.kind r.kind) _ h in by_symbol s (eqb-true _ _ both.0) (ltb-true _ _ both.1)

    same_state : (eqb q.state r.state && (ltb q.kind r.kind || (eqb q.kind r.kind && ltb q.symbol r.symbol))) ≡ true → Before q r
    same_state h =
        let both = both_true (eqb q.state r.state) _ h in
        let s : q.state ≡ r.state = eqb-true _ _ both.0 in
        ⊎_elim (λ k. by_kind s (ltb-true _ _ k)) (same_kind s) (either_true (ltb q.kind r.kind) _ both.1)

before_is : (q r : TableRecord) → Before q r → ascends q r ≡ true
unfolding ascends
before_is q r (by_state h) = rw (lt-ltb q.state r.state h)
before_is q r (by_kind s h) = rw (le-ltb q.state r.state (omega arith), eq-eqb q.state r.state s, lt-ltb q.kind r.kind h)
before_is q r (by_symbol s k h) =
    rw (
      le-ltb q.state r.state (omega arith),
      eq-eqb q.state r.state s,
      le-ltb q.kind r.kind (omega arith),
      eq-eqb q.kind r.kind k,
      lt-ltb q.symbol r.symbol h,
    )

before_trans : {q r w : TableRecord} → Before q r → Before r w → Before q w
before_trans (by_state a) (by_state b) = by_state (omega arith)
before_trans (by_state a) (by_kind b h) = by_state (omega arith)
before_trans (by_state a) (by_symbol b k h) = by_state (omega arith)
before_trans (by_kind s a) (by_state b) = by_state (omega arith)
before_trans (by_kind s a) (by_kind b h) = by_kind (omega arith) (omega arith)
before_trans (by_kind s a) (by_symbol b k h) = by_kind (omega arith) (omega arith)
before_trans (by_symbol s k a) (by_state b) = by_state (omega arith)
before_trans (by_symbol s k a) (by_kind b h) = by_kind (omega arith) (omega arith)
before_trans (by_symbol s k a) (by_symbol b l h) = by_symbol (omega arith) (omega arith) (omega arith)

pub ascends_trans : (q r w : TableRecord) → ascends q r ≡ true → ascends r w ≡ true → ascends q w ≡ true
ascends_trans q r w a b = before_is q w (before_trans (is_before_lem q r a) (is_before_lem r w b))

-- ---- ascending records: an earlier one comes before a later one
module _ (rs : List TableRecord) (n : ℕ) (ordered : Ascending rs n) where
  pub earlier_before : (i j : ℕ) → i < j → j < n → ascends (table_at rs i) (table_at rs j) ≡ true
  earlier_before i zero l h = absurd (omega arith)
  earlier_before i (suc j) l h =
      let back : suc j - 1 ≡ j = omega arith in
      let step : ascends (table_at rs j) (table_at rs (suc j)) ≡ true = rw back at (ordered.next (suc j) (omega arith) h) in
      elim (ℕ_discrete i j) [
        | yes e ↦ rw e step
        | no other ↦ ascends_trans (table_at rs i) (table_at rs j) (table_at rs (suc j)) (earlier_before i j (omega arith) (omega arith)) step
      ]

-- ---- a record for the state, kind and symbol
module _ (s kind symbol : ℕ) (q : TableRecord) (e : is_for s kind symbol q ≡ true) where
  pub for_state : q.state ≡ s
  unfolding is_for
  for_state = eqb-true _ _ (both_true (eqb q.state s) _ e).0

  pub for_kind : q.kind ≡ kind
  unfolding is_for
  for_kind = eqb-true _ _ (both_true (eqb q.kind kind) _ (both_true (eqb q.state s) _ e).1).0

  pub for_symbol : q.symbol ≡ symbol
  unfolding is_for
  for_symbol = eqb-true _ _ (both_true (eqb q.kind kind) _ (both_true (eqb q.state s) _ e).1).1

  -- it does not come before its own place
  pub for_reaches : ascends q (table_record s kind symbol 0) ≡ true → ⊥
  unfolding table_record
  for_reaches h = by_way (is_before_lem q (table_record s kind symbol 0) h)
    where
      by_way : Before q (table_record s kind symbol 0) → ⊥
      by_way (by_state a) = omega (arith, for_state)
      by_way (by_kind a b) = omega (arith, for_kind)
      by_way (by_symbol a b c) = omega (arith, for_symbol)

  -- what comes before it comes before its place
  pub before_for : (p : TableRecord) → ascends p q ≡ true → ascends p (table_record s kind symbol 0) ≡ true
  unfolding table_record
  before_for p h = before_is p (table_record s kind symbol 0) (by_way (is_before_lem p q h))
    where
      by_way : Before p q → Before p (table_record s kind symbol 0)
      by_way (by_state a) = by_state (omega (arith, for_state))
      by_way (by_kind a b) = by_kind (omega (arith, for_state)) (omega (arith, for_kind))
      by_way (by_symbol a b c) = by_symbol (omega (arith, for_state)) (omega (arith, for_kind)) (omega (arith, for_symbol))

-- a shift does not come behind a reduction of its state
pub shift_not_behind : (r q : TableRecord) → r.kind ≡ 2 → is_for r.state 0 r.symbol q ≡ true → ascends r q ≡ true → ⊥
shift_not_behind r q reduction e h = by_way (is_before_lem r q h)
  where
    by_way : Before r q → ⊥
    by_way (by_state a) = omega (arith, for_state r.state 0 r.symbol q e)
    by_way (by_kind a b) = omega (arith, for_kind r.state 0 r.symbol q e)
    by_way (by_symbol a b c) = omega (arith, for_kind r.state 0 r.symbol q e)
