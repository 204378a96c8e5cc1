-- What the search finds is what the definition of a table's lookups says.
use Prim.Native.Nat.{ℕ, zero, suc, ◌<◌, ◌≤◌}
use mathlib.Core.Path.{◌≡◌, refl, sym, ◌∙◌}
use mathlib.Core.Bool.{true, false}
use mathlib.Core.List.{List, [], ◌∷◌}
use mathlib.Core.Option.{none, some}
use native.Mathlib.Omega.{arith}
use lib.ListN.{length}
use Rattle.base.specs.Loops.{place_below}
use Rattle.base.proofs.Found.{before_first, at_first}
use Rattle.rules.specs.Table.{TableRecord, is_for, target_of, act_by, table_in}
use Rattle.rules.specs.Drive.{table_at}
use Rattle.std.specs.Prelude as code
use Rattle.record.specs.declared.lookup.Act.TheVariants.{Shift, Reduce}
use Rattle.record.specs.Search.{is_at, first_for}
use Rattle.record.proofs.Below.{none_below, some_below}
use Rattle.record.specs.Lookup.{found_in, act_in}

module _ (s kind symbol : ℕ) where
  -- the target of the first record for them
  target_first : (rs : List TableRecord) (i : ℕ) → i < length rs → is_for s kind symbol (table_at rs i) ≡ true
      → ((j : ℕ) → j < i → is_for s kind symbol (table_at rs j) ≡ false) → target_of rs s kind symbol ≡ some (table_at rs i).target
  unfolding target_of table_at
  target_first [] i h e before = absurd (omega arith)
  target_first (r ∷ rs) zero h e before = rw e
  target_first (r ∷ rs) (suc i) h e before = rw (before 0 (omega arith)) (target_first rs i (omega arith) e (λ j l. before (suc j) (omega arith)))

  target_none : (rs : List TableRecord) → ((j : ℕ) → j < length rs → is_for s kind symbol (table_at rs j) ≡ false) → target_of rs s kind symbol ≡ none
  unfolding target_of table_at
  target_none [] none_is = refl
  target_none (r ∷ rs) none_is = rw (none_is 0 (omega arith)) (target_none rs (λ j l. none_is (suc j) (omega arith)))

-- ---- p is the first of the n records for them
module _ (rs : List TableRecord) (n s kind symbol p : ℕ) (l : n ≡ length rs) (e : p ≡ first_for rs n s kind symbol) where
  none_before : (j : ℕ) → j < p → is_for s kind symbol (table_at rs j) ≡ false
  unfolding first_for is_at
  none_before j h = before_first (is_at rs s kind symbol) n 0 j (omega arith) (omega arith)

  none_there : n ≤ p → none ≡ target_of rs s kind symbol
  none_there h = sym (target_none s kind symbol rs (λ j m. none_before j (omega arith)))

  target_there : p < n → some (table_at rs p).target ≡ target_of rs s kind symbol
  unfolding first_for is_at
  target_there h =
      sym (target_first s kind symbol rs p (omega arith) (rw (sym e) at (at_first (is_at rs s kind symbol) n 0 (omega arith))) none_before)

-- ---- what the search for them among n records, which are all of rs, answers; the kind is given as its byte
module _ (rs : List TableRecord) (n s byte symbol : ℕ) (l : n ≡ length rs) (at : code.Option ℕ) (e : at ≡ place_below n (first_for rs n s byte symbol))
    (kind : ℕ) (f : byte ≡ kind) where
  pub target_missing : at ≡ code.None → found_in code.None ≡ target_of rs s kind symbol
  unfolding found_in
  target_missing h = rw (← f) (none_there rs n s byte symbol (first_for rs n s byte symbol) l refl (none_below n (first_for rs n s byte symbol) (sym e ∙ h)))

  pub target_found : (p t : ℕ) → at ≡ code.Some p → t ≡ (table_at rs p).target → found_in (code.Some t) ≡ target_of rs s kind symbol
  unfolding found_in
  target_found p t h g =
      let there = some_below n (first_for rs n s byte symbol) p (sym e ∙ h) in
      rw (← f, g) (target_there rs n s byte symbol p l there.1 there.0)

-- ---- the action; shifting and reducing are what was found of the two kinds
module _ (rs : List TableRecord) (s t : ℕ) (shifting : code.Option ℕ) (e : found_in shifting ≡ target_of rs s 0 t) where
  pub acts_shift : (to : ℕ) → shifting ≡ code.Some to → act_in (code.Some (Shift to)) ≡ (table_in rs).act s t
  unfolding found_in act_in table_in act_by
  acts_shift to f = rw (← e, f)

  module _ (reducing : code.Option ℕ) (none-shifts : shifting ≡ code.None) (h : found_in reducing ≡ target_of rs s 2 t) where
    pub acts_reduce : (p : ℕ) → reducing ≡ code.Some p → act_in (code.Some (Reduce p)) ≡ (table_in rs).act s t
    unfolding found_in act_in table_in act_by
    acts_reduce p f = rw (← e, none-shifts, ← h, f)

    pub acts_not : reducing ≡ code.None → act_in code.None ≡ (table_in rs).act s t
    unfolding found_in act_in table_in act_by
    acts_not f = rw (← e, none-shifts, ← h, f)

-- where a state goes
pub goes_to : (rs : List TableRecord) (s a : ℕ) (r : code.Option ℕ) → found_in r ≡ target_of rs s 1 a → found_in r ≡ (table_in rs).goto s a
unfolding table_in
goes_to rs s a r e = e
