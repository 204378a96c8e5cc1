-- Where a record stands among ascending ones: the first that reaches a place is the one asked for if any is.
use Prim.Native.Nat.{ℕ, ◌<◌, ◌≤◌}
use mathlib.Core.Path.{◌≡◌, sym, ◌∙◌}
use mathlib.Core.Bool.{Bool, true, false, true≢false}
use mathlib.Core.List.{List}
use native.Mathlib.Omega.{arith}
use native.Mathlib.Decide.{ℕ_discrete, dec_lt}
use borrow.Author.Tests.{not-true, not-false, lt-ltb, le-ltb}
use Rattle.std.specs.Prelude.{None}
use Rattle.std.specs.Bool.{then_some}
use Rattle.base.specs.Halving.{PassInFront}
use Rattle.base.specs.Loops.{place_below}
use Rattle.base.proofs.Found.{before_first, at_first}
use Rattle.grammar.proofs.Sequence.{first_is}
use Rattle.rules.specs.Table.{TableRecord, table_record, is_for}
use Rattle.rules.specs.Drive.{table_at, ascends}
use Rattle.record.specs.Search.{Ascending, reaches, is_at, first_reaching, first_for}
use Rattle.record.proofs.Order.{ascends_trans, earlier_before, for_reaches, before_for}

-- ---- the halving of n records: those that come before w stand in front
pub earlier_in_front : (rs : List TableRecord) (n : ℕ) (w : TableRecord) → Ascending rs n → PassInFront n (λ i. ascends (table_at rs i) w)
earlier_in_front rs n w ascending i j l h e = elim (ℕ_discrete i j) [
  | yes q ↦ rw q e
  | no other ↦ ascends_trans (table_at rs i) (table_at rs j) w (earlier_before rs n ascending i j (omega arith) h) e
]

-- ---- the record asked for; p is the first that reaches its place
module _ (rs : List TableRecord) (n s kind symbol p : ℕ) (ascending : Ascending rs n) (e : p ≡ first_reaching rs n s kind symbol) where
  none_earlier : (j : ℕ) → j < p → is_at rs s kind symbol j ≡ true → ⊥
  unfolding first_reaching reaches is_at
  none_earlier j h t =
      for_reaches s kind symbol (table_at rs j) t
      (not-false _ (before_first (reaches rs s kind symbol) n 0 j (omega arith) (omega arith)))

  reached : p < n → ascends (table_at rs p) (table_record s kind symbol 0) ≡ false
  unfolding first_reaching reaches
  reached h = not-true _ (rw (sym e) at (at_first (reaches rs s kind symbol) n 0 (omega arith)))

  none_later : p < n → (j : ℕ) → p < j → j < n → is_at rs s kind symbol j ≡ true → ⊥
  unfolding is_at
  none_later h j l m t =
      true≢false (sym (before_for s kind symbol (table_at rs j) t (table_at rs p) (earlier_before rs n ascending p j l m)) ∙ reached h)

  none_for : n ≡ first_for rs n s kind symbol → None ≡ place_below n (first_for rs n s kind symbol)
  none_for e = rw (← e, le-ltb n n (omega arith))

  pub asked_past : (b : Bool) → n ≤ p → b ≡ false → then_some b p ≡ place_below n (first_for rs n s kind symbol)
  unfolding first_for
  asked_past b h f =
      rw f (none_for (sym (first_is (is_at rs s kind symbol) n n (omega arith) (λ m. absurd (omega arith)) (λ j m. none_earlier j (omega arith)))))

  module _ (h : p < n) where
    found_there : is_for s kind symbol (table_at rs p) ≡ true → first_for rs n s kind symbol ≡ p
    unfolding first_for is_at
    found_there t = first_is (is_at rs s kind symbol) n p (omega arith) (λ m. t) none_earlier

    found_nowhere : is_for s kind symbol (table_at rs p) ≡ false → first_for rs n s kind symbol ≡ n
    unfolding first_for is_at
    found_nowhere t = first_is (is_at rs s kind symbol) n n (omega arith) (λ m. absurd (omega arith)) none
      where
        none : (j : ℕ) → j < n → is_at rs s kind symbol j ≡ true → ⊥
        none j m u = elim (dec_lt j p) [
          | yes l ↦ none_earlier j l u
          | no l ↦ elim (ℕ_discrete j p) [
            | yes q ↦ true≢false (sym u ∙ rw q t)
            | no q ↦ none_later h j (omega arith) m u
          ]
        ]

    pub asked_there : (b : Bool) → b ≡ is_for s kind symbol (table_at rs p) → then_some b p ≡ place_below n (first_for rs n s kind symbol)
    asked_there true e = rw (found_there (sym e), lt-ltb p n h)
    asked_there false e = none_for (sym (found_nowhere (sym e)))
