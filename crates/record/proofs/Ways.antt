-- The ways in which a record comes before a place, field by field.
use Prim.Native.Nat.{ℕ, ◌<◌, ◌≤◌}
use mathlib.Core.Path.{◌≡◌, refl}
use native.Mathlib.Omega.{arith}
use lib.Dec.{ltb}
use borrow.Author.Tests.{eq-eqb, ne_eqb, le-ltb}
use mathlib.Core.Bool.{Bool, true, false, ◌&&◌, ◌||◌}
use Rattle.rules.specs.Table.{TableRecord, table_record}
use Rattle.rules.specs.Drive.{ascends}

either_false : (b : Bool) → b ≡ (b || false)
either_false true = refl
either_false false = refl

-- q comes before a record of the state, kind and symbol; s, k and x are its own
module _ (q : TableRecord) (state kind symbol s : ℕ) (own : s ≡ q.state) where
  pub by_state : (s ≡ state → ⊥) → ltb s state ≡ ascends q (table_record state kind symbol 0)
  unfolding ascends table_record
  by_state h = rw (own, ne_eqb q.state state (λ e. h (omega arith))) (either_false (ltb q.state state))

  module _ (same : s ≡ state) (k : ℕ) (own-kind : k ≡ q.kind) where
    pub by_kind : (k ≡ kind → ⊥) → ltb k kind ≡ ascends q (table_record state kind symbol 0)
    unfolding ascends table_record
    by_kind h =
        rw (
          own-kind,
          le-ltb q.state state (omega arith),
          eq-eqb q.state state (omega arith),
          ne_eqb q.kind kind (λ e. h (omega arith)),
        ) (either_false (ltb q.kind kind))

    pub by_symbol : (x : ℕ) → k ≡ kind → x ≡ q.symbol → ltb x symbol ≡ ascends q (table_record state kind symbol 0)
    unfolding ascends table_record
    by_symbol x h e =
        rw (
          e,
          le-ltb q.state state (omega arith),
          eq-eqb q.state state (omega arith),
          le-ltb q.kind kind (omega arith),
          eq-eqb q.kind kind (omega arith),
        )
