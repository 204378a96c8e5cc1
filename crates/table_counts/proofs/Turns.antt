-- Lists of records one after another, turn by turn, and their lengths.
use Prim.Native.Nat.{ℕ, suc, ◌+◌, ◌-◌, ◌<◌, ◌≤◌}
use mathlib.Core.Path.{◌≡◌}
use mathlib.Core.List.{List, [], ◌++◌}
use native.Mathlib.Omega.{arith}
use native.Mathlib.Numerals.{add-one}
use Rattle.base.specs.Lists.{numbers_from, concat}
use Rattle.rules.specs.Table.{TableRecord}
use Rattle.table_counts.specs.Records.{in_turn}

module _ (f : ℕ → List TableRecord) (n i : ℕ) where
  pub turn_none : n ≤ i → in_turn f i n ≡ []
  unfolding in_turn concat numbers_from
  turn_none h = let e : n - i ≡ 0 = omega arith in rw e

  pub turn_more : i < n → in_turn f i n ≡ f i ++ in_turn f (i + 1) n
  unfolding in_turn concat numbers_from
  turn_more h = let e : n - i ≡ suc (n - (i + 1)) = omega arith in rw (e, add-one)
