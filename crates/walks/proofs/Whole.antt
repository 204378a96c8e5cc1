-- The fuel of a walk disappears: with what its caller gives, a walk is its own step over again.
use Prim.Native.Nat.{ℕ, suc, ◌+◌, ◌<◌, ◌≤◌}
use mathlib.Core.Path.{◌≡◌, sym, ap, ◌∙◌}
use mathlib.Core.Bool.{Bool, true, false}
use native.Mathlib.Omega.{arith}
use native.Mathlib.Numerals.{add-one}
use lib.ListN.{length}
use Rattle.rules.specs.Limits.{Limits}
use Rattle.rules.specs.Records.{Grammar}
use Rattle.rules.specs.Tokens.{has}
use Rattle.rules.specs.States.{done, each_in_turn}
use Rattle.rules.specs.Lanes.{LaneTable}
use Rattle.rules.specs.Merge.{Merge, successors_of, mark_walked, walk}
use Rattle.walks.specs.Whole.{walked, gone_on, over_successor}
use Rattle.walks.proofs.Walk.{Fits, walked_by, walk_fuel}

module _ (l : Limits) (g : Grammar) (table : LaneTable) (s : ℕ) (m : Merge) where
  -- as `merge_rows` calls it
  pub merge_rows_walk : walk l g table (l.states + 1) s m ≡ walked l g table s m
  unfolding walked
  merge_rows_walk = ap (λ (fuel : ℕ). walk l g table fuel s m) (add-one l.states)

  -- ---- a state that was walked
  pub walk_seen : has m.walked s ≡ true → walked l g table s m ≡ done m
  unfolding walked walk
  walk_seen e = ap (λ (b : Bool). walked_by l g table l.states s m b) e

  -- ---- any other
  module _ (rows : length table ≤ l.states) (within : s < l.states) (fits : Fits l m) where
    walk_again : has m.walked s ≡ false → walk l g table (suc (suc l.states)) s m ≡ each_in_turn (over_successor l g table s) (successors_of table m s) (mark_walked s m)
    unfolding over_successor gone_on walked walk
    walk_again e = ap (λ (b : Bool). walked_by l g table (suc l.states) s m b) e

    pub walk_goes : has m.walked s ≡ false → walked l g table s m ≡ each_in_turn (over_successor l g table s) (successors_of table m s) (mark_walked s m)
    unfolding walked
    walk_goes e = sym (walk_fuel l g table rows l.states (suc l.states) s m (omega arith) within fits (omega arith)) ∙ walk_again e
