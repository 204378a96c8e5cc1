-- The states that are left to walk: a call that does not stop at once leaves fewer, joining a successor leaves as many, and a walk no more.
use Prim.Native.Nat.{ℕ, suc, ◌-◌, ◌<◌, ◌≤◌}
use mathlib.Core.Path.{◌≡◌, sym, ap}
use mathlib.Core.Bool.{false}
use native.Mathlib.Omega.{arith}
use lib.ListN.{length}
use Rattle.rules.specs.Limits.{Limits}
use Rattle.rules.specs.Records.{Grammar}
use Rattle.rules.specs.Tokens.{has}
use Rattle.rules.specs.States.{done}
use Rattle.rules.specs.Lanes.{LaneTable}
use Rattle.rules.specs.Merge.{Merge, Joining, join_successor, mark_walked, walk}
use Rattle.sets.specs.Size.{size}
use Rattle.sets.proofs.Laws.{size_le}
use Rattle.walks.specs.Whole.{walks_left, walked}
use Rattle.walks.proofs.Outcomes.{holds_done}
use Rattle.walks.proofs.Walk.{Fits, walks, WalkedAtLeast, mark_walked_counts, JoinsWithin, successor_joins, walk_keeps_walked}

pub mark_walked_left : (l : Limits) (s : ℕ) (m : Merge) → s < l.states → has m.walked s ≡ false → walks_left l (mark_walked s m) < walks_left l m
unfolding walks_left
mark_walked_left l s m within e = omega (arith, mark_walked_counts l s m within e, size_le l.states (mark_walked s m).walked)

module _ (l : Limits) (g : Grammar) (table : LaneTable) (rows : length table ≤ l.states) (m : Merge) (fits : Fits l m) where
  pub joining_left : (s successor : ℕ) (j : Joining) → successor < l.states → done j ≡ join_successor l g table s successor m → walks_left l j.merge ≡ walks_left l m
  unfolding walks_left
  joining_left s successor j within e =
      let (_, p) = holds_done (JoinsWithin l g table rows m) j (join_successor l g table s successor m) (sym e) (successor_joins l g table rows s successor m fits within) in
      ap (λ (w : ℕ). l.states - size l.states w) p.same

  pub walk_left : (s : ℕ) (m' : Merge) → done m' ≡ walked l g table s m → walks_left l m' ≤ walks_left l m
  unfolding walked walks_left
  walk_left s m' e =
      let kept = walk_keeps_walked l g table rows (walks l m) (suc l.states) s m (fits, omega arith) in
      let (_, h) = holds_done (WalkedAtLeast l (walks l m)) m' (walk l g table (suc l.states) s m) (sym e) kept in
      omega arith
