-- The pairs of state and item that a trace has left to visit: a visit that counts takes one, and a trace never gives one back.
use Prim.Native.Nat.{ℕ, suc, ◌*◌, ◌-◌, ◌<◌, ◌≤◌}
use mathlib.Core.Path.{◌≡◌, refl, ap}
use mathlib.Core.Bool.{false}
use mathlib.Core.List.{List, map}
use native.Mathlib.Omega.{arith}
use lib.ListN.{length}
use Rattle.base.specs.Lists.{sum}
use Rattle.rules.specs.Records.{Grammar}
use Rattle.rules.specs.First.{Sets}
use Rattle.rules.specs.States.{State}
use Rattle.rules.specs.Lanes.{LaneTable, Trace, on_table, was_visited, visit}
use Rattle.sets.specs.Size.{size}
use Rattle.traces.specs.Whole.{pairs_left, un_shifted, un_closed}
use Rattle.traces.proofs.Trace.{SeenAtLeast, both_keep, seen_kept, visit_counts, visit_seen, seen_bound}

-- what is done to the table leaves them
pub table_left : (g : Grammar) (count : ℕ) (change : LaneTable → LaneTable) (trace : Trace) → pairs_left g count (on_table change trace) ≡ pairs_left g count trace
unfolding pairs_left
table_left g count change trace = refl

module _ (g : Grammar) (sets : Sets) (states : List State) (c count : ℕ) (same : length states ≡ count) where
  fewer : (n : ℕ) (trace : Trace) → SeenAtLeast g sets states c n trace → pairs_left g count trace ≤ count * length g - n
  unfolding pairs_left
  fewer n trace (l, h) = omega arith

  module _ (s i : ℕ) (trace : Trace) (low : s < count) (sized : length trace.visited ≡ count) where
    seen_now : SeenAtLeast g sets states c (sum (map (size (length g)) trace.visited)) trace
    seen_now = (omega arith, omega arith)

    pub shift_left : pairs_left g count (un_shifted g sets states c s i trace) ≤ pairs_left g count trace
    unfolding un_shifted pairs_left
    shift_left = fewer _ (un_shifted g sets states c s i trace) ((both_keep g sets states c (SeenAtLeast g sets states c _) (seen_kept g sets states c _) (suc (length states * length g))).shifting s i trace (omega arith) seen_now)

    pub close_left_lem : pairs_left g count (un_closed g sets states c s i trace) ≤ pairs_left g count trace
    unfolding un_closed pairs_left
    close_left_lem = fewer _ (un_closed g sets states c s i trace) ((both_keep g sets states c (SeenAtLeast g sets states c _) (seen_kept g sets states c _) (suc (length states * length g))).closing s i trace (omega arith) seen_now)

    pub visit_left : i < length g → was_visited s i trace ≡ false → pairs_left g count (visit s i trace) < pairs_left g count trace
    unfolding pairs_left
    visit_left h e =
        let l : length trace.visited ≡ length states = omega arith in
        let b : s < length states = omega arith in
        let (k, _) = visit_seen g sets states c s i 0 trace b (l, omega arith) in
        omega (arith, visit_counts g sets states c s i trace b h l e, seen_bound g sets states c (visit s i trace) k, ap (λ (n : ℕ). n * length g) same)
