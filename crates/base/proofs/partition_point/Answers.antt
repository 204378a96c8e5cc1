use Prim.Native.Nat.{◌+◌, ◌-◌, ◌/◌}
use native.Mathlib.Omega.{arith}
use Rattle.base.proofs.Halving.{halved_low, halved_high, halved_ends}
use Rattle.base.proofs.partition_point.Goals as goal

pub loop-low-preserved-then-before : goal.loop-low-preserved-then-before
loop-low-preserved-then-before g c =
    let s = c.loop-low in
    let middle = s.low + (s.high - s.low) / 2 in
    (omega arith, omega arith, λ test is front. halved_low test c.args.count s.low s.high middle (s.invariant.2 test is front) _ (is middle _ (omega arith) c.before-in-loop-low.ensures) front (omega arith) c.if-before.true)

pub loop-low-preserved : goal.loop-low-preserved
loop-low-preserved g c =
    let s = c.loop-low in
    let middle = s.low + (s.high - s.low) / 2 in
    (omega arith, omega arith, λ test is front. halved_high test c.args.count s.low s.high middle (s.invariant.2 test is front) _ (is middle _ (omega arith) c.before-in-loop-low.ensures) c.if-before.false)

pub returns-clause-point : goal.returns-clause-point
returns-clause-point g c =
    let s = c.loop-low in
    λ test is front. halved_ends test c.args.count s.low s.high (omega arith) (omega arith) (omega arith) (s.invariant.2 test is front)
