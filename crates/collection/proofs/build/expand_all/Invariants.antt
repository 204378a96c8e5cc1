-- `collection::build::expand_all` meets its contract. The loop's invariant: the turns that are left give the same states. The measure is how many states there may still be.
use Prim.Native.Nat.{◌-◌}
use Rattle.rules.specs.Limits.{max_states}
use Rattle.collection.proofs.Collecting.{CollectLeft}
use Rattle.closures.specs.Closures.{is_canonical}
use Rattle.collection.proofs.build.expand_all.Given as goal

abbrev pub invariant-loop-next : goal.invariant-loop-next
invariant-loop-next l = CollectLeft l.g (is_canonical l.mode) l.n l.initial.work l.work l.count l.next

abbrev pub decreases-loop-next : goal.decreases-loop-next
decreases-loop-next l = max_states - l.next
