-- `lr::kernels::same_kernel` meets its contract. The loop's invariant: what is left of the two walks gives the same answer. The measure is what is left of the first run.
use Prim.Native.Nat.{◌-◌}
use Rattle.std.specs.Prelude.{unwrap_or}
use Rattle.rules.specs.Records.{records}
use Rattle.rules.specs.States.{kernel_over, same_kernel}
use Rattle.room.specs.Areas.{view}
use Rattle.states.specs.StatesIn.{run_in}
use Rattle.grammar.specs.Symbols.{symbol_named}
use Rattle.lr.proofs.Compare.{WalksLeft}
use Rattle.lr.proofs.kernels.same_kernel.Given as goal

abbrev pub invariant-loop-one : goal.invariant-loop-one
invariant-loop-one l =
    WalksLeft l.g (symbol_named l.symbol) (view l.work) l.end l.last l.one l.two (same_kernel (kernel_over (records l.g) (symbol_named l.symbol) (run_in (view l.work) l.first l.end)) (kernel_over (records l.g) (symbol_named l.symbol) (run_in (view l.work) l.other l.last)))

abbrev pub decreases-loop-one : goal.decreases-loop-one
decreases-loop-one l = l.end - unwrap_or l.one l.end
