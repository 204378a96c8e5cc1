-- `closures::rounds::close_kernel` meets its contract. The loop's invariant: what is left of the kernel gives its sets. The measure is what is left of the run.
use Rattle.closures.proofs.Kernels.{KernelLeft}
use Rattle.closures.specs.Closures.{is_canonical}
use Rattle.closures.proofs.rounds.close_kernel.Given as goal

abbrev pub invariant-loop-k : goal.invariant-loop-k
invariant-loop-k l = KernelLeft l.g (is_canonical l.mode) l.n l.first l.end l.initial.work l.work l.k
