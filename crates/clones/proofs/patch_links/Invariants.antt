-- `clones::patch_links` meets its contract. The loop's invariant: the links before place k are patched. The measure is what is left of the entries.
use Rattle.clones.proofs.Links.{PatchedUpto}
use Rattle.rules.specs.Records.{records}
use Rattle.room.specs.Areas.{view}
use lib.ListN.{length}
use mathlib.Core.Path.{◌≡◌}
use Prim.Native.Nat.{◌≤◌}
use Rattle.clones.proofs.patch_links.Given as goal

abbrev pub invariant-loop-k : goal.invariant-loop-k
invariant-loop-k l = (l.first ≤ l.k) × (l.k ≤ l.end) × (length l.work ≡ length l.initial.work) × PatchedUpto (records l.g) l.first l.k l.successor.0 l.clone.0 (view l.initial.work) (view l.work)
