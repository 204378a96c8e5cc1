-- `clones::clone_state` meets its contract.
use mathlib.Core.Path.{refl}
use Rattle.clones.proofs.Copies.{cloned_all}
use Rattle.clones.proofs.clone_state.Goals as goal

pub returns : goal.returns
returns c = cloned_all _ _ _ _ _ _ _ _ _ _ _ _ _ refl c.first_entry-first.ensures c.end_entry.ensures refl c.first_entry-at.ensures
    c.copy_entries.ensures c.end_state.ensures c.get-original.ensures c.put.ensures c.put-2.ensures
