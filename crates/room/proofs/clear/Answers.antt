-- `room::clear` meets its contract.
use native.Mathlib.Omega.{arith}
use lib.ListN.{length-take}
use borrow.Author.Rules.{rules}
use Rattle.room.proofs.Clearing.{front_cleared}
use Rattle.room.proofs.clear.Goals as goal

pub returns : goal.returns
returns c = front_cleared _ _ _ (c.fill.ensures.after (λ y e. search rules)) (omega (arith, length-take 8192 c.args.work.now, c.requires))
