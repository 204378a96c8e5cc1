-- The answers of the lookups in the words of `rules`.
use Rattle.std.specs.Prelude.{ℕ}
use Rattle.std.specs.Prelude as code
use Rattle.std.proofs.Math.Option.{Option, none, some}
use Rattle.rules.specs.Run as run
use Rattle.record.specs.declared.lookup.Act.{Act}
use Rattle.record.specs.declared.lookup.Act.TheVariants.{Shift, Reduce}

unfoldable pub found_in : code.Option ℕ → Option ℕ
found_in (code.Some t) = some t
found_in code.None = none

unfoldable pub act_in : code.Option Act → run.Act ℕ
act_in (code.Some (Shift s)) = run.shift s
act_in (code.Some (Reduce p)) = run.reduce p
act_in code.None = run.no_act
