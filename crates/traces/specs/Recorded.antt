-- The items of states are records of the grammar: then a trace visits no pair but of a state and a record.
use Rattle.std.specs.Prelude.{◌<◌, List, length}
use Rattle.base.specs.Among.{All}
use Rattle.rules.specs.Records.{Grammar}
use Rattle.rules.specs.States.{Entry, State}

module _ (g : Grammar) where
  abbrev pub Recorded : State → Type 0
  Recorded = All (λ (e : Entry). e.item < length g)

  abbrev pub AllRecorded : List State → Type 0
  AllRecorded = All Recorded
