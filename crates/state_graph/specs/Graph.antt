-- What leads to a state.
use Rattle.std.specs.Prelude.{ℕ, Bool, ◌&&◌, List, [], get_or, eqb}
use Rattle.base.specs.Lists.{some_of}
use Rattle.rules.specs.Records.{Grammar, at, records}
use Rattle.rules.specs.Grammar.{Symbol, symbol_of, is_before}
use Rattle.rules.specs.States.{Entry, State}

-- the entry leads to s over x
unfoldable pub leads_to : Grammar → ℕ → Symbol → Entry → Bool
leads_to g s x e = is_before g x e.item && eqb e.next s

-- p is a predecessor of s over x
unfoldable pub precedes : Grammar → List State → ℕ → Symbol → ℕ → Bool
precedes g states s x p = some_of (leads_to g s x) (get_or states p [])

-- the symbol of record i of the bytes
abbrev pub symbol_at : List ℕ → ℕ → Symbol
symbol_at bytes i = symbol_of (at (records bytes) i)
