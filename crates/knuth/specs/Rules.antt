-- The productions of a grammar of records. The theory speaks of any relation Rule p A η, "production p is A → η"; this is the
-- relation of a coded grammar.
use Rattle.std.specs.Prelude.{ℕ, ◌<◌, ◌≡◌, List, length}
use Rattle.rules.specs.Records.{Grammar, at}
use Rattle.rules.specs.Grammar.{Symbol, symbols_behind}

-- production p of g is A → η: a left-side record has this number and this nonterminal, and η stands behind it
pub record Rule (g : Grammar) (p A : ℕ) (η : List Symbol) : Type 0 where
  pub left_side : ℕ
  pub within : left_side < length g
  pub position : (at g left_side).position ≡ 0
  pub number : (at g left_side).production ≡ p
  pub left : (at g left_side).symbol ≡ A
  pub right : symbols_behind g left_side ≡ η
