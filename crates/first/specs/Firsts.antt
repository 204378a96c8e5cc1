-- FIRST in the room: the set of nonterminal a lies in its slot.
use Rattle.std.specs.Prelude.{ℕ, ◌≤◌, ◌<◌, ◌≡◌, Bool, false, [], length}
use Rattle.base.specs.Each.{each_from}
use Rattle.rules.specs.Records.{Grammar, at}
use Rattle.rules.specs.Tokens.{TokenSet, has, single, join, within, without}
use Rattle.rules.specs.Grammar.{Symbol, nonterminal, terminal, symbols_behind, nonterminal_count}
use Rattle.rules.specs.First.{Sets, set_of, first0, first_sets}
use Rattle.room.specs.Areas.{Room, with_sets}
use Rattle.room.specs.Slots.{hand_slot}
use Rattle.lookahead.specs.Sets.{load_set, set_at}

-- the sets of the grammar's nonterminals
abbrev pub firsts_in : Grammar → Room → Sets
firsts_in g r = each_from (load_set r.sets) 0 (nonterminal_count g)

-- ---- one symbol on the way along them: what was collected with what can begin it, and whether the symbols behind it count too
unfoldable pub join_symbol : ℕ → Sets → TokenSet → Symbol → TokenSet
join_symbol n sets found (terminal t) = join found (single t)
join_symbol n sets found (nonterminal a) = without (join found (set_of sets a)) n

unfoldable pub goes_on : ℕ → Sets → TokenSet → Symbol → Bool
goes_on n sets found (terminal t) = false
goes_on n sets found (nonterminal a) = has (join found (set_of sets a)) n

-- ---- FIRST of every nonterminal
-- the left side of record i's production has what begins its right side
unfoldable pub has_first : Grammar → ℕ → Sets → ℕ → Bool
has_first g n sets i = within (first0 n sets (symbols_behind g i)) (set_of sets (at g i).symbol)

-- q is v but for the sets of the grammar's nonterminals and the set at hand, in which FIRST of a right side is collected
pub record OnlyFirsts (g : Grammar) (v q : Room) : Type 0 where
  pub others : with_sets [] q ≡ with_sets [] v
  pub words : length q.sets ≡ length v.sets
  pub slots : (slot : ℕ) → nonterminal_count g ≤ slot → (slot ≡ hand_slot → ⊥) → set_at q slot ≡ set_at v slot

-- q is v but for the sets of the first m nonterminals, and these are empty
pub record FirstsCleared (m : ℕ) (v q : Room) : Type 0 where
  pub others : with_sets [] q ≡ with_sets [] v
  pub words : length q.sets ≡ length v.sets
  pub slots : (slot : ℕ) → m ≤ slot → set_at q slot ≡ set_at v slot
  pub none : (slot : ℕ) → slot < m → set_at q slot ≡ 0

-- q is v but for the sets of the grammar's nonterminals and the set at hand, and these are FIRST of the nonterminals and the empty set
pub record FirstsFound (g : Grammar) (v q : Room) : Type 0 where
  pub only : OnlyFirsts g v q
  pub found : firsts_in g q ≡ first_sets g
  pub cleared : set_at q hand_slot ≡ 0
