-- Which states link to which: state p is among the links of state s where an entry of p leads to s. A link too many does no harm.
use Rattle.std.specs.Prelude.{ℕ, ◌<◌, ◌≡◌, true, false, List}
use Rattle.rules.specs.Limits.{max_states}
use Rattle.rules.specs.Records.{records}
use Rattle.rules.specs.Tokens.{has}
use Rattle.rules.specs.Grammar.{at_end}
use Rattle.room.specs.Areas.{Room, with_origins, with_heads}
use Rattle.marks.specs.Marks.{links_in}
use Rattle.states.specs.StatesIn.{entry_in, PlaceOf}

-- ---- what linking leaves
-- v with the links of q; they lie in the areas of origins and heads
abbrev pub with_links_of : Room → Room → Room
with_links_of q v = with_heads q.heads (with_origins q.origins v)

-- q is v but for the links
pub record OnlyLinks (v q : Room) : Type 0 where
  pub same : q ≡ with_links_of q v

-- and none of them was lost
pub record MoreLinks (v q : Room) : Type 0 where
  pub only : OnlyLinks v q
  pub kept : (s p : ℕ) → has (links_in v s) p ≡ true → has (links_in q s) p ≡ true

-- ---- what is linked
-- state p is among the links of the state that the entry at place k leads to, if its dot stands before a symbol
abbrev pub Seen : List ℕ → Room → ℕ → ℕ → Type 0
Seen bytes r p k = at_end (records bytes) (entry_in r k).item ≡ false → (entry_in r k).next < max_states → has (links_in r (entry_in r k).next) p ≡ true

-- every entry of state p is seen so
pub record LinkedAt (bytes : List ℕ) (r : Room) (p : ℕ) : Type 0 where
  pub seen : (k : ℕ) → PlaceOf r p k → Seen bytes r p k

-- those of all states are
pub record Linked (bytes : List ℕ) (count : ℕ) (r : Room) : Type 0 where
  pub each : (p : ℕ) → p < count → LinkedAt bytes r p

-- ---- the promises: of an entry, of a state, of all states
pub record EntryLinked (bytes : List ℕ) (p k : ℕ) (v q : Room) : Type 0 where
  pub more : MoreLinks v q
  pub here : Seen bytes q p k

pub record StateLinked (bytes : List ℕ) (p : ℕ) (v q : Room) : Type 0 where
  pub more : MoreLinks v q
  pub here : LinkedAt bytes q p

pub record StatesLinked (bytes : List ℕ) (count : ℕ) (v q : Room) : Type 0 where
  pub only : OnlyLinks v q
  pub linked : Linked bytes count q
