-- A cell of the lane table, as the code writes it: from a slot, and by way of the slot at hand.
use Prim.Native.Nat.{ℕ, ◌+◌}
use mathlib.Core.Path.{◌≡◌}
use mathlib.Core.Bool.{Bool}
use mathlib.Core.List.{List}
use native.Mathlib.Omega.{arith}
use borrow.Author.Tests.{eq-eqb, ne_eqb}
use Rattle.rules.specs.Records.{Grammar, at}
use Rattle.rules.specs.Tokens.{TokenSet, join, eof}
use Rattle.rules.specs.Grammar.{start, symbols_behind, terminal_count}
use Rattle.rules.specs.First.{Sets, beginning, may_be_empty}
use Rattle.rules.specs.Lanes.{tokens_past, empty_past}
use Rattle.room.specs.Areas.{Room, view, put_entered}
use Rattle.room.specs.Bounds.{LongEnough}
use Rattle.room.specs.Slots.{hand_slot}
use Rattle.room.proofs.Lengths.{view_lengths}
use Rattle.lookahead.specs.Sets.{set_at, put_set}
use Rattle.lookahead.proofs.Slots.{put_there}
use Rattle.lane.specs.Changes.{tokens_entered, hand_entered, start_entered, past_entered}
use Rattle.lane.specs.Table.{cell_slot}

pub cell_entered : (v p q : Room) (s c cell from : ℕ) → p ≡ put_entered s 1 v → cell ≡ cell_slot s c → q ≡ put_set cell (join (set_at p cell) (set_at p from)) p
    → q ≡ tokens_entered s c (set_at v from) v
cell_entered v p q s c cell from marked e put = rw (e, marked) at put

-- ---- by way of the slot at hand
module _ (w : List ℕ) (p q : Room) (hand s c : ℕ) (tokens : TokenSet) (fits : LongEnough w) (at-hand : hand ≡ hand_slot) (put : p ≡ put_set hand tokens (view w))
    (entered : q ≡ tokens_entered s c (set_at p hand) p) where
  pub entered_by : q ≡ hand_entered s c tokens (view w)
  entered_by =
      let there : set_at p hand ≡ tokens = put_there (view w) p hand tokens put (omega (arith, (view_lengths w fits).sets_length)) in
      let e : p ≡ put_set hand_slot tokens (view w) = rw at-hand at put in
      rw e at (rw there at entered)

-- Eof, at the start
module _ (g : Grammar) (s c i a b : ℕ) (named : a ≡ (at g i).symbol) (begins : b ≡ start g) where
  pub start_other : (v : Room) → (a ≡ b → ⊥) → v ≡ start_entered g s c i v
  start_other v ne = rw (← named, ← begins, ne_eqb a b ne)

  pub start_entered_lem : (w : List ℕ) (p q : Room) (hand n : ℕ) → a ≡ b → n ≡ terminal_count g → LongEnough w → hand ≡ hand_slot → p ≡ put_set hand (eof n) (view w) → q ≡ tokens_entered s c (set_at p hand) p
      → q ≡ start_entered g s c i (view w)
  start_entered_lem w p q hand n same count fits at-hand put entered = rw (← named, ← begins, eq-eqb a b same, ← count) (entered_by w p q hand s c (eof n) fits at-hand put entered)

-- FIRST of what follows
module _ (g : Grammar) (sets : Sets) (j n : ℕ) (count : n ≡ terminal_count g) where
  pub past_entered_lem : (w : List ℕ) (p q : Room) (hand s c : ℕ) → LongEnough w → hand ≡ hand_slot → p ≡ put_set hand (beginning n sets (symbols_behind g (j + 1))) (view w) → q ≡ tokens_entered s c (set_at p hand) p
      → q ≡ past_entered g sets s c j (view w)
  unfolding tokens_past
  past_entered_lem w p q hand s c fits at-hand put entered = rw (← count) (entered_by w p q hand s c (beginning n sets (symbols_behind g (j + 1))) fits at-hand put entered)

  pub past_empty : (b : Bool) → b ≡ may_be_empty n sets (symbols_behind g (j + 1)) → b ≡ empty_past g sets j
  unfolding empty_past
  past_empty b e = rw (← count) e
