-- What stands behind a dot, with its mark taken, and with a lookahead behind it.
use Prim.Native.Nat.{ℕ}
use mathlib.Core.Path.{◌≡◌, sym, ap, ◌∙◌}
use mathlib.Core.Bool.{Bool, true, false}
use mathlib.Core.List.{List}
use native.Mathlib.Omega.{arith}
use Rattle.base.specs.Pick.{pick}
use Rattle.rules.specs.Tokens.{TokenSet, has, join, without}
use Rattle.rules.specs.Grammar.{Symbol}
use Rattle.rules.specs.First.{Sets, first0, beginning, may_be_empty, first1}
use Rattle.room.specs.Areas.{Room, view}
use Rattle.room.specs.Bounds.{LongEnough, IsSlot}
use Rattle.room.proofs.Lengths.{view_lengths}
use Rattle.lookahead.specs.Sets.{set_at, put_set}
use Rattle.lookahead.proofs.Slots.{put_there, put_elsewhere, put_again}
use Rattle.sets.proofs.Joins.{without_none}

module _ (n : ℕ) (sets : Sets) (xs : List Symbol) where
  first1_empty : (l : TokenSet) → may_be_empty n sets xs ≡ true → first1 n sets xs l ≡ join (beginning n sets xs) l
  unfolding first1
  first1_empty l e = rw e

  -- a suffix that cannot be empty has no mark to drop
  unmarked : may_be_empty n sets xs ≡ false → first0 n sets xs ≡ beginning n sets xs
  unfolding may_be_empty beginning
  unmarked e = sym (without_none (first0 n sets xs) n e)

  first1_begun : (l : TokenSet) → may_be_empty n sets xs ≡ false → first1 n sets xs l ≡ beginning n sets xs
  unfolding first1
  first1_begun l e = ap (λ (empty : Bool). pick empty (join (beginning n sets xs) l) (first0 n sets xs)) e ∙ unmarked e

  module _ (slot : ℕ) (w : List ℕ) (fits : LongEnough w) (low : IsSlot slot) (p : Room) where
    there : (s : TokenSet) → p ≡ put_set slot s (view w) → set_at p slot ≡ s
    there s put = let sized = view_lengths w fits in put_there (view w) p slot s put (omega arith)

    module _ (put : p ≡ put_set slot (first0 n sets xs) (view w)) where
      pub begins_put : (q : Room) → q ≡ put_set slot (without (set_at p slot) n) p → q ≡ put_set slot (beginning n sets xs) (view w)
      unfolding beginning
      begins_put q e = rw (there (first0 n sets xs) put) at (put_again (view w) p slot _ put q _ e)

      pub begins_empty : (r : Bool) → r ≡ has (set_at p slot) n → r ≡ may_be_empty n sets xs
      unfolding may_be_empty
      begins_empty r e = rw (there (first0 n sets xs) put) at e

    module _ (ahead : ℕ) (r : Bool) (put : p ≡ put_set slot (beginning n sets xs) (view w)) (empty : r ≡ may_be_empty n sets xs) where
      pub ahead_left : r ≡ false → p ≡ put_set slot (first1 n sets xs (set_at (view w) ahead)) (view w)
      ahead_left e = rw (first1_begun (set_at (view w) ahead) (sym empty ∙ e)) put

      pub ahead_joined : (q : Room) → r ≡ true → (ahead ≡ slot → ⊥) → q ≡ put_set slot (join (set_at p slot) (set_at p ahead)) p
          → q ≡ put_set slot (first1 n sets xs (set_at (view w) ahead)) (view w)
      ahead_joined q e ne d =
          let other : set_at p ahead ≡ set_at (view w) ahead = put_elsewhere (view w) p slot _ put ahead ne in
          rw (first1_empty (set_at (view w) ahead) (sym empty ∙ e), ← there (beginning n sets xs) put, ← other) (put_again (view w) p slot _ put q _ d)
