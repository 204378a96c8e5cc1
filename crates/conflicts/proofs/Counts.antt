-- The count entry by entry is the conflict count of document 01: the sum over shifted terminals is taken reduction by reduction.
use Prim.Native.Nat.{ℕ, ◌+◌}
use mathlib.Core.Path.{◌≡◌, refl}
use mathlib.Core.Bool.{Bool, true, false}
use mathlib.Core.List.{List, [], ◌∷◌, map}
use native.Mathlib.Omega.{arith}
use lib.ListN.{length}
use Rattle.base.specs.Pick.{pick}
use Rattle.base.specs.Lists.{sum, keep}
use Rattle.base.proofs.Lists.{zero_sum}
use Rattle.rules.specs.Records.{Grammar}
use Rattle.rules.specs.Tokens.{has}
use Rattle.rules.specs.Grammar.{at_end}
use Rattle.rules.specs.States.{Entry, State, reductions, shifts, holding, meeting, meeting_pairs, conflicts_at}
use Rattle.conflicts.specs.Counts.{held_shifts, conflicts_of, conflicts_from}

-- ---- one entry more among those that may hold a terminal
holding_none : (t : ℕ) → holding t [] ≡ 0
unfolding holding keep
holding_none t = refl

holding_more : (t : ℕ) (e : Entry) (es : List Entry) → holding t (e ∷ es) ≡ pick (has e.set t) 1 0 + holding t es
unfolding holding keep
holding_more t e es = go (has e.set t)
  where
    go : (b : Bool) → length (pick b (e ∷ keep (λ (x : Entry). has x.set t) es) (keep (λ (x : Entry). has x.set t) es)) ≡ pick b 1 0 + length (keep (λ (x : Entry). has x.set t) es)
    go true = omega arith
    go false = omega arith

holding_sum : (e : Entry) (es : List Entry) (ts : List ℕ) → sum (map (λ t. holding t (e ∷ es)) ts) ≡ length (keep (has e.set) ts) + sum (map (λ t. holding t es) ts)
unfolding sum keep
holding_sum e es [] = refl
holding_sum e es (t ∷ ts) = go (has e.set t) (holding_more t e es) (holding_sum e es ts)
  where
    go : (b : Bool) → holding t (e ∷ es) ≡ pick b 1 0 + holding t es → sum (map (λ t. holding t (e ∷ es)) ts) ≡ length (keep (has e.set) ts) + sum (map (λ t. holding t es) ts)
        → holding t (e ∷ es) + sum (map (λ t. holding t (e ∷ es)) ts) ≡ length (pick b (t ∷ keep (has e.set) ts) (keep (has e.set) ts)) + (holding t es + sum (map (λ t. holding t es) ts))
    go true h later = omega arith
    go false h later = omega arith

-- ---- the last entries of the state
module _ (g : Grammar) (state : State) where
  by_entry : (es : List Entry) → conflicts_from g state es ≡ sum (map (λ t. holding t (reductions g es)) (shifts g state)) + meeting_pairs (reductions g es)
  unfolding conflicts_from conflicts_of held_shifts reductions keep meeting_pairs
  by_entry [] = let e : sum (map (λ t. holding t []) (shifts g state)) ≡ 0 = zero_sum (λ t. holding t []) (shifts g state) (λ t m. holding_none t) in omega arith
  by_entry (e ∷ es) = go (at_end g e.item) (by_entry es) (holding_sum e (reductions g es) (shifts g state))
    where
      go : (b : Bool) → conflicts_from g state es ≡ sum (map (λ t. holding t (reductions g es)) (shifts g state)) + meeting_pairs (reductions g es)
          → sum (map (λ t. holding t (e ∷ reductions g es)) (shifts g state)) ≡ length (keep (has e.set) (shifts g state)) + sum (map (λ t. holding t (reductions g es)) (shifts g state))
          → pick b (length (keep (has e.set) (shifts g state)) + meeting e.set (reductions g es)) 0 + conflicts_from g state es
          ≡ sum (map (λ t. holding t (pick b (e ∷ reductions g es) (reductions g es))) (shifts g state)) + meeting_pairs (pick b (e ∷ reductions g es) (reductions g es))
      go true later more = omega arith
      go false later more = omega arith

  pub counted_by_entry : conflicts_from g state state ≡ conflicts_at g state
  unfolding conflicts_at
  counted_by_entry = by_entry state
