-- The rounds that collect FIRST end within m (n + 1): one that is not the last adds one of n + 1 tokens to one of m sets.
use Prim.Native.Nat.{ℕ, ◌+◌, ◌*◌, ◌^◌, ◌<◌}
use mathlib.Core.Path.{◌≡◌}
use mathlib.Core.Bool.{Bool, true, false}
use mathlib.Core.List.{List, [], ◌∷◌}
use native.Mathlib.Omega.{arith}
use lib.ListN.{replicate}
use Rattle.base.specs.Pick.{pick}
use Rattle.base.specs.Among.{here, later}
use Rattle.base.proofs.Until.{Steps, rounds_end}
use Rattle.rules.specs.Records.{Grammar, at}
use Rattle.rules.specs.Tokens.{has, join, within, without}
use Rattle.rules.specs.Grammar.{Symbol, nonterminal, terminal, symbols_behind, left_sides, terminal_count, nonterminal_count}
use Rattle.rules.specs.First.{Sets, set_of, first0, add_first, first_settled, first_sets}
use Rattle.sets.proofs.Laws.{single_below, join_below, without_below}
use Rattle.sets.proofs.Tables.{Narrow, mass, join_at_rests_lem, join_at_adds_lem, none_in_range, join_at_in_range_lem, mass_in_range, InRange}
use Rattle.knuth.specs.Coded.{TerminalsBelow, NonterminalsLeft}
use Rattle.knuth.proofs.Productions.{terminals_below, left_below}

module _ (n : ℕ) where
  pub first0_narrow : (sets : Sets) → Narrow n sets → (xs : List Symbol) → TerminalsBelow n xs → first0 n sets xs < 2 ^ (n + 1)
  unfolding first0
  first0_narrow sets s [] b = single_below (n + 1) n (omega arith)
  first0_narrow sets s (terminal u ∷ xs) b = single_below (n + 1) u (omega (arith, b u here))
  first0_narrow sets s (nonterminal a ∷ xs) b = by_mark (has (set_of sets a) n) (first0_narrow sets s xs (λ t m. b t (later m)))
    where
      by_mark : (d : Bool) → first0 n sets xs < 2 ^ (n + 1) → pick d (join (without (set_of sets a) n) (first0 n sets xs)) (set_of sets a) < 2 ^ (n + 1)
      by_mark true h = join_below (n + 1) _ _ (without_below (n + 1) _ n (s a)) h
      by_mark false h = s a

-- ---- the rounds
module _ (g : Grammar) where
  abbrev n : ℕ
  n = terminal_count g

  abbrev m : ℕ
  m = nonterminal_count g

  -- the left side has what first0 of the right side has
  abbrev left_has_first : ℕ → Sets → Bool
  left_has_first i sets = within (first0 n sets (symbols_behind g i)) (set_of sets (at g i).symbol)

  module _ (left : NonterminalsLeft g) where
    steps : Steps (add_first g n) left_has_first (mass n) (InRange n m) (left_sides g)
    unfolding add_first
    steps = record {
      keeps = λ i k sets (l, s). join_at_in_range_lem n m _ _ sets (first0_narrow n sets s _ (terminals_below g i)) (l, s);
      rests = λ i k sets s e. join_at_rests_lem n _ _ sets e;
      adds = λ i k sets (l, s) e. join_at_adds_lem n _ _ sets (rw l (left_below g left i k)) (first0_narrow n sets s _ (terminals_below g i)) e;
    }

    pub first_sets_settled : first_settled g n (first_sets g) ≡ true
    unfolding first_settled first_sets
    first_sets_settled =
        rounds_end (add_first g n) left_has_first (mass n) (InRange n m) (left_sides g) steps (m * (n + 1)) (mass_in_range n m) (m * (n + 1)) (replicate m 0)
        (none_in_range n m) (omega arith)
