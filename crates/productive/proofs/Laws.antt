-- What the loops of this crate go by.
use Prim.Native.Nat.{ℕ, zero, suc, ◌+◌, ◌-◌, ◌≤◌, ◌<◌}
use mathlib.Core.Path.{◌≡◌, refl, ap, ap₂, ◌∙◌}
use mathlib.Core.Bool.{Bool, true, false, not, ◌&&◌}
use native.Mathlib.Omega.{arith}
use lib.ListN.{length, take, drop, drop_of_length-le}
use Rattle.std.specs.List.{range_with_len, prefix_len, list_all}
use Rattle.base.specs.Loops.{first_from, place_below}
use Rattle.base.specs.Pick.{pick}
use Rattle.base.specs.Lists.{each_of, fold_over}
use Rattle.base.proofs.ListLoops.{first_whole, kept, kept_fold_turn, kept_each_turn, kept_each_fails}
use Rattle.rules.proofs.Laws.{side_from}
use Rattle.rules.specs.Records.{Grammar, at}
use Rattle.rules.specs.Tokens.{TokenSet}
use Rattle.rules.specs.Grammar.{symbol_of, side_of, symbols_behind, at_start, left_sides, nonterminal_count, symbol_derives, side_derives, collect, all_collected, productive, first_barren}
use Rattle.grammar.proofs.Laws.{left_sides_lem}
use Rattle.productive.specs.Tests.{collect_at, is_collected, uncollected, is_barren}

-- ---- the symbols behind a dot, of the n records from k on up to the next left side
symbols_derive : (g : Grammar) (found : TokenSet) (n k : ℕ) → k + n ≡ length g
    → list_all (λ j. symbol_derives found (symbol_of (at g j))) (take (prefix_len (λ j. not (at_start g j)) (range_with_len k n)) (range_with_len k n))
    ≡ each_of (symbol_derives found) (side_of (drop k g))
unfolding each_of side_of at_start
symbols_derive g found zero k e = let l : length g ≤ k = omega arith in rw (drop_of_length-le g l)
symbols_derive g found (suc n) k e = by_test (at_start g k) refl (symbols_derive g found n (k + 1) (omega arith))
  where
    both : (a b c : Bool) → b ≡ c → (a && b) ≡ pick a c false
    both true b c e = e
    both false b c e = refl

    by_test : (b : Bool) → at_start g k ≡ b
        → list_all (λ j. symbol_derives found (symbol_of (at g j))) (take (prefix_len (λ j. not (at_start g j)) (range_with_len (k + 1) n)) (range_with_len (k + 1) n))
        ≡ each_of (symbol_derives found) (side_of (drop (k + 1) g))
        → list_all (λ j. symbol_derives found (symbol_of (at g j))) (take (prefix_len (λ j. not (at_start g j)) (range_with_len k (suc n))) (range_with_len k (suc n)))
        ≡ each_of (symbol_derives found) (side_of (drop k g))
    by_test true f more = rw (side_from g k, f)
    by_test false f more =
        let z : 1 + prefix_len (λ j. not (at_start g j)) (range_with_len (k + 1) n) ≡ suc (prefix_len (λ j. not (at_start g j)) (range_with_len (k + 1) n)) = omega arith in
        rw (side_from g k, f, z) (both (symbol_derives found (symbol_of (at g k))) _ _ more)

pub side_lem : (g : Grammar) (found : TokenSet) (n i : ℕ) → n ≡ length g → i < n
    → list_all (λ j. symbol_derives found (symbol_of (at g j))) (take (prefix_len (λ j. not (at_start g j)) (range_with_len (i + 1) (n - (i + 1)))) (range_with_len (i + 1) (n - (i + 1))))
    ≡ side_derives g found i
unfolding side_derives symbols_behind
side_lem g found n i e h = symbols_derive g found (n - (i + 1)) (i + 1) (omega arith)

-- ---- rounds over the productions
module _ (g : Grammar) (n : ℕ) where
  pub round_start : (a : TokenSet) → n ≡ length g
      → fold_over (collect g) (kept (at_start g) n 0) a ≡ fold_over (collect g) (left_sides g) a
  round_start a e = rw (left_sides_lem g n e)

  pub round_turn : (i : ℕ) (a t b : TokenSet) → i < n → fold_over (collect g) (kept (at_start g) n i) a ≡ t → b ≡ collect_at g i a
      → fold_over (collect g) (kept (at_start g) n (i + 1)) b ≡ t
  unfolding collect_at
  round_turn i a t b = kept_fold_turn (at_start g) (collect g) n i a t b

  module _ (found : TokenSet) where
    pub collected_start : n ≡ length g → each_of (is_collected g found) (kept (at_start g) n 0) ≡ all_collected g found
    unfolding is_collected all_collected
    collected_start e = rw (left_sides_lem g n e)

    module _ (i : ℕ) (t : Bool) where
      pub collected_turn : (b : Bool) → i < n → each_of (is_collected g found) (kept (at_start g) n i) ≡ t
          → b ≡ uncollected g found i → b ≡ false → each_of (is_collected g found) (kept (at_start g) n (i + 1)) ≡ t
      unfolding uncollected
      collected_turn = kept_each_turn (at_start g) (is_collected g found) n i t

      pub collected_fails : (b : Bool) → i < n → each_of (is_collected g found) (kept (at_start g) n i) ≡ t
          → b ≡ uncollected g found i → b ≡ true → false ≡ t
      unfolding uncollected
      collected_fails = kept_each_fails (at_start g) (is_collected g found) n i t

pub barren_lem : (g : Grammar) (m : ℕ) (found : TokenSet) → m ≡ nonterminal_count g → found ≡ productive g
    → place_below m (first_from (is_barren found) (m - 0) 0) ≡ place_below (nonterminal_count g) (first_barren g)
unfolding first_barren is_barren
barren_lem g m found e f =
    ap₂ place_below e (first_whole (is_barren found) m (nonterminal_count g) e ∙ ap (λ (s : TokenSet). first_from (is_barren s) (nonterminal_count g) 0) f)
