-- What finding a production's left side goes by, and counting the symbols behind it.
use Prim.Native.Nat.{ℕ, zero, suc, ◌+◌, ◌-◌, ◌<◌, ◌≤◌}
use mathlib.Core.Path.{◌≡◌, refl, sym, ap, ◌∙◌}
use mathlib.Core.Bool.{Bool, true, false, not, cond}
use mathlib.Core.List.{List}
use native.Mathlib.Omega.{arith}
use native.Mathlib.Decide.{dec_lt}
use Rattle.std.specs.List.{range_with_len, prefix_len}
use lib.ListN.{length, drop, drop_of_length-le}
use lib.Dec.{ltb}
use borrow.Author.Tests.{lt-ltb, ltb-false, ltb-true, not-false, not-true}
use Rattle.base.specs.Loops.{first_from}
use Rattle.base.specs.Halving.{PassInFront}
use Rattle.base.proofs.Found.{before_first, at_first}
use Rattle.rules.proofs.Laws.{record_past, side_from}
use Rattle.rules.specs.Records.{Record, Grammar, records, past, at, in_sequence}
use Rattle.rules.specs.Grammar.{side_of, symbols_behind, at_start, left_side_of, left_of}
use Rattle.rules.specs.Run.{side_length}
use Rattle.grammar.specs.Asked.{Faultless}
use Rattle.grammar.proofs.Coded.{in_sequence_lem}
use Rattle.grammar.proofs.LeftSides.{left_found}
use Rattle.grammar.proofs.Sequence.{ascends, left_side_first}

-- ---- the halving: it goes by the records of productions before p
module _ (g : Grammar) (p : ℕ) where
  unfoldable pub comes_before : ℕ → Bool
  comes_before i = ltb (at g i).production p

  pub before_is : (i x : ℕ) (b : Bool) → b ≡ ltb x p → x ≡ (at g i).production → b ≡ comes_before i
  unfolding comes_before
  before_is i x b e f = rw (e, f)

module _ (bytes : List ℕ) (clean : Faultless bytes) (p n : ℕ) (size : n ≡ length (records bytes)) where
  sequence : (i : ℕ) → i < length (records bytes) → in_sequence (records bytes) i ≡ true
  sequence = in_sequence_lem (records bytes) clean

  pub before_in_front : PassInFront n (comes_before (records bytes) p)
  unfolding comes_before
  before_in_front i j l h e =
      let a = ascends (records bytes) sequence j i (omega arith) l in
      let b = ltb-true _ _ e in
      lt-ltb _ _ (omega arith)

  -- the first that does not come before
  pub left_side_halved : (k : ℕ) → k ≤ n → k ≡ first_from (λ i. not (comes_before (records bytes) p i)) n 0 → k ≡ left_side_of (records bytes) p
  unfolding comes_before
  left_side_halved k w e = sym (left_side_first (records bytes) sequence p k (omega arith) below above)
    where
      below : (j : ℕ) → j < k → (at (records bytes) j).production < p
      below j h = ltb-true _ _ (not-false _ (before_first (λ i. not (comes_before (records bytes) p i)) n 0 j (omega arith) (rw e at h)))

      above : k < length (records bytes) → p ≤ (at (records bytes) k).production
      above h =
          let first : ℕ = first_from (λ i. not (comes_before (records bytes) p i)) n 0 in
          let t : not (comes_before (records bytes) p first) ≡ true = at_first (λ i. not (comes_before (records bytes) p i)) n 0 (omega arith) in
          ltb-false _ _ (not-true _ (rw (sym e) at t))

-- ---- what stands at the left side, and behind it; k is the record
module _ (g : Grammar) (p k : ℕ) (e : k ≡ left_side_of g p) where
  pub left_none : (n : ℕ) → n ≡ length g → n ≤ k → 0 ≡ left_of g p
  unfolding past
  left_none n l h = left_found g p k 0 e (sym (ap (λ (r : Record). r.symbol) (record_past g k (omega arith))))

  pub side_counted : (n : ℕ) → n ≡ length (symbols_behind g k) → n ≡ side_length g p
  unfolding side_length
  side_counted n f = f ∙ ap (λ (j : ℕ). length (symbols_behind g j)) e

-- ---- how many symbols stand behind a dot: the records up to the next left side
symbols_counted : (g : Grammar) (n k : ℕ) → k + n ≡ length g → prefix_len (λ j. not (at_start g j)) (range_with_len k n) ≡ length (side_of (drop k g))
unfolding side_of at_start
symbols_counted g zero k e = let l : length g ≤ k = omega arith in rw (drop_of_length-le g l)
symbols_counted g (suc n) k e = by_test (at_start g k) refl (symbols_counted g n (k + 1) (omega arith))
  where
    by_test : (b : Bool) → at_start g k ≡ b → prefix_len (λ j. not (at_start g j)) (range_with_len (k + 1) n) ≡ length (side_of (drop (k + 1) g))
        → cond (not (at_start g k)) (1 + prefix_len (λ j. not (at_start g j)) (range_with_len (k + 1) n)) 0 ≡ length (side_of (drop k g))
    by_test true f more = rw (side_from g k, f)
    by_test false f more = rw (side_from g k, f) (omega arith)

pub behind_counted : (g : Grammar) (n i c : ℕ) → n ≡ length g → i ≤ length g
    → c ≡ prefix_len (λ j. not (at_start g j)) (range_with_len (i + 1) (n - (i + 1))) → c ≡ length (symbols_behind g i)
unfolding symbols_behind side_of
behind_counted g n i c e h f = elim (dec_lt i n) [
  | yes l ↦ f ∙ symbols_counted g (n - (i + 1)) (i + 1) (omega arith)
  | no l ↦
      let z : n - (i + 1) ≡ 0 = omega arith in
      let past : length g ≤ i + 1 = omega arith in
      rw (drop_of_length-le g past) (rw z at f)
]
