-- What the check of a grammar says of its records: they come in sequence, so a production goes on behind a dot that is not at its end; record
-- 0 is a left side; and the start is the left side of that production alone.
use Prim.Native.Nat.{ℕ, ◌+◌, ◌-◌, ◌<◌}
use mathlib.Core.Path.{◌≡◌, refl, sym, ◌∙◌}
use mathlib.Core.Logic.{⊎_elim}
use mathlib.Core.Bool.{Bool, true, false, ◌&&◌, not, true≢false}
use mathlib.Core.List.{List}
use native.Mathlib.Omega.{arith}
use lib.ListN.{length}
use lib.Dec.{eqb}
use borrow.Author.Tests.{eqb-true, eq-eqb, ne_eqb, not-false}
use Rattle.base.specs.Among.{Among}
use Rattle.base.proofs.Lists.{among_keep, up_to_among_lem}
use Rattle.base.proofs.Tests.{both_true, either_true, or_false}
use Rattle.rules.specs.Limits.{Limits}
use Rattle.rules.specs.Records.{Record, Grammar, at, is_terminal, is_left_side, bad_record, comes_behind, in_sequence, out_of_sequence}
use Rattle.rules.specs.Grammar.{Symbol, at_start, at_end, left_sides, start, names_start}
use Rattle.rules.proofs.Laws.{not_at_end_within}
use Rattle.knuth.specs.Rules.{Rule}
use Rattle.knuth.specs.Coded.{Checked, NonterminalsLeft}
use Rattle.knuth.proofs.Coded.{checked_left}

comes_behind_same : (q r : Record) → comes_behind q r ≡ true → is_left_side r ≡ false → r.production ≡ q.production
unfolding comes_behind is_left_side
comes_behind_same q r e first =
    ⊎_elim (λ f. eqb-true r.production q.production (both_true (eqb r.production q.production) (eqb r.position (q.position + 1)) f).0)
    (λ f. absurd (true≢false (sym (both_true (eqb r.production (q.production + 1)) (eqb r.position 0) f).1 ∙ first)))
    (either_true (eqb r.production q.production && eqb r.position (q.position + 1)) (eqb r.production (q.production + 1) && eqb r.position 0) e)

pub in_sequence_behind : (g : Grammar) (i : ℕ) → in_sequence g (i + 1) ≡ true → comes_behind (at g i) (at g (i + 1)) ≡ true
unfolding in_sequence
in_sequence_behind g i e =
    let k : i + 1 - 1 ≡ i = omega arith in
    let s : comes_behind (at g (i + 1 - 1)) (at g (i + 1)) ≡ true = rw (ne_eqb (i + 1) 0 (λ z. omega arith)) at e in
    rw k at s

pub names_start_first : (g : Grammar) (i : ℕ) → is_terminal (at g i) ≡ false → (at g i).symbol ≡ start g → names_start g i ≡ false → i ≡ 0
unfolding names_start
names_start_first g i nt e h = by_test (eqb i 0) refl h
  where
    by_test : (b : Bool) → eqb i 0 ≡ b → (not b && (not (is_terminal (at g i)) && eqb (at g i).symbol (start g))) ≡ false → i ≡ 0
    by_test true p h = eqb-true i 0 p
    by_test false p h = absurd (true≢false (rw (nt, eq-eqb (at g i).symbol (start g) e) at h))

module _ (l : Limits) (g : Grammar) (checked : Checked l g) where
  -- a production goes on where the dot is not at the end
  pub same_production : (i : ℕ) → at_end g i ≡ false → (at g (i + 1)).production ≡ (at g i).production
  unfolding at_end out_of_sequence
  same_production i e =
      let (_, q) = or_false (bad_record l (at g (i + 1))) _ (checked.faultless (i + 1) (not_at_end_within g i e)) in
      let (p, _) = or_false (not (in_sequence g (i + 1))) _ q in
      comes_behind_same (at g i) (at g (i + 1)) (in_sequence_behind g i (not-false _ p)) e

  -- the start stands on the left of production 0 alone
  pub start_is_first : {p : ℕ} {η : List Symbol} (r : Rule g p (start g) η) → r.left_side ≡ 0
  unfolding NonterminalsLeft is_left_side
  start_is_first r =
      names_start_first g r.left_side (checked_left l g checked r.left_side r.within (eq-eqb _ _ r.position)) r.left (checked.start_once r.left_side r.within)

  pub first_is_left_side : 0 < length g → Among 0 (left_sides g)
  unfolding left_sides at_start is_left_side out_of_sequence in_sequence
  first_is_left_side some =
      let (_, q) = or_false (bad_record l (at g 0)) _ (checked.faultless 0 some) in
      let (p, _) = or_false (not (in_sequence g 0)) _ q in
      among_keep (at_start g) ((up_to_among_lem 0 (length g)).1 some) (both_true (eqb (at g 0).production 0) _ (not-false _ p)).1
