-- Rounds over the left sides: what a left side hands on, what a round makes of the sets, and which round is the last.
use Prim.Native.Nat.{ℕ, ◌+◌, ◌-◌, ◌*◌, ◌≤◌, ◌<◌}
use mathlib.Core.Path.{◌≡◌, refl, sym, ap, ◌∙◌}
use mathlib.Core.Bool.{Bool, true, false, not, ◌||◌}
use mathlib.Core.List.{List}
use native.Mathlib.Omega.{arith}
use native.Mathlib.Nat.{sub-zero}
use lib.ListN.{length, set}
use borrow.Author.Tests.{not-true, not-false}
use Rattle.base.specs.Pick.{pick}
use Rattle.base.specs.Loops.{until}
use Rattle.base.specs.Lists.{each_of, fold_over}
use Rattle.base.proofs.Each.{each_at}
use Rattle.base.proofs.ListLoops.{kept, kept_fold_turn, kept_fold_end, until_over}
use Rattle.base.proofs.Rounds as Rounds
use Rattle.base.proofs.Tests.{or_picks}
use Rattle.rules.specs.Records.{Grammar, at, records, is_left_side}
use Rattle.rules.specs.Tokens.{TokenSet}
use Rattle.rules.specs.Grammar.{at_start, left_sides, nonterminal_count}
use Rattle.rules.specs.First.{Sets, set_of}
use Rattle.rules.specs.States.{Follow, closes, hands_on, close_item, item_closed, close_left_sides, closure_settled}
use Rattle.rules.proofs.Laws.{length_records, nonterminal_counted_at}
use Rattle.room.specs.Areas.{view}
use Rattle.lookahead.specs.Sets.{load_set, set_at}
use Rattle.sets.proofs.Laws.{join_within}
use Rattle.grammar.proofs.Coded.{left_nonterminal, symbol_read}
use Rattle.grammar.proofs.Laws.{left_sides_lem}
use Rattle.first.proofs.Growth.{set_own}
use Rattle.closures.specs.Closures.{closures_in, follow_in, close_left_side, left_side_closed, Closable, OnlyClosures, ItemCloses, LeftSideCloses, LeftSidesClose, RoundsClose}
use Rattle.closures.proofs.Frames.{only_none, only_both, follow_kept}
use Rattle.closures.proofs.Handing.{close_item_is, item_closed_is, close_item_passes}

-- ---- an item that finds what it hands on changes nothing
closed_rests : (g : Grammar) (follow : Follow) (i : ℕ) (s : TokenSet) (sets : Sets) → item_closed g follow sets i s ≡ true → close_item g follow i s sets ≡ sets
closed_rests g follow i s sets e = by_closes (closes g i s) refl
  where
    by_closes : (b : Bool) → closes g i s ≡ b → close_item g follow i s sets ≡ sets
    by_closes true f =
        close_item_is g follow i s sets f
        ∙ ap (set sets (at g (i + 1)).symbol) (join_within (set_of sets (at g (i + 1)).symbol) (hands_on g follow i s) (sym (item_closed_is g follow sets i s f) ∙ e))
        ∙ set_own sets (at g (i + 1)).symbol
    by_closes false f = close_item_passes g follow i s sets f

-- ---- one record
pub left_side_slot : (bytes : List ℕ) (n i a own : ℕ) (w : List ℕ) → Closable bytes n w → 8 * i + 8 ≤ length bytes → a ≡ (at (records bytes) i).symbol → own ≡ 64 + a → own < 4224
left_side_slot bytes n i a own w closable h named e = let l = symbol_read bytes i a closable.clean h named in omega arith

pub left_side_fits : (bytes : List ℕ) (n i a own : ℕ) (w : List ℕ) → Closable bytes n w → 8 * i + 8 ≤ length bytes → a ≡ (at (records bytes) i).symbol → own ≡ 64 + a → own < 4225
left_side_fits bytes n i a own w closable h named e = omega (arith, left_side_slot bytes n i a own w closable h named e)

module _ (bytes : List ℕ) (canonical : Bool) (n i : ℕ) (w : List ℕ) (b : Bool) (starts : b ≡ at_start (records bytes) i) where
  pub left_side_passed : not b ≡ true → LeftSideCloses bytes canonical n i w w false
  left_side_passed e =
      let no : at_start (records bytes) i ≡ false = sym starts ∙ not-true b e in
      record { found = rw no; only = only_none (records bytes) (view w); said = rw no }

  module _ (a own : ℕ) (closable : Closable bytes n w) (h : 8 * i + 8 ≤ length bytes) (e : not b ≡ false) (named : a ≡ (at (records bytes) i).symbol) (mine : own ≡ 64 + a) where
    left_side_lem : is_left_side (at (records bytes) i) ≡ true
    unfolding at_start
    left_side_lem = sym starts ∙ not-false b e

    pub own_set : set_at (view w) own ≡ set_of (closures_in (records bytes) (view w)) (at (records bytes) i).symbol
    unfolding set_of
    own_set =
        let l : i < length (records bytes) = omega (arith, length_records bytes) in
        let below : (at (records bytes) i).symbol < nonterminal_count (records bytes) = nonterminal_counted_at (records bytes) i l (left_nonterminal (records bytes) closable.clean i l left_side_lem) in
        ap (load_set (view w).sets) (mine ∙ ap (λ (x : ℕ). 64 + x) named) ∙ sym (each_at (load_set (view w).sets) 64 (nonterminal_count (records bytes)) (at (records bytes) i).symbol 0 below)

    pub left_side_closed_lem : (after : List ℕ) (lacked : Bool) → ItemCloses bytes canonical n i own w after lacked → LeftSideCloses bytes canonical n i w after lacked
    unfolding close_left_side left_side_closed
    left_side_closed_lem after lacked item =
        let yes-starts : at_start (records bytes) i ≡ true = sym starts ∙ not-false b e in
        record {
          found = rw (yes-starts, ← own_set) item.found;
          only = item.only;
          said = rw (yes-starts, ← own_set) item.said;
        }

-- ---- one round
module _ (g : Grammar) (follow : Follow) where
  left_rests : (i : ℕ) (sets : Sets) → left_side_closed g follow sets i ≡ true → close_left_side g follow i sets ≡ sets
  unfolding close_left_side left_side_closed
  left_rests i sets e = closed_rests g follow i (set_of sets (at g i).symbol) sets e

  round_is : (sets : Sets) → close_left_sides g follow sets ≡ fold_over (close_left_side g follow) (left_sides g) sets
  unfolding close_left_sides close_left_side
  round_is sets = refl

  settled_is : (sets : Sets) → closure_settled g follow sets ≡ each_of (left_side_closed g follow sets) (left_sides g)
  unfolding closure_settled left_side_closed
  settled_is sets = refl

-- at record i of count: what is left of the round gives the round's sets, and something was lacking or what is left says whether it is
pub record RoundLeft (bytes : List ℕ) (canonical : Bool) (n count : ℕ) (w₀ w : List ℕ) (i : ℕ) (changed : Bool) : Type 0 where
  pub within : i ≤ count
  pub same : length w ≡ length w₀
  pub only : OnlyClosures (records bytes) (view w₀) (view w)
  pub left : fold_over (close_left_side (records bytes) (follow_in (records bytes) canonical n (view w₀))) (kept (at_start (records bytes)) count i) (closures_in (records bytes) (view w))
      ≡ close_left_sides (records bytes) (follow_in (records bytes) canonical n (view w₀)) (closures_in (records bytes) (view w₀))
  pub lacking : pick changed true (not (each_of (left_side_closed (records bytes) (follow_in (records bytes) canonical n (view w₀)) (closures_in (records bytes) (view w))) (kept (at_start (records bytes)) count i)))
      ≡ not (closure_settled (records bytes) (follow_in (records bytes) canonical n (view w₀)) (closures_in (records bytes) (view w₀)))

pub round_begins : (bytes : List ℕ) (canonical : Bool) (n count : ℕ) (w : List ℕ) → count ≡ length (records bytes) → RoundLeft bytes canonical n count w w 0 false
round_begins bytes canonical n count w e = record {
  within = omega arith;
  same = refl;
  only = only_none (records bytes) (view w);
  left = rw (left_sides_lem (records bytes) count e) (sym (round_is (records bytes) _ _));
  lacking = rw (left_sides_lem (records bytes) count e) (ap not (sym (settled_is (records bytes) _ _)));
}

module _ (bytes : List ℕ) (canonical : Bool) (n count : ℕ) (w₀ w : List ℕ) (i : ℕ) (changed : Bool) (closable : Closable bytes n w₀) (at_i : RoundLeft bytes canonical n count w₀ w i changed) where
  pub round_turns : (after : List ℕ) (new : Bool) → i < count → length after ≡ length w → LeftSideCloses bytes canonical n i w after new → RoundLeft bytes canonical n count w₀ after (i + 1) (changed || new)
  round_turns after new h size call =
      let g : Grammar = records bytes in
      let follow : follow_in g canonical n (view w) ≡ follow_in g canonical n (view w₀) = follow_kept g (view w₀) (view w) closable.clean at_i.only canonical n in
      let made = rw follow at call.found in
      let said = rw follow at call.said in
      record {
        within = omega arith;
        same = size ∙ at_i.same;
        only = only_both g (view w₀) (view w) (view after) at_i.only call.only;
        left = kept_fold_turn (at_start g) (close_left_side g (follow_in g canonical n (view w₀))) count i (closures_in g (view w)) _ (closures_in g (view after)) h at_i.left made;
        lacking = Rounds.changed_turn (close_left_side g (follow_in g canonical n (view w₀))) (left_side_closed g (follow_in g canonical n (view w₀))) (left_rests g _) (at_start g) count i
            (closures_in g (view w)) (closures_in g (view after)) new changed (changed || new) _ h at_i.lacking made said (or_picks changed new);
      }

  pub round_ends : count ≤ i → LeftSidesClose bytes canonical n w₀ w changed
  round_ends h =
      let g : Grammar = records bytes in
      record {
        found = kept_fold_end (at_start g) (close_left_side g (follow_in g canonical n (view w₀))) count i (closures_in g (view w)) _ h at_i.left;
        only = at_i.only;
        said = Rounds.changed_end (close_left_side g (follow_in g canonical n (view w₀))) (left_side_closed g (follow_in g canonical n (view w₀))) (left_rests g _) (at_start g) count i (closures_in g (view w)) changed _ h at_i.lacking;
      }

-- ---- the rounds: `turn` of `bound` made
pub record RoundsLeft (bytes : List ℕ) (canonical : Bool) (n bound : ℕ) (w₀ w : List ℕ) (turn : ℕ) : Type 0 where
  pub within : turn ≤ bound
  pub same : length w ≡ length w₀
  pub only : OnlyClosures (records bytes) (view w₀) (view w)
  pub left : until (closure_settled (records bytes) (follow_in (records bytes) canonical n (view w₀))) (close_left_sides (records bytes) (follow_in (records bytes) canonical n (view w₀))) (bound - turn) (closures_in (records bytes) (view w))
      ≡ until (closure_settled (records bytes) (follow_in (records bytes) canonical n (view w₀))) (close_left_sides (records bytes) (follow_in (records bytes) canonical n (view w₀))) bound (closures_in (records bytes) (view w₀))

pub rounds_begin : (bytes : List ℕ) (canonical : Bool) (n bound : ℕ) (w : List ℕ) → RoundsLeft bytes canonical n bound w w 0
rounds_begin bytes canonical n bound w = record { within = omega arith; same = refl; only = only_none (records bytes) (view w); left = rw sub-zero }

module _ (bytes : List ℕ) (canonical : Bool) (n bound : ℕ) (w₀ w : List ℕ) (turn : ℕ) (at_turn : RoundsLeft bytes canonical n bound w₀ w turn) where
  pub rounds_over : bound ≤ turn → RoundsClose bytes canonical n bound w₀ w
  rounds_over h = record { found = until_over _ _ bound turn (closures_in (records bytes) (view w)) _ h at_turn.left; only = at_turn.only }

  module _ (closable : Closable bytes n w₀) (after : List ℕ) (new : Bool) (size : length after ≡ length w) (call : LeftSidesClose bytes canonical n w after new) where
    follow_here : follow_in (records bytes) canonical n (view w) ≡ follow_in (records bytes) canonical n (view w₀)
    follow_here = follow_kept (records bytes) (view w₀) (view w) closable.clean at_turn.only canonical n

    only_here : OnlyClosures (records bytes) (view w₀) (view after)
    only_here = only_both (records bytes) (view w₀) (view w) (view after) at_turn.only call.only

    pub rounds_turn : turn < bound → not new ≡ false → RoundsLeft bytes canonical n bound w₀ after (turn + 1)
    rounds_turn h z =
        let g : Grammar = records bytes in
        let follow : Follow = follow_in g canonical n (view w₀) in
        record {
          within = omega arith;
          same = size ∙ at_turn.same;
          only = only_here;
          left = Rounds.rounds_turn (close_left_side g follow) (left_side_closed g follow) (left_rests g follow) (left_sides g) (closure_settled g follow) (close_left_sides g follow) (settled_is g follow) (round_is g follow)
              bound turn (closures_in g (view w)) (closures_in g (view after)) _ new at_turn.left (rw follow_here at call.said) (rw follow_here at call.found) h z;
        }

    pub rounds_stop : not new ≡ true → RoundsClose bytes canonical n bound w₀ after
    rounds_stop z =
        let g : Grammar = records bytes in
        let follow : Follow = follow_in g canonical n (view w₀) in
        record {
          found = Rounds.rounds_stop (close_left_side g follow) (left_side_closed g follow) (left_rests g follow) (left_sides g) (closure_settled g follow) (close_left_sides g follow) (settled_is g follow) (round_is g follow)
              bound turn (closures_in g (view w)) (closures_in g (view after)) _ new at_turn.left (rw follow_here at call.said) (rw follow_here at call.found) z;
          only = only_here;
        }
