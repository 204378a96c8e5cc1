-- The actions of a state, put into their area one behind the other.
use Prim.Native.Nat.{ℕ, ◌+◌, ◌≤◌, ◌<◌}
use mathlib.Core.Path.{◌≡◌, refl, ap, ap₂, ◌∙◌}
use mathlib.Core.List.{List, [], ◌∷◌, ◌++◌, append-nil, append_assoc}
use native.Mathlib.Omega.{arith}
use native.Mathlib.Decide.{ℕ_discrete}
use lib.ListN.{get_or, length-append}
use lib.Seq.{get_or-set_same, get_or-set_other}
use Rattle.base.proofs.Each.{each_same}
use Rattle.base.proofs.EachLeft.{each_last}
use Rattle.rules.specs.Limits.{max_columns}
use Rattle.rules.specs.Lanes.{Action}
use Rattle.room.specs.Areas.{Room, view, with_actions, put_action}
use Rattle.room.specs.Bounds.{LongEnough}
use Rattle.room.proofs.Lengths.{view_lengths}
use Rattle.states.specs.StatesIn.{entry_in, run_in, PlacedRun}
use Rattle.states.proofs.Places.{run_placed}
use Rattle.lane_table.specs.Actions.{action_of, action_at, actions_in, ActionFits}
use Rattle.actions.specs.Puts.{Added}

module _ (bytes : List ℕ) where
  -- ---- no action, one, and those of two lists
  pub added_none : (c : ℕ) (v : Room) → Added bytes [] c c v v
  added_none c v = record {
    others = refl;
    count = omega arith;
    are = λ h. rw append-nil;
    fit = λ h fits. fits;
    behind = λ k h. refl;
  }

  module _ (c x : ℕ) (fits : ActionFits bytes x) where
    pub added_past : (v : Room) → max_columns ≤ c → Added bytes (action_of x ∷ []) c (c + 1) v v
    added_past v over = record {
      others = refl;
      count = omega arith;
      are = λ h. absurd (omega arith);
      fit = λ h. absurd (omega arith);
      behind = λ k h. refl;
    }

    pub added_one : (w : List ℕ) (q : Room) → LongEnough w → c < max_columns → q ≡ put_action c x (view w) → Added bytes (action_of x ∷ []) c (c + 1) (view w) q
    unfolding actions_in
    added_one w q long low put =
        let old : (k : ℕ) → (k ≡ c → ⊥) → get_or q.actions k 0 ≡ get_or (view w).actions k 0 = λ k ne. ap (λ (r : Room). get_or r.actions k 0) put ∙ get_or-set_other (view w).actions c k x 0 ne in
        let new : get_or q.actions c 0 ≡ x = ap (λ (r : Room). get_or r.actions c 0) put ∙ get_or-set_same (view w).actions c x 0 (omega (arith, (view_lengths w long).actions_length)) in
        let zero-on : 0 + c ≡ c = omega arith in
        record {
          others = ap (with_actions []) put;
          count = omega arith;
          are = λ h.
              each_last (action_at q) 0 c
              ∙ ap₂ (λ (l : List Action) (a : Action). l ++ (a ∷ []))
              (each_same (action_at q) (action_at (view w)) 0 c (λ k g l. ap action_of (old k (λ e. omega arith))))
              (ap (action_at q) zero-on ∙ ap action_of new);
          fit = λ h fitting k l. elim (ℕ_discrete k c) [
            | yes e ↦ rw (e, new) fits
            | no ne ↦ rw (old k ne) (fitting k (omega arith))
          ];
          behind = λ k h. old k (λ e. omega arith);
        }

  pub added_both : (xs ys : List Action) (c d e : ℕ) (v q z : Room) → Added bytes xs c d v q → Added bytes ys d e q z → Added bytes (xs ++ ys) c e v z
  added_both xs ys c d e v q z first second =
      let rises : d ≤ e = omega (arith, second.count) in
      record {
        others = second.others ∙ first.others;
        count = omega (arith, first.count, second.count, length-append xs ys);
        are = λ h. second.are h ∙ ap (λ (l : List Action). l ++ ys) (first.are (omega arith)) ∙ append_assoc (actions_in v c) xs ys;
        fit = λ h fitting. second.fit h (first.fit (omega arith) fitting);
        behind = λ k h. second.behind k h ∙ first.behind k (omega arith);
      }

-- ---- the entries stay
module _ (v q : Room) (others : with_actions [] q ≡ with_actions [] v) where
  pub entry_kept : (k : ℕ) → entry_in q k ≡ entry_in v k
  unfolding entry_in
  entry_kept k = ap (λ (r : Room). entry_in r k) others

  pub run_kept : (first end : ℕ) → run_in q first end ≡ run_in v first end
  unfolding entry_in
  run_kept first end = ap (λ (r : Room). run_in r first end) others

pub run_readable : (bytes : List ℕ) (list : List Action) (c d record_count first end : ℕ) (v q : Room) → Added bytes list c d v q → PlacedRun record_count v first end → PlacedRun record_count q first end
run_readable bytes list c d record_count first end v q added placed =
    run_placed record_count v q first end (λ k h g. ap (λ e. e.item) (entry_kept v q added.others k)) placed
