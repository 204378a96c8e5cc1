-- Linked states that the final check passes are good, and so are the states that lane mode gives.
use Prim.Native.Nat.{ℕ, ◌<◌}
use mathlib.Core.Path.{◌≡◌, refl, sym, ap, ◌∙◌}
use mathlib.Core.Logic.{⊎_elim}
use mathlib.Core.Bool.{Bool, true, false, ◌&&◌, not}
use mathlib.Core.List.{List, [], ◌∷◌, nil≢cons, head-eq_of_cons-eq, tail-eq_of_cons-eq}
use native.Mathlib.Omega.{arith}
use lib.ListN.{length, get_or}
use lib.Dec.{ltb}
use borrow.Author.Tests.{eqb-true, not-false}
use Rattle.base.specs.Pick.{pick}
use Rattle.base.specs.Among.{Among, here, later}
use Rattle.base.proofs.Found.{none_first}
use Rattle.base.proofs.Lists.{among_none, among_cons, zero_sum}
use Rattle.base.proofs.Tests.{or_false}
use Rattle.base.proofs.Places.{place, within_states}
use Rattle.rules.specs.Limits.{Limits}
use Rattle.rules.specs.Records.{Grammar}
use Rattle.rules.specs.Tokens.{within}
use Rattle.rules.specs.Grammar.{Symbol, at_end, symbols_behind}
use Rattle.rules.specs.First.{first_sets}
use Rattle.rules.specs.States.{Entry, State, Outcome, done, refused, conflicts_at, conflict_count}
use Rattle.rules.specs.Merge.{lanes}
use Rattle.rules.specs.FinalCheck.{lacks, fails_at, least_sets, first_failing, checked as final_checked}
use Rattle.rules.specs.declared.BuildRefusal.TheVariants.{FinalCheck}
use Rattle.sets.proofs.Laws.{within_true}
use Rattle.knuth.specs.Coded.{Checked}
use Rattle.knuth.specs.Entries.{HasItem}
use Rattle.knuth.proofs.Dots.{end_behind}
use Rattle.walks.proofs.Outcomes.{holds_done}
use Rattle.runs.specs.Good.{GoodStates, Covering}
use Rattle.demands.proofs.Laws.{same_item}
use Rattle.demands.proofs.Least.{blank, least_sets_shaped, alike_entry}
use Rattle.demands.proofs.LR0.{LinkedItems, lanes_linked}
use Rattle.demands.proofs.LaneCovers.{least_sets_cover}
use Rattle.demands.proofs.LaneSound.{linked_sound}

-- where no reduction lacks a token, an entry of the least sets stands at the place of one with as many tokens
lacking_none : (g : Grammar) (es fs : State) (f : Entry) → blank fs ≡ blank es → lacks g es fs ≡ false → Among f fs
    → (e : Entry) × Among e es × (e.item ≡ f.item) × (at_end g e.item ≡ true → within f.set e.set ≡ true)
unfolding lacks
lacking_none g [] [] f q h m = absurd (among_none m)
lacking_none g [] (y ∷ fs) f q h m = absurd (nil≢cons (sym q))
lacking_none g (e ∷ es) [] f q h m = absurd (among_none m)
lacking_none g (e ∷ es) (y ∷ fs) f q h m =
    let (a, b) = or_false (at_end g e.item && not (within y.set e.set)) (lacks g es fs) h in
    ⊎_elim
    (λ p. let item : e.item ≡ f.item = sym (same_item p ∙ same_item (head-eq_of_cons-eq q)) in
    (e, here, item, λ end. ap (λ (f : Entry). within f.set e.set) p ∙ inside end a))
    (λ k. let (e', n, i, w) = lacking_none g es fs f (tail-eq_of_cons-eq q) b k in (e', later n, i, w))
    (among_cons m)
  where
    inside : at_end g e.item ≡ true → (at_end g e.item && not (within y.set e.set)) ≡ false → within y.set e.set ≡ true
    inside end a = let a' : not (within y.set e.set) ≡ false = rw end at a in not-false _ a'

-- what the final check passes
pub record Passed (g : Grammar) (states : List State) : Type 0 where
  pub full : (s : ℕ) → s < length states → lacks g (get_or states s []) (get_or (least_sets g (first_sets g) states) s []) ≡ false
  pub clear : (s : ℕ) → s < length states → conflicts_at g (get_or states s []) ≡ 0

check_passed : (g : Grammar) (states : List State) → ltb (first_failing g (first_sets g) states) (length states) ≡ false → Passed g states
unfolding first_failing fails_at
check_passed g states e = record {
  full = λ s b. (or_false (lacks g (get_or states s []) (get_or (least_sets g (first_sets g) states) s [])) _ (none s b)).0;
  clear = λ s b. eqb-true _ 0 (not-false _ (or_false (lacks g (get_or states s []) (get_or (least_sets g (first_sets g) states) s [])) _ (none s b)).1);
}
  where
    none : (s : ℕ) → s < length states → fails_at g states (least_sets g (first_sets g) states) s ≡ false
    none s b = none_first (fails_at g states (least_sets g (first_sets g) states)) (length states) s b e

pub check_gives : (g : Grammar) (states : List State) (o : Outcome (List State)) → final_checked g o ≡ done states → (o ≡ done states) × Passed g states
unfolding final_checked
check_gives g states (done states') e = by_test (ltb (first_failing g (first_sets g) states') (length states')) refl e
  where
    same : states' ≡ states → Passed g states' → Passed g states
    same q p = rw q at p

    by_test : (b : Bool) → ltb (first_failing g (first_sets g) states') (length states') ≡ b
        → pick b (refused (FinalCheck (record { 0 = first_failing g (first_sets g) states' }))) (done states') ≡ done states
        → (done states' ≡ done states) × Passed g states
    by_test true h e = absurd (let z : ◌≡◌ {A = ℕ} 0 1 = cc in omega arith)
    by_test false h e = let q : states' ≡ states = cc in (e, same q (check_passed g states' h))
check_gives g states (refused why) e = absurd (let z : ◌≡◌ {A = ℕ} 0 1 = cc in omega arith)

module _ (l : Limits) (g : Grammar) (checked : Checked l g) (a_record : 0 < length g) (states : List State) where
  module _ (linked : LinkedItems g states) (passed : Passed g states) where
    abbrev least : List State
    least = least_sets g (first_sets g) states

    checked_covers : {p t : ℕ} {β : List Symbol} (s : ℕ) → HasItem g (get_or least s []) p β t → Covering g (get_or states s []) p β t
    checked_covers {t = t} s h =
        let f : Entry = h.entry in
        let shape = (least_sets_shaped g states linked.some).shape s in
        let b : s < length states = within_states states s (alike_entry (get_or states s []) (get_or least s []) f shape h.among).1 in
        let (e, m, i, w) = lacking_none g (get_or states s []) (get_or least s []) f shape (passed.full s b) h.among in
        record {
          entry = e;
          among = m;
          number = rw i h.number;
          behind = rw i h.behind;
          token = λ z. (within_true f.set e.set).0 (w (end_behind g e.item (ap (symbols_behind g) i ∙ h.behind ∙ z))) t h.token;
        }

    -- any states that are linked and pass
    pub linked_good : GoodStates g states
    unfolding conflict_count
    linked_good = record {
      one_next = linked.one;
      next_below = λ s x e m b. (linked.links s x e m b).0;
      covers = λ {s = s} r i. checked_covers s (least_sets_cover l g checked states linked r i);
      sound = linked_sound l g checked a_record states linked;
      no_conflict = zero_sum (conflicts_at g) states (λ state m. let (s, b, q) = place [] m in rw q (passed.clear s b));
    }

  pub lane_states_good : 0 < l.states → final_checked g (lanes l g) ≡ done states → GoodStates g states
  lane_states_good a-state e =
      let (q, passed) = check_gives g states (lanes l g) e in
      linked_good (holds_done (LinkedItems g) states (lanes l g) q (lanes_linked g l a-state)) passed
