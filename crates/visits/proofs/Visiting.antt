-- The visits of all states, and lane mode.
use Prim.Native.Nat.{ℕ, suc, ◌+◌, ◌<◌, ◌≤◌}
use mathlib.Core.Path.{◌≡◌, refl, sym, ap, subst, ◌∙◌}
use mathlib.Core.List.{List}
use native.Mathlib.Omega.{arith}
use lib.ListN.{length}
use Rattle.std.specs.Prelude.{Result, Ok, Err}
use Rattle.rules.specs.Limits.{limits, max_states}
use Rattle.rules.specs.Records.{records}
use Rattle.rules.specs.First.{first_sets}
use Rattle.rules.specs.States.{done, lr0_states}
use Rattle.rules.specs.Merge.{resolve_all, lanes}
use Rattle.rules.specs.declared.BuildRefusal.{BuildRefusal}
use Rattle.room.specs.Areas.{Room, view}
use Rattle.first.specs.Firsts.{firsts_in}
use Rattle.states.specs.StatesIn.{states_in}
use Rattle.states.proofs.States.{states_length}
use Rattle.merging.specs.Visits.{states_after}
use Rattle.collection.specs.Collections.{Collectable, states_to, PlacedTo, OnlyCollected, StatesBuilt}
use Rattle.visits.specs.Visits.{Visitable, OnlyVisited, VisitedTo, Resolves, ResolvesAll, Constructs}
use Rattle.visits.proofs.Frames.{only_none, only_both, firsts_stay}
use Rattle.visits.proofs.Turns.{visit_rest, visits_begin, visit_done, visit_refused, visit_ends}

-- ---- the loop: the states before `next` were visited, of v with `states` states; q has `count`
pub record Going (bytes : List ℕ) (n states count next : ℕ) (v q : Room) : Type 0 where
  pub ready : Visitable bytes n count q
  pub only : OnlyVisited v q
  pub grown : states ≤ count
  pub inside : next ≤ count
  pub same : visit_rest bytes next (states_in q count) ≡ visit_rest bytes 0 (states_in v states)

pub going_begun : (bytes : List ℕ) (n states : ℕ) (v : Room) → Visitable bytes n states v → Going bytes n states states 0 v v
going_begun bytes n states v ready = record { ready = ready; only = only_none v; grown = omega arith; inside = omega arith; same = refl }

module _ (bytes : List ℕ) (n states count next : ℕ) (v q : Room) (going : Going bytes n states count next v q) where
  pub going_few : count ≤ max_states
  going_few = going.ready.placed.few

  pub all_visited : count ≤ next → ResolvesAll bytes n states v (Ok count) q
  unfolding states_after
  all_visited end = record {
    outcome = sym (visit_ends bytes next (states_in q count) (omega (arith, going.inside, going.ready.placed.few)) (omega (arith, states_length q count)))
        ∙ going.same
        ∙ sym (visits_begin bytes (states_in v states));
    only = going.only;
    left = (going.ready, going.grown);
  }

  module _ (low : next < count) (r : Result ℕ BuildRefusal) (w : Room) (by : Resolves bytes n next count q r w) where
    inside_limit : next ≤ max_states
    inside_limit = omega (arith, going.ready.placed.few)

    among : next < length (states_in q count)
    among = omega (arith, states_length q count)

    pub going_on : (many : ℕ) → r ≡ Ok many → Going bytes n states many (next + 1) v w
    unfolding states_after
    going_on many is =
        let left : VisitedTo bytes n count (Ok many) w = subst (λ y. VisitedTo bytes n count y w) is by.left in
        let e : next + 1 ≡ suc next = omega arith in
        record {
          ready = left.0;
          only = only_both v q w going.only by.only;
          grown = omega (arith, going.grown, left.1);
          inside = omega (arith, left.1);
          same = ap (λ s. visit_rest bytes s (states_in w many)) e
              ∙ sym (visit_done bytes next (states_in q count) inside_limit among (states_after r w) by.outcome (states_in w many) (ap (λ y. states_after y w) is))
              ∙ going.same;
        }

    pub all_refused : (why : BuildRefusal) → r ≡ Err why → ResolvesAll bytes n states v (Err why) w
    unfolding states_after
    all_refused why is = record {
      outcome = sym (visit_refused bytes next (states_in q count) inside_limit among (states_after r w) by.outcome why (ap (λ y. states_after y w) is))
          ∙ going.same
          ∙ sym (visits_begin bytes (states_in v states));
      only = only_both v q w going.only by.only;
      left = tt;
    }

-- ---- lane mode: the LR(0) states are visited
pub collected_only : (v q : Room) → OnlyCollected v q → OnlyVisited v q
collected_only v q only = record { firsts = only.firsts; rest = ap (λ (r : Room). r.rest) only.others }

module _ (bytes : List ℕ) (n m : ℕ) (work : List ℕ) (able : Collectable bytes n m work) (found : firsts_in (records bytes) (view work) ≡ first_sets (records bytes))
    (b : Result ℕ BuildRefusal) (q : Room) (built : StatesBuilt bytes (lr0_states limits (records bytes)) (view work) q b) where
  pub lanes_not_built : (why : BuildRefusal) → b ≡ Err why → Constructs bytes (lanes limits (records bytes)) (view work) q (Err why)
  unfolding states_to PlacedTo lanes resolve_all
  lanes_not_built why is = record {
    outcome = ap (resolve_all limits (records bytes)) (sym (ap (states_to q) is) ∙ built.outcome);
    placed = tt;
    only = collected_only (view work) q built.only;
  }

  module _ (count : ℕ) (is : b ≡ Ok count) where
    pub can_visit : Visitable bytes n count q
    unfolding PlacedTo
    can_visit = record {
      clean = able.closable.clean;
      short = able.closable.short;
      few = able.closable.few;
      counted = able.counted.terminals;
      placed = subst (PlacedTo (length (records bytes)) q) is built.placed;
      firsts = firsts_stay (records bytes) (view work) q able.closable.clean built.only.firsts ∙ found;
    }

    lanes_is : lanes limits (records bytes) ≡ resolve_all limits (records bytes) (done (states_in q count))
    unfolding states_to lanes
    lanes_is = ap (resolve_all limits (records bytes)) (sym built.outcome ∙ ap (states_to q) is)

    module _ (r : Result ℕ BuildRefusal) (w : Room) (all : ResolvesAll bytes n count q r w) where
      both_only : OnlyVisited (view work) w
      both_only = only_both (view work) q w (collected_only (view work) q built.only) all.only

      lanes_refused : (why : BuildRefusal) → r ≡ Err why → Constructs bytes (lanes limits (records bytes)) (view work) w (Err why)
      unfolding states_to PlacedTo states_after
      lanes_refused why came = record { outcome = sym (ap (λ y. states_after y w) came) ∙ all.outcome ∙ sym lanes_is; placed = tt; only = both_only }

      lanes_done : (more : ℕ) → r ≡ Ok more → Constructs bytes (lanes limits (records bytes)) (view work) w (Ok more)
      unfolding states_to PlacedTo states_after
      lanes_done more came = record {
        outcome = sym (ap (λ y. states_after y w) came) ∙ all.outcome ∙ sym lanes_is;
        placed = (subst (λ y. VisitedTo bytes n count y w) came all.left).0.placed;
        only = both_only;
      }

      pub lanes_end : (c : Result ℕ BuildRefusal) → r ≡ c → Constructs bytes (lanes limits (records bytes)) (view work) w c
      lanes_end (Err why) = lanes_refused why
      lanes_end (Ok more) = lanes_done more
