-- The loop over the states: the turns that are left give the same states.
use Prim.Native.Nat.{ℕ, suc, ◌+◌, ◌-◌, ◌≤◌, ◌<◌}
use mathlib.Core.Path.{◌≡◌, refl, sym, ap, ◌∙◌}
use mathlib.Core.Bool.{Bool}
use mathlib.Core.List.{List}
use native.Mathlib.Omega.{arith}
use lib.ListN.{length}
use lib.Seq.{get_or-set_same}
use borrow.Author.Tests.{lt-ltb, le-ltb}
use Rattle.std.specs.Prelude.{Result, Ok, Err}
use Rattle.base.specs.Each.{each_from}
use Rattle.rules.specs.declared.BuildRefusal.{BuildRefusal}
use Rattle.rules.specs.Limits.{Limits, limits}
use Rattle.rules.specs.Records.{Grammar, records}
use Rattle.rules.specs.Tokens.{TokenSet}
use Rattle.rules.specs.States.{done, refused, Follow, Collection, expand_next, expand_all, states_from}
use Rattle.room.specs.Areas.{Room, view, put_first_entry}
use Rattle.room.proofs.Lengths.{view_lengths}
use Rattle.states.specs.StatesIn.{first_of, states_in}
use Rattle.states.proofs.States.{states_length}
use Rattle.walks.proofs.Expand.{expand_goes}
use Rattle.closures.specs.Closures.{follow_in}
use Rattle.closures.proofs.Frames.{closable_kept}
use Rattle.lr.specs.Kernels.{kernel_in, kernels_in, Parented}
use Rattle.lr.specs.Expansions.{StillParented}
use Rattle.lr.proofs.Growing.{kernels_length}
use Rattle.collection.specs.Collections.{Collectable, start_of, all_states, collection_in, collected_to, states_to, PlacedTo, OnlyCollected, StatesBuilt}
use Rattle.collection.specs.Expands.{ExpandsNext}
use Rattle.collection.proofs.Frames.{only_none, only_both, only_placed, follow_same}

-- ---- what the definition says in each case
module _ (l : Limits) (g : Grammar) (follow : Follow) (fuel : ℕ) (c : Collection) where
  all_more : (c' : Collection) → length c.states < length c.kernels → expand_next l g follow c ≡ done c' → expand_all l g follow (suc fuel) c ≡ expand_all l g follow fuel c'
  all_more c' h e = expand_goes l g follow fuel c ∙ rw (lt-ltb _ _ h, e)

  all_refused : (why : BuildRefusal) → length c.states < length c.kernels → expand_next l g follow c ≡ refused why → expand_all l g follow (suc fuel) c ≡ refused why
  all_refused why h e = expand_goes l g follow fuel c ∙ rw (lt-ltb _ _ h, e)

  all_over : length c.kernels ≤ length c.states → expand_all l g follow (suc fuel) c ≡ done c.states
  all_over h = expand_goes l g follow fuel c ∙ rw (le-ltb _ _ h)

-- ---- the collection in the room
module _ (g : Grammar) (start : TokenSet) (r : Room) (closed count : ℕ) where
  closed_length : length (collection_in g start r closed count).states ≡ closed
  unfolding collection_in
  closed_length = states_length r closed

  count_is : length (collection_in g start r closed count).kernels ≡ count
  unfolding collection_in
  count_is = kernels_length g start r count

-- ---- the states before s are expanded
pub record CollectLeft (bytes : List ℕ) (canonical : Bool) (n : ℕ) (w₀ w : List ℕ) (count s : ℕ) : Type 0 where
  pub within : s ≤ count
  pub same : length w ≡ length w₀
  pub able : Parented bytes s count w
  pub only : OnlyCollected (view w₀) (view w)
  pub left : expand_all limits (records bytes) (follow_in (records bytes) canonical n (view w₀)) (129 - s) (collection_in (records bytes) (start_of canonical n) (view w) s count)
      ≡ all_states bytes canonical n (view w₀)

begun : (g : Grammar) (follow : Follow) (start : TokenSet) (r : Room) → expand_all limits g follow (129 - 0) (collection_in g start r 0 1) ≡ states_from limits g follow start
unfolding states_from limits collection_in kernels_in kernel_in states_in each_from
begun g follow start r = refl

pub collect_begins : (bytes : List ℕ) (canonical : Bool) (n m : ℕ) (w : List ℕ) → Collectable bytes n m w → first_of (view w) 0 ≡ 0 → CollectLeft bytes canonical n w w 1 0
collect_begins bytes canonical n m w asked place = record {
  within = omega arith;
  same = refl;
  able = record {
    long = asked.closable.long;
    few = omega arith;
    placed = record { few = omega arith; begins = place; each = λ s h. absurd (omega arith) };
    parents = λ t h l. absurd (omega arith);
    kinds = λ t h l. absurd (omega arith);
  };
  only = only_none (view w);
  left = begun (records bytes) _ _ (view w);
}

module _ (bytes : List ℕ) (canonical : Bool) (n m : ℕ) (w₀ w : List ℕ) (count s : ℕ) (asked : Collectable bytes n m w₀) (walk : CollectLeft bytes canonical n w₀ w count s) where
  pub collect_asks : Collectable bytes n m w
  collect_asks = record { closable = closable_kept bytes n w₀ w asked.closable walk.same; counted = asked.counted; some = asked.some }

  abbrev g : Grammar
  g = records bytes

  abbrev follow : Follow
  follow = follow_in g canonical n (view w₀)

  abbrev here : Collection
  here = collection_in g (start_of canonical n) (view w) s count

  fuel_is : 129 - s ≡ suc (129 - (s + 1))
  fuel_is = omega (arith, walk.within, walk.able.few)

  left_is : expand_all limits g follow (suc (129 - (s + 1))) here ≡ all_states bytes canonical n (view w₀)
  left_is = rw fuel_is at walk.left

  over_is : count ≤ s → done (states_in (view w) s) ≡ expand_all limits g follow (suc (129 - (s + 1))) here
  unfolding collection_in
  over_is h = sym (all_over limits g follow (129 - (s + 1)) here (omega (arith, closed_length g (start_of canonical n) (view w) s count, count_is g (start_of canonical n) (view w) s count)))

  pub collect_ends : count ≤ s → StatesBuilt bytes (all_states bytes canonical n (view w₀)) (view w₀) (view w) (Ok count)
  unfolding states_to PlacedTo
  collect_ends h =
      let z : s ≡ count = omega (arith, walk.within) in
      record {
        outcome = ap (λ (k : ℕ). done (states_in (view w) k)) (sym z) ∙ over_is h ∙ left_is;
        placed = rw z at walk.able.placed;
        only = walk.only;
      }

  module _ (after : List ℕ) (r : Result ℕ BuildRefusal) (h : s < count) (call : ExpandsNext bytes canonical n s count w after r) where
    more : length here.states < length here.kernels
    more = omega (arith, closed_length g (start_of canonical n) (view w) s count, count_is g (start_of canonical n) (view w) s count)

    turn_is : collected_to g (start_of canonical n) (view after) (s + 1) r ≡ expand_next limits g follow here
    turn_is = call.outcome ∙ ap (λ (f : Follow). expand_next limits g f here) (follow_same g (view w₀) (view w) canonical n asked.closable.clean walk.only.firsts)

    pub collect_turns : (states : ℕ) → r ≡ Ok states → length after ≡ length w → CollectLeft bytes canonical n w₀ after states (s + 1)
    unfolding collected_to StillParented
    collect_turns states is size =
        let (grown, parented) = rw is at call.left in
        record {
          within = omega arith;
          same = size ∙ walk.same;
          able = parented;
          only = only_both (view w₀) (view w) (view after) walk.only call.only;
          left = sym (all_more limits g follow (129 - (s + 1)) here _ more (sym (rw is at turn_is))) ∙ left_is;
        }

    pub collect_refused : (why : BuildRefusal) → r ≡ Err why → StatesBuilt bytes (all_states bytes canonical n (view w₀)) (view w₀) (view after) (Err why)
    unfolding collected_to states_to PlacedTo
    collect_refused why is = record {
      outcome = sym (all_refused limits g follow (129 - (s + 1)) here why more (sym (rw is at turn_is))) ∙ left_is;
      placed = tt;
      only = only_both (view w₀) (view w) (view after) walk.only call.only;
    }

-- ---- from a room whose entries begin anywhere
module _ (bytes : List ℕ) (canonical : Bool) (n m : ℕ) (w w₁ : List ℕ) (asked : Collectable bytes n m w) (put : view w₁ ≡ put_first_entry 0 0 (view w)) where
  pub begun_asks : length w₁ ≡ length w → Collectable bytes n m w₁
  begun_asks size = record { closable = closable_kept bytes n w w₁ asked.closable size; counted = asked.counted; some = asked.some }

  pub begun_place : first_of (view w₁) 0 ≡ 0
  begun_place = ap (λ (r : Room). first_of r 0) put ∙ get_or-set_same (view w).first_entries 0 0 0 (omega (arith, (view_lengths w asked.closable.long).first_entries_length_lem))

pub begun_built : (bytes : List ℕ) (canonical : Bool) (n : ℕ) (v p q : Room) (r : Result ℕ BuildRefusal) → p ≡ put_first_entry 0 0 v → StatesBuilt bytes (all_states bytes canonical n p) p q r → StatesBuilt bytes (all_states bytes canonical n v) v q r
begun_built bytes canonical n v p q r put built = record {
  outcome = built.outcome ∙ ap (all_states bytes canonical n) put;
  placed = built.placed;
  only = only_both v p q (only_placed v p 0 0 put) built.only;
}
