-- Lane mode keeps states linked: a clone has its original's items, links are patched to a clone of where they led, and columns change
-- sets alone.
use Prim.Native.Nat.{ℕ, ◌+◌, ◌<◌, ◌≤◌}
use mathlib.Core.Path.{◌≡◌, refl, sym, ap, ◌∙◌}
use mathlib.Core.Logic.{⊎_elim}
use mathlib.Core.Bool.{Bool, true, false, ◌&&◌, not}
use mathlib.Core.List.{List, [], ◌∷◌, ◌++◌, map}
use native.Mathlib.Omega.{arith}
use native.Mathlib.Decide.{ℕ_discrete}
use lib.ListN.{length, get_or, set, length-append, length-set, get_or-append}
use lib.Seq.{get_or_at}
use lib.Dec.{eqb, leb, ltb}
use borrow.Author.Tests.{ltb-true, eqb-true, eqb-false}
use Rattle.base.specs.Pick.{pick}
use Rattle.base.specs.Among.{Among}
use Rattle.base.specs.Lists.{numbers_from, up_to}
use Rattle.base.proofs.Lists.{among_cons, among_at, keep_among, up_to_among_lem, numbers_at, numbers_length}
use Rattle.base.proofs.Tests.{both_true}
use Rattle.rules.specs.Limits.{Limits}
use Rattle.rules.specs.Records.{Grammar}
use Rattle.rules.specs.Tokens.{TokenSet}
use Rattle.rules.specs.Grammar.{Symbol, at_end, is_before}
use Rattle.rules.specs.First.{Sets}
use Rattle.rules.specs.States.{Entry, State, Outcome, done, refused, item_count}
use Rattle.rules.specs.Lanes.{Action, LaneTable, lane_table}
use Rattle.rules.specs.Merge.{Merge, origin_of, can_join, join_groups, clones_of, clone_state, patch_links, mark_walked, joined, join_new, place_joining, with_new, join_successor, successors_of, walk, take_column, take_columns, merge_begun, resolve}
use Rattle.knuth.proofs.Dots.{before_not_at_end}
use Rattle.walks.proofs.Outcomes.{Holds, holds_pick}
use Rattle.walks.proofs.Resolve.{resolve_keeps}
use Rattle.traces.proofs.Rows.{lane_table_rows}
use Rattle.walks.proofs.Walk.{walk_keeps}
use Rattle.demands.proofs.Linked.{core, Linked, Restates, restated, restated_cores, copied}

-- the patched entry
abbrev pub patched : Grammar → ℕ → ℕ → Entry → Entry
patched g successor clone e = record { item = e.item; next = pick (not (at_end g e.item) && eqb e.next successor) clone e.next; set = e.set }

patched_next : (g : Grammar) (successor clone : ℕ) (x : Symbol) (e : Entry) → is_before g x e.item ≡ true
    → (patched g successor clone e).next ≡ pick (eqb e.next successor) clone e.next
patched_next g successor clone x e b = rw (before_not_at_end g x e.item b)

pub clone_of : (m : Merge) (s t : ℕ) → Among t (clones_of m s) → (t < length m.states) × (origin_of m t ≡ s)
unfolding clones_of
clone_of m s t among =
    let (i, p) = keep_among (λ c. eqb (origin_of m c) s && not (eqb c s)) (up_to (length m.states)) among in
    ((up_to_among_lem t (length m.states)).0 i, eqb-true _ _ (both_true (eqb (origin_of m t) s) _ p).0)

module _ (g : Grammar) (Starts Closed : List ℕ → Type 0) (Becomes : List ℕ → Symbol → List ℕ → Type 0) (none : Closed []) where
  abbrev pub LinkedStates : List State → Type 0
  LinkedStates = Linked g Starts Closed Becomes

  -- ---- columns
  take_restates : (states : List State) (t : ℕ) (actions : List Action) (columns : List TokenSet)
      → Restates g Starts Closed Becomes states t (take_column actions columns)
  unfolding take_column
  take_restates states t actions columns = record { item = λ e. refl; next = λ x e m b below. (below, refl); alike = λ x e f b c q. q }

  take_linked : (states : List State) (t : ℕ) (actions : List Action) (columns : List TokenSet) → LinkedStates states
      → LinkedStates (set states t (take_columns actions columns (get_or states t [])))
  unfolding take_columns
  take_linked states t actions columns h = restated g Starts Closed Becomes states t (take_column actions columns) (take_restates states t actions columns) h

  -- ---- links
  patch_restates : (states : List State) (s successor clone : ℕ) → clone < length states → core (get_or states clone []) ≡ core (get_or states successor [])
      → Restates g Starts Closed Becomes states s (patched g successor clone)
  patch_restates states s successor clone below same = record {
    item = λ e. refl;
    next = λ x e m b k. rw (patched_next g successor clone x e b) (by_test e k (eqb e.next successor) refl);
    alike = λ x e f b c q. patched_next g successor clone x e b ∙ ap (λ (n : ℕ). pick (eqb n successor) clone n) q ∙ sym (patched_next g successor clone x f c);
  }
    where
      by_test : (e : Entry) → e.next < length states → (b : Bool) → eqb e.next successor ≡ b
          → (pick b clone e.next < length states) × (core (get_or states (pick b clone e.next) []) ≡ core (get_or states e.next []))
      by_test e k true q = (below, rw (eqb-true e.next successor q) same)
      by_test e k false q = (k, refl)

  -- ---- a merge over a lane table with so many rows: a state has the items of the state that it is a clone of
  record Merging (rows : ℕ) (m : Merge) : Type 0 where
    linked : LinkedStates m.states
    enough : rows ≤ length m.states
    counted : length m.origins ≡ length m.states
    origins : (c : ℕ) → c < length m.states
        → (origin_of m c < length m.states) × (core (get_or m.states c []) ≡ core (get_or m.states (origin_of m c) []))

  begun_merging : (states : List State) → LinkedStates states → Merging (length states) (merge_begun states)
  unfolding merge_begun origin_of up_to
  begun_merging states h = record {
    linked = h;
    enough = omega arith;
    counted = numbers_length 0 (length states);
    origins = λ c b. let q : get_or (numbers_from 0 (length states)) c c ≡ c = omega (arith, numbers_at 0 (length states) c c b) in rw q (b, refl);
  }

  module _ (rows : ℕ) where
    marked_merging : (s : ℕ) (m : Merge) → Merging rows m → Merging rows (mark_walked s m)
    unfolding mark_walked origin_of
    marked_merging s m h = record { linked = h.linked; enough = h.enough; counted = h.counted; origins = h.origins }

    patch_merging : (s successor clone : ℕ) (m : Merge) → clone < length m.states → core (get_or m.states clone []) ≡ core (get_or m.states successor [])
        → Merging rows m → Merging rows (patch_links g s successor clone (join_groups s clone m))
    unfolding patch_links join_groups origin_of
    patch_merging s successor clone m b same h =
        let restates = patch_restates m.states s successor clone b same in
        let cores = restated_cores g Starts Closed Becomes m.states s (patched g successor clone) restates in
        let many : length (set m.states s (map (patched g successor clone) (get_or m.states s []))) ≡ length m.states = length-set m.states s _ in
        record {
          linked = restated g Starts Closed Becomes m.states s (patched g successor clone) restates h.linked;
          enough = omega (arith, h.enough);
          counted = h.counted ∙ sym many;
          origins = λ c k.
              let (below, q) = h.origins c (rw many at k) in
              (rw many below, cores c ∙ q ∙ sym (cores (origin_of m c)));
        }

    joined_merging : (s successor t : ℕ) (m : Merge)
        → (eqb t successor ≡ false → (t < length m.states) × (core (get_or m.states t []) ≡ core (get_or m.states successor [])))
        → Merging rows m → Merging rows (joined g s successor t m)
    unfolding joined join_groups origin_of
    joined_merging s successor t m same h = by_test (eqb t successor) refl
      where
        by_test : (b : Bool) → eqb t successor ≡ b → Merging rows (pick b (join_groups s t m) (patch_links g s successor t (join_groups s t m)))
        by_test true q = record { linked = h.linked; enough = h.enough; counted = h.counted; origins = h.origins }
        by_test false q = let (b, e) = same q in patch_merging s successor t m b e h

    clone_merging : (s : ℕ) (m : Merge) → s < length m.states → Merging rows m → Merging rows (clone_state s m)
    unfolding clone_state origin_of
    clone_merging s m b h = record {
      linked = copied g Starts Closed Becomes m.states s b none h.linked;
      enough = omega (arith, h.enough, more);
      counted = length-append m.origins (origin_of m s ∷ []) ∙ ap (λ (n : ℕ). n + 1) h.counted ∙ sym more;
      origins = λ c k. by_place c (ℕ_discrete c (length m.states)) (rw more at k);
    }
      where
        state : State
        state = get_or m.states s []

        more : length (m.states ++ (state ∷ [])) ≡ length m.states + 1
        more = length-append m.states (state ∷ [])

        -- an old state, at its old place
        old : (c : ℕ) → c < length m.states → get_or (m.states ++ (state ∷ [])) c [] ≡ get_or m.states c []
        old c k = get_or-append m.states (state ∷ []) [] c k

        by_place : (c : ℕ) → Dec (c ≡ length m.states) → c < length m.states + 1
            → (get_or (m.origins ++ (origin_of m s ∷ [])) c c < length (m.states ++ (state ∷ [])))
            × (core (get_or (m.states ++ (state ∷ [])) c []) ≡ core (get_or (m.states ++ (state ∷ [])) (get_or (m.origins ++ (origin_of m s ∷ [])) c c) []))
        by_place c (yes q) k =
            let (below, same) = h.origins s b in
            rw (get_or_at m.origins (origin_of m s) [] c c (h.counted ∙ sym q))
            (omega (arith, more), ap core (get_or_at m.states state [] [] c (sym q)) ∙ same ∙ ap core (sym (old (origin_of m s) below)))
        by_place c (no n) k =
            let c< : c < length m.states = omega arith in
            let (below, same) = h.origins c c< in
            rw (get_or-append m.origins (origin_of m s ∷ []) c c (omega (arith, h.counted)))
            (omega (arith, more), ap core (old c c<) ∙ same ∙ ap core (sym (old (origin_of m c) below)))

    -- ---- a successor is joined
    choice_alike : (m : Merge) (successor t : ℕ) → Merging rows m → Among t (successor ∷ clones_of m successor) → eqb t successor ≡ false
        → (t < length m.states) × (core (get_or m.states t []) ≡ core (get_or m.states successor []))
    choice_alike m successor t h among ne =
        ⊎_elim (λ q. absurd (eqb-false t successor ne q))
        (λ c. let (b, q) = clone_of m successor t c in (b, (h.origins t b).1 ∙ ap (λ (n : ℕ). core (get_or m.states n [])) q))
        (among_cons among)

    module _ (l : Limits) (table : LaneTable) (many : length table ≡ rows) where
      new_merging : (s successor : ℕ) (m : Merge) → successor < length m.states → Merging rows m → Holds (Merging rows) (join_new l g table s successor m)
      unfolding join_new clone_state
      new_merging s successor m b h =
          let clone : ℕ = length m.states in
          let cloned : Merge = clone_state successor m in
          let P : Merge → Type 0 = Merging rows in
          let copy : State = get_or m.states successor [] in
          let more : length (m.states ++ (copy ∷ [])) ≡ length m.states + 1 = length-append m.states (copy ∷ []) in
          let new : get_or (m.states ++ (copy ∷ [])) clone [] ≡ copy = get_or_at m.states copy [] [] clone refl in
          let old : get_or (m.states ++ (copy ∷ [])) successor [] ≡ copy = get_or-append m.states (copy ∷ []) [] successor b in
          holds_pick P (leb l.states clone) _ _ (λ _. tt)
          (λ _. holds_pick P (ltb l.items (item_count cloned.states)) _ _ (λ _. tt)
          (λ _. holds_pick P (can_join table cloned s clone) _ _
          (λ _. joined_merging s successor clone cloned (λ _. (omega arith, ap core new ∙ ap core (sym old))) (clone_merging successor m b h))
          (λ _. tt)))

      with_new_lem : (t : ℕ) (o : Outcome Merge) → Holds (Merging rows) o → Holds (λ j. Merging rows j.merge) (with_new t o)
      unfolding with_new
      with_new_lem t (done m) h = h
      with_new_lem t (refused why) h = tt

      successor_merging : (s successor : ℕ) (m : Merge) → successor < length table → Merging rows m
          → Holds (λ j. Merging rows j.merge) (join_successor l g table s successor m)
      unfolding join_successor
      successor_merging s successor m b h =
          let choices : List ℕ = successor ∷ clones_of m successor in
          let k : ℕ = place_joining table m s choices in
          let t : ℕ = get_or choices k 0 in
          holds_pick (λ j. Merging rows j.merge) (ltb k (length choices)) _ _
          (λ found. joined_merging s successor t m (choice_alike m successor t h (among_at choices k 0 (ltb-true k (length choices) found))) h)
          (λ _. with_new_lem (length m.states) (join_new l g table s successor m) (new_merging s successor m (omega (arith, h.enough)) h))

      successor_row : (m : Merge) (s successor : ℕ) → Among successor (successors_of table m s) → successor < length table
      unfolding successors_of
      successor_row m s successor among = (up_to_among_lem successor (length table)).0 (keep_among _ (up_to (length table)) among).0

      walk_merging : (fuel s : ℕ) (m : Merge) → Merging rows m → Holds (Merging rows) (walk l g table fuel s m)
      walk_merging =
          walk_keeps l g table (Merging rows) marked_merging
          (λ m₀ s successor among m h. successor_merging s successor m (successor_row m₀ s successor among) h)

  -- ---- visits
  module _ (l : Limits) (sets : Sets) where
    pub resolve_linked : (s : ℕ) (states : List State) → s < length states → LinkedStates states → Holds LinkedStates (resolve l g sets s states)
    resolve_linked s states b h =
        resolve_keeps l g LinkedStates (Merging (length states)) take_linked (λ m k. k.linked) states (begun_merging states) sets s
        (λ actions. walk_merging (length states) l (lane_table g sets states s actions) (lane_table_rows g sets states s b actions) (l.states + 1)) h
