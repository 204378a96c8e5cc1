-- The walks of a visit of lane mode keep production 0's completed entry: with every set `all` or with no token but Eof, and in the state
-- visited and its clones, whose entry takes a column afterwards, among the actions.
use Prim.Native.Nat.{ℕ, ◌+◌, ◌<◌, ◌≤◌}
use mathlib.Core.Path.{◌≡◌, refl, sym, ap, ◌∙◌}
use mathlib.Core.Logic.{◌⊎◌, inl, inr, ⊎_elim}
use mathlib.Core.List.{List, [], ◌∷◌, ◌++◌, map}
use native.Mathlib.Omega.{arith}
use native.Mathlib.Decide.{ℕ_discrete, dec_lt}
use lib.ListN.{length, get_or, length-append, length-set, get_or-append, get_or-eq_default}
use lib.Seq.{get_or_at}
use Rattle.base.specs.Among.{Among}
use Rattle.base.specs.Lists.{up_to, numbers_from}
use Rattle.base.proofs.Lists.{among_none, after_set, numbers_at, numbers_length}
use Rattle.base.proofs.Members.{map_among}
use Rattle.rules.specs.Limits.{Limits}
use Rattle.rules.specs.Records.{Grammar}
use Rattle.rules.specs.Tokens.{TokenSet, all}
use Rattle.rules.specs.Grammar.{terminal_count}
use Rattle.rules.specs.States.{Entry, State, each_in_turn}
use Rattle.rules.specs.Lanes.{Action, LaneTable, beachheads}
use Rattle.rules.specs.Merge.{Merge, origin_of, join_groups, clone_state, patch_links, mark_walked, walk, merge_begun}
use Rattle.walks.proofs.Outcomes.{Holds, holds_in_turn}
use Rattle.walks.proofs.Walk.{steps_keep}
use Rattle.demands.proofs.MergeLinked.{patched}
use Rattle.demands.proofs.StartActions.{EntryOnEof, StateOnEof, UntouchedOrOnEof, EntryActing, StateActing, none_state_on_eof}

-- what holds of the items and sets of a state holds when links alone change
relinked : (P : ℕ → TokenSet → Type 0) (change : Entry → Entry) → ((e : Entry) → ((change e).item ≡ e.item) × ((change e).set ≡ e.set)) → (state : State)
    → ((e : Entry) → Among e state → P e.item e.set) → (e : Entry) → Among e (map change state) → P e.item e.set
relinked P change same state h e m =
    let (f, k, q) = map_among change state m in
    rw (q, (same f).0, (same f).1) (h f k)

module _ (g : Grammar) where
  -- the states before the visit of state s: those below s were visited
  abbrev pub VisitedBefore : ℕ → List State → Type 0
  VisitedBefore s states = (t : ℕ) → UntouchedOrOnEof g (get_or states t []) × (t < s → StateOnEof g (get_or states t []))

  module _ (s : ℕ) (actions : List Action) where
    -- t is the state visited, or a clone of it
    abbrev pub Mine : Merge → ℕ → Type 0
    Mine m t = (t ≡ s) ⊎ (origin_of m t ≡ s)

    -- state t, which is one of those or not
    pub record Held (mine : Type 0) (t : ℕ) (state : State) : Type 0 where
      pub sets : UntouchedOrOnEof g state
      pub below : t < s → StateOnEof g state
      pub mines : mine → StateActing g actions state

    pub record Visiting (m : Merge) : Type 0 where
      pub counted : length m.origins ≡ length m.states
      pub above : s < length m.states
      pub holds : (t : ℕ) → Held (Mine m t) t (get_or m.states t [])

    none_held : (mine : Type 0) (t : ℕ) → Held mine t []
    none_held mine t = record { sets = inr (none_state_on_eof g); below = λ _. none_state_on_eof g; mines = λ _ e m. absurd (among_none m) }

    links_held : (change : Entry → Entry) → ((e : Entry) → ((change e).item ≡ e.item) × ((change e).set ≡ e.set))
        → (mine : Type 0) (t : ℕ) (state : State) → Held mine t state → Held mine t (map change state)
    links_held change same mine t state h = record {
      sets =
          ⊎_elim (λ u. inl (relinked (λ i v. v ≡ all (terminal_count g)) change same state u))
          (λ f. inr (relinked (EntryOnEof g) change same state f)) h.sets;
      below = λ b. relinked (EntryOnEof g) change same state (h.below b);
      mines = λ k. relinked (EntryActing g actions) change same state (h.mines k);
    }

    -- ---- the steps of a walk
    marks : (t : ℕ) (m : Merge) → Visiting m → Visiting (mark_walked t m)
    unfolding mark_walked origin_of
    marks t m h = record { counted = h.counted; above = h.above; holds = h.holds }

    groups : (t u : ℕ) (m : Merge) → Visiting m → Visiting (join_groups t u m)
    unfolding join_groups origin_of
    groups t u m h = record { counted = h.counted; above = h.above; holds = h.holds }

    patches : (t successor clone : ℕ) (m : Merge) → Visiting m → Visiting (patch_links g t successor clone m)
    unfolding patch_links origin_of
    patches t successor clone m h = record {
      counted = h.counted ∙ sym (length-set m.states t new);
      above = rw (length-set m.states t new) h.above;
      holds =
          after_set (λ u state. Held (Mine m u) u state) m.states t new []
          (links_held (patched g successor clone) (λ e. (refl, refl)) (Mine m t) t (get_or m.states t []) (h.holds t)) h.holds;
    }
      where
        new : State
        new = map (patched g successor clone) (get_or m.states t [])

    clones : (t : ℕ) (m : Merge) → Visiting m → Visiting (clone_state t m)
    unfolding clone_state origin_of
    clones t m h = record {
      counted = length-append m.origins (origin_of m t ∷ []) ∙ ap (λ (k : ℕ). k + 1) h.counted ∙ sym more;
      above = omega (arith, more, h.above);
      holds = λ u. by_place u (ℕ_discrete u (length m.states)) (dec_lt u (length m.states));
    }
      where
        state : State
        state = get_or m.states t []

        more : length (m.states ++ (state ∷ [])) ≡ length m.states + 1
        more = length-append m.states (state ∷ [])

        past : (u : ℕ) → (u ≡ length m.states → ⊥) → (u < length m.states → ⊥) → length (m.states ++ (state ∷ [])) ≤ u
        past u ne nb = omega (arith, more)

        by_place : (u : ℕ) → Dec (u ≡ length m.states) → Dec (u < length m.states)
            → Held ((u ≡ s) ⊎ (get_or (m.origins ++ (origin_of m t ∷ [])) u u ≡ s)) u (get_or (m.states ++ (state ∷ [])) u [])
        by_place u (yes e) d =
            rw (get_or_at m.origins (origin_of m t) [] u u (h.counted ∙ sym e), get_or_at m.states state [] [] u (sym e))
            (record {
              sets = (h.holds t).sets;
              below = λ b. absurd (omega (arith, h.above));
              mines = λ mine. ⊎_elim (λ q. absurd (omega (arith, h.above))) (λ q. (h.holds t).mines (inr q)) mine;
            })
        by_place u (no ne) (yes b) =
            let origin = get_or-append m.origins (origin_of m t ∷ []) u u (omega (arith, h.counted)) in
            rw (origin, get_or-append m.states (state ∷ []) [] u b) (h.holds u)
        by_place u (no ne) (no nb) = rw (get_or-eq_default (m.states ++ (state ∷ [])) [] (past u ne nb)) (none_held _ u)

    -- ---- a visit begins its merge at the states, and walks from each beachhead
    module _ (states : List State) (within : s < length states) (before : VisitedBefore s states) (acts : StateActing g actions (get_or states s [])) where
      begins_visiting : Visiting (merge_begun states)
      unfolding merge_begun origin_of up_to
      begins_visiting = record {
        counted = numbers_length 0 (length states);
        above = within;
        holds = λ t. record { sets = (before t).0; below = (before t).1; mines = λ mine. by_place t (dec_lt t (length states)) mine };
      }
        where
          by_place : (t : ℕ) → Dec (t < length states) → (t ≡ s) ⊎ (get_or (numbers_from 0 (length states)) t t ≡ s) → StateActing g actions (get_or states t [])
          by_place t (yes below) mine =
              let q : t ≡ s = ⊎_elim (λ e. e) (λ e. omega (arith, numbers_at 0 (length states) t t below)) mine in
              rw q acts
          by_place t (no not) mine = let z : length states ≤ t = omega arith in rw (get_or-eq_default states [] z) (λ e m. absurd (among_none m))

      pub walks_visiting : (l : Limits) (table : LaneTable)
          → Holds Visiting (each_in_turn (walk l g table (l.states + 1)) (beachheads table) (merge_begun states))
      walks_visiting l table =
          holds_in_turn Visiting (walk l g table (l.states + 1)) (beachheads table)
          (λ t among m k. steps_keep l g Visiting marks groups patches clones table (l.states + 1) t m k) (merge_begun states) begins_visiting
