-- The visit of a state: its actions, its lane table, and what is resolved by it.
use Prim.Native.Nat.{ℕ, ◌<◌, ◌≤◌}
use mathlib.Core.Path.{◌≡◌, refl, sym, ap, subst, ◌∙◌}
use mathlib.Core.Bool.{Bool, true, false}
use mathlib.Core.List.{List, [], ◌∷◌}
use native.Mathlib.Omega.{arith}
use lib.ListN.{length, get_or}
use lib.Dec.{ltb}
use borrow.Author.Tests.{lt-ltb, le-ltb}
use Rattle.base.specs.Pick.{pick}
use Rattle.base.specs.Each.{each_from}
use Rattle.base.specs.Lists.{is_empty}
use Rattle.std.specs.Prelude.{Option, Some, None, Result, Ok, Err}
use Rattle.std.specs.Option.{ok_or}
use Rattle.rules.specs.Limits.{limits, max_columns}
use Rattle.rules.specs.Records.{Grammar, records}
use Rattle.rules.specs.First.{Sets, first_sets}
use Rattle.rules.specs.declared.BuildRefusal.{BuildRefusal}
use Rattle.rules.specs.States.{Entry, State, Outcome, done, refused}
use Rattle.rules.specs.Lanes.{Action, actions_at, lane_table}
use Rattle.rules.specs.Merge.{resolve_by, resolve}
use Rattle.rules.specs.declared.StateIndex.{StateIndex}
use Rattle.rules.specs.declared.BuildRefusal.TheVariants.{Actions}
use Rattle.room.specs.Areas.{Room}
use Rattle.room.specs.Bounds.{IsState}
use Rattle.room.specs.Slots.{entry_slot}
use Rattle.lookahead.specs.Sets.{load_set, set_at}
use Rattle.states.specs.StatesIn.{entry_in, states_in, state_in, PlacedAt, Placed}
use Rattle.states.proofs.Places.{placed_same, states_same}
use Rattle.states.proofs.States.{state_at, entry_same}
use Rattle.lane.specs.declared.Lanes.{Lanes}
use Rattle.lane_table.specs.Actions.{action_of, actions_in, Tracing, table_of, LaneTableBuilt}
use Rattle.lane_table.proofs.Built as lanes
use Rattle.actions.specs.Puts.{InColumns, PutInto, ActionsPut}
use Rattle.merging.specs.Takes.{actions_for}
use Rattle.merging.specs.Visits.{Resolvable, states_after, ResolvedTo, ResolvesBy}
use Rattle.visits.specs.Visits.{Visitable, OnlyVisited, VisitedTo, Resolves}
use Rattle.visits.proofs.Frames.{only_both, firsts_stay, visitable_again}

-- ---- a value, or the refusal where there is none
pub value_given : (a : Option ℕ) (why : BuildRefusal) (c : ℕ) → ok_or a why ≡ Ok c → a ≡ Some c
value_given (Some d) why c is = cc
value_given None why c is = let z : ◌≡◌ {A = ℕ} 0 1 = cc in absurd (omega arith)

pub none_given : (a : Option ℕ) (why e : BuildRefusal) → ok_or a why ≡ Err e → (a ≡ None) × (e ≡ why)
none_given (Some d) why e is = let z : ◌≡◌ {A = ℕ} 0 1 = cc in absurd (omega arith)
none_given None why e is = (refl, cc)

-- ---- `resolve` by its number of actions
empty_list : {A : Type 0} (l : List A) → length l ≡ 0 → is_empty l ≡ true
unfolding is_empty
empty_list [] e = refl
empty_list (x ∷ l) e = absurd (omega arith)

some_list : {A : Type 0} (l : List A) → 0 < length l → is_empty l ≡ false
unfolding is_empty
some_list [] h = absurd (omega arith)
some_list (x ∷ l) h = refl

module _ (g : Grammar) (sets : Sets) (s : ℕ) (states : List State) (actions : List Action) (are : actions_at g (get_or states s []) ≡ actions) where
  abbrev traced : List Action → Outcome (List State)
  traced l = resolve_by limits g states s l (lane_table g sets states s l)

  abbrev tried : List Action → Bool → Outcome (List State)
  tried l many = pick many (refused (Actions (record { 0 = s }))) (traced l)

  abbrev visited : List Action → Bool → Outcome (List State)
  visited l none = pick none (done states) (tried l (ltb max_columns (length l)))

  resolve_is : resolve limits g sets s states ≡ visited actions (is_empty actions)
  unfolding resolve limits
  resolve_is = ap (λ l. visited l (is_empty l)) are

  resolve_none : length actions ≡ 0 → resolve limits g sets s states ≡ done states
  resolve_none e = resolve_is ∙ ap (visited actions) (empty_list actions e)

  resolve_many : max_columns < length actions → resolve limits g sets s states ≡ refused (Actions (record { 0 = s }))
  resolve_many h = resolve_is ∙ ap (visited actions) (some_list actions (omega arith)) ∙ ap (tried actions) (lt-ltb max_columns (length actions) h)

  resolve_few : 0 < length actions → length actions ≤ max_columns → resolve limits g sets s states ≡ traced actions
  resolve_few some few = resolve_is ∙ ap (visited actions) (some_list actions some) ∙ ap (tried actions) (le-ltb max_columns (length actions) few)

-- ---- rooms with the same states
module _ (v q : Room) (entries : q.entries ≡ v.entries) (firsts : q.first_entries ≡ v.first_entries) (sets : q.sets ≡ v.sets) (record_count count : ℕ) (placed : Placed record_count count v) where
  same_entry_lem : (k : ℕ) → entry_in q k ≡ entry_in v k
  same_entry_lem k = entry_same v q k entries (ap (λ l. load_set l (entry_slot k)) sets)

  same_placed : Placed record_count count q
  same_placed = placed_same record_count count v q placed firsts (λ k h. ap (λ (e : Entry). e.item) (same_entry_lem k))

  same_states : states_in q count ≡ states_in v count
  same_states = states_same record_count count v q placed firsts (λ k h. same_entry_lem k)

module _ (bytes : List ℕ) (n count : ℕ) (state : StateIndex) (v : Room) (ready : Visitable bytes n count v) (low : state.0 < count) where
  abbrev size : ℕ
  size = length (records bytes)

  pub visited_state : IsState state
  visited_state = omega (arith, ready.placed.few)

  pub visited_placed : PlacedAt size v state.0
  visited_placed = ready.placed.each state.0 low

  abbrev ours : List Action
  ours = actions_at (records bytes) (state_in v state.0)

  are_ours : actions_at (records bytes) (get_or (states_in v count) state.0 []) ≡ ours
  are_ours = ap (actions_at (records bytes)) (state_at v count state.0 low)

  -- the actions were put
  module _ (a : Option ℕ) (p : Room) (put : ActionsPut bytes state.0 v a p) where
    put_placed : Placed size count p
    put_placed = same_placed v p (ap (λ (r : Room). r.entries) put.others) (ap (λ (r : Room). r.first_entries) put.others) (ap (λ (r : Room). r.sets) put.others) size count ready.placed

    put_states : states_in p count ≡ states_in v count
    put_states = same_states v p (ap (λ (r : Room). r.entries) put.others) (ap (λ (r : Room). r.first_entries) put.others) (ap (λ (r : Room). r.sets) put.others) size count ready.placed

    put_only : OnlyVisited v p
    put_only = record { firsts = λ slot h. ap (λ (r : Room). set_at r slot) put.others; rest = ap (λ (r : Room). r.rest) put.others }

    pub too_many : a ≡ None → Resolves bytes n state.0 count v (Err (Actions state)) p
    unfolding states_after
    too_many e = record {
      outcome = sym (resolve_many (records bytes) (first_sets (records bytes)) state.0 (states_in v count) ours are_ours (subst (λ y. PutInto bytes ours y v p) e put.put));
      only = put_only;
      left = tt;
    }

    module _ (c : ℕ) (came : a ≡ Some c) where
      in_columns : InColumns bytes ours c v p
      in_columns = subst (λ y. PutInto bytes ours y v p) came put.put

      pub no_action : c ≡ 0 → Resolves bytes n state.0 count v (Ok count) p
      unfolding states_after
      no_action e = record {
        outcome = ap done put_states ∙ sym (resolve_none (records bytes) (first_sets (records bytes)) state.0 (states_in v count) ours are_ours (sym in_columns.count ∙ e));
        only = put_only;
        left = (visitable_again bytes n count count v p ready put_only put_placed, omega arith);
      }

      abbrev own : Lanes
      own = record { terminals = n; states = count; columns = c }

      pub can_trace : Tracing bytes own state.0 p
      can_trace = record {
        clean = ready.clean;
        short = ready.short;
        few_terminals = ready.few;
        counted = ready.counted;
        state = low;
        narrow = in_columns.few;
        placed = put_placed;
        fit = in_columns.fit;
      }

      -- the lane table was built
      module _ (w : Room) (built : LaneTableBuilt bytes own state.0 p w) where
        built_actions : actions_for own w ≡ ours
        unfolding actions_in
        built_actions = ap (λ (l : List ℕ). each_from (λ k. action_of (get_or l k 0)) 0 c) (lanes.built_actions bytes own state.0 p w built) ∙ in_columns.are

        built_table : table_of own w ≡ lane_table (records bytes) (first_sets (records bytes)) (states_in v count) state.0 ours
        built_table =
            built.table
            ∙ ap (λ sets. lane_table (records bytes) sets (states_in p count) state.0 (actions_in p c)) (firsts_stay (records bytes) v p ready.clean put_only.firsts ∙ ready.firsts)
            ∙ ap (λ states. lane_table (records bytes) (first_sets (records bytes)) states state.0 (actions_in p c)) put_states
            ∙ ap (lane_table (records bytes) (first_sets (records bytes)) (states_in v count) state.0) in_columns.are

        built_only : OnlyVisited p w
        built_only = record { firsts = λ slot h. built.only.slots slot (omega arith); rest = lanes.built_rest bytes own state.0 p w built }

        pub can_resolve : Resolvable bytes own state.0 w
        can_resolve = record { clean = ready.clean; counted = ready.counted; placed = lanes.built_placed bytes own state.0 p w built size count put_placed; narrow = in_columns.few; state = low }

        -- and the state resolved by it
        module _ (r : Result ℕ BuildRefusal) (q : Room) (by : ResolvesBy bytes own state.0 w r q) where
          resolved_only : OnlyVisited v q
          resolved_only =
              only_both v w q (only_both v p w put_only built_only)
              (record { firsts = by.only.firsts; rest = ap (λ (r : Room). r.rest) by.only.others })

          resolved_left : (r : Result ℕ BuildRefusal) → ResolvedTo bytes count r q → VisitedTo bytes n count r q
          resolved_left (Ok more) h = (visitable_again bytes n count more v q ready resolved_only h.placed, h.grown)
          resolved_left (Err why) h = tt

          pub resolved : (c ≡ 0 → ⊥) → Resolves bytes n state.0 count v r q
          resolved some = record {
            outcome = by.outcome
                ∙ ap (λ states. resolve_by limits (records bytes) states state.0 (actions_for own w) (table_of own w)) (lanes.built_states bytes own state.0 p w built size count put_placed ∙ put_states)
                ∙ ap (λ l. resolve_by limits (records bytes) (states_in v count) state.0 l (table_of own w)) built_actions
                ∙ ap (resolve_by limits (records bytes) (states_in v count) state.0 ours) built_table
                ∙ sym (resolve_few (records bytes) (first_sets (records bytes)) state.0 (states_in v count) ours are_ours (omega (arith, in_columns.count)) (omega (arith, in_columns.count, in_columns.few)));
            only = resolved_only;
            left = resolved_left r by.left;
          }
