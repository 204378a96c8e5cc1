-- Merge: the states of a lane table are joined into groups whose columns stay disjoint, and a state that fits into no group of its
-- predecessor is cloned.
--
-- S→aXc, aYd, bXd, bYc; X→e; Y→e: state 6 reduces e to X or Y. Its predecessors 2 and 3 contribute c d and d c. State 2 joins with 6;
-- 3 does not, so it gets a clone of 6.
use Rattle.std.specs.Prelude.{ℕ, zero, suc, ◌+◌, Bool, true, false, ◌&&◌, not, List, [], ◌∷◌, ◌++◌, map, length, get_or, set, eqb, leb, ltb}
use Rattle.base.specs.Pick.{pick}
use Rattle.base.specs.Lists.{up_to, keep, place_of, fold_over, is_empty}
use Rattle.rules.specs.Limits.{Limits}
use Rattle.rules.specs.Records.{Grammar}
use Rattle.rules.specs.Tokens.{NumberSet, TokenSet, has, single, join}
use Rattle.rules.specs.Grammar.{at_end}
use Rattle.rules.specs.First.{Sets, first_sets}
use Rattle.rules.specs.States.{Entry, State, Outcome, done, refused, each_in_turn, item_count, conflict_count, lr0_states}
use Rattle.rules.specs.Lanes.{Action, is_reduce, actions_at, LaneTable, Row, row_of, column_of, lane_table, join_columns, pairwise_disjoint, no_columns, all_columns, rows_disjoint, beachheads}
use Rattle.rules.specs.declared.BuildRefusal.TheVariants.{States as TooManyStates, Items as TooManyItems, Actions as TooManyActions, Conflicts}

pub record Merge : Type 0 where
  pub states : List State
  -- the state that each is a clone of in this visit; of any other, itself
  pub origins : List ℕ
  -- the head of each state's group
  pub heads : List ℕ
  -- a set of states
  pub walked : NumberSet

unfoldable pub origin_of : Merge → ℕ → ℕ
origin_of m s = get_or m.origins s s

unfoldable pub head_of : Merge → ℕ → ℕ
head_of m s = get_or m.heads s s

-- a state's row is its original's
unfoldable pub row_of_origin : LaneTable → Merge → ℕ → Row
unfolding row_of origin_of
row_of_origin table m s = row_of table (origin_of m s)

-- ---- groups
-- the columns of a group: its members' rows, joined
unfoldable pub group_columns : LaneTable → Merge → ℕ → List TokenSet
unfolding fold_over keep up_to head_of join_columns row_of_origin no_columns
group_columns table m head =
    fold_over (λ s columns. join_columns columns (row_of_origin table m s).columns) (keep (λ s. eqb (head_of m s) head) (up_to (length m.states))) (no_columns table)

-- the groups of s and t are one, or their columns stay disjoint when they are joined
unfoldable pub can_join : LaneTable → Merge → ℕ → ℕ → Bool
unfolding head_of pairwise_disjoint join_columns group_columns
can_join table m s t =
    let together : Bool = pairwise_disjoint (join_columns (group_columns table m (head_of m s)) (group_columns table m (head_of m t))) in
    pick (eqb (head_of m s) (head_of m t)) true together

unfoldable pub join_groups : ℕ → ℕ → Merge → Merge
unfolding head_of
join_groups s t m = record {
  states = m.states;
  origins = m.origins;
  heads = map (λ head. pick (eqb head (head_of m t)) (head_of m s) head) m.heads;
  walked = m.walked;
}

-- ---- clones
-- the clones of s, oldest first
unfoldable pub clones_of : Merge → ℕ → List ℕ
unfolding keep up_to origin_of
clones_of m s = keep (λ c. eqb (origin_of m c) s && not (eqb c s)) (up_to (length m.states))

-- a clone copies the state as it stands, and is a group of its own
unfoldable pub clone_state : ℕ → Merge → Merge
unfolding origin_of
clone_state s m = record {
  states = m.states ++ (get_or m.states s [] ∷ []);
  origins = m.origins ++ (origin_of m s ∷ []);
  heads = m.heads ++ (length m.states ∷ []);
  walked = m.walked;
}

-- the successor's number is replaced in the shifts and gotos of state s; merge.rs: patch_links
unfoldable pub patch_links : Grammar → ℕ → ℕ → ℕ → Merge → Merge
unfolding at_end
patch_links g s successor clone m = record {
  states = set m.states s
      (map (λ e. record { item = e.item; next = pick (not (at_end g e.item) && eqb e.next successor) clone e.next; set = e.set })
      (get_or m.states s []));
  origins = m.origins;
  heads = m.heads;
  walked = m.walked;
}

unfoldable pub mark_walked : ℕ → Merge → Merge
unfolding join single
mark_walked s m = record { states = m.states; origins = m.origins; heads = m.heads; walked = join m.walked (single s) }

-- ---- the walk
-- s and t are joined, where t stands in the successor's place: the successor itself, or a clone of it, to which s is linked
unfoldable pub joined : Grammar → ℕ → ℕ → ℕ → Merge → Merge
unfolding join_groups patch_links
joined g s successor t m = pick (eqb t successor) (join_groups s t m) (patch_links g s successor t (join_groups s t m))

-- a new clone; 9 is tried before 10, and if the clone does not join either, the conflicts of all states are counted, it among them
unfoldable pub join_new : Limits → Grammar → LaneTable → ℕ → ℕ → Merge → Outcome Merge
unfolding item_count clone_state can_join joined conflict_count
join_new l g table s successor m =
    let clone : ℕ = length m.states in
    let cloned : Merge = clone_state successor m in
    let conflicting : Outcome Merge = refused (Conflicts (conflict_count g cloned.states)) in
    let joins : Outcome Merge = pick (can_join table cloned s clone) (done (joined g s successor clone cloned)) conflicting in
    let fits : Outcome Merge = pick (ltb l.items (item_count cloned.states)) (refused TooManyItems) joins in
    pick (leb l.states clone) (refused TooManyStates) fits

-- the place of the first of the successor and its clones, oldest first, that joins with s; past them if none does
unfoldable pub place_joining : LaneTable → Merge → ℕ → List ℕ → ℕ
unfolding place_of can_join
place_joining table m s choices = place_of (can_join table m s) choices

-- a join with s, and the state that stands in the successor's place
pub record Joining : Type 0 where
  pub merge : Merge
  pub state : ℕ

unfoldable pub with_new : ℕ → Outcome Merge → Outcome Joining
with_new t (done m) = done (record { merge = m; state = t })
with_new t (refused why) = refused why

unfoldable pub join_successor : Limits → Grammar → LaneTable → ℕ → ℕ → Merge → Outcome Joining
unfolding clones_of place_joining joined with_new join_new
join_successor l g table s successor m =
    let choices : List ℕ = successor ∷ clones_of m successor in
    let k : ℕ = place_joining table m s choices in
    let t : ℕ = get_or choices k 0 in
    let old : Outcome Joining = done (record { merge = joined g s successor t m; state = t }) in
    let new : Outcome Joining = with_new (length m.states) (join_new l g table s successor m) in
    pick (ltb k (length choices)) old new

-- the successors of s in the lane table, ascending
unfoldable pub successors_of : LaneTable → Merge → ℕ → List ℕ
unfolding keep has row_of_origin up_to
successors_of table m s = keep (has (row_of_origin table m s).successors) (up_to (length table))

-- merge.rs: walk. Depth first: into a joined successor before the next one is joined. Each call that does not stop at once walks a
-- state that was not walked, so as many nested calls as there can be states, and one that stops, suffice
unfoldable pub walk : Limits → Grammar → LaneTable → ℕ → ℕ → Merge → Outcome Merge
unfolding has mark_walked successors_of join_successor each_in_turn
walk l g table zero s m = done m
walk l g table (suc fuel) s m =
    elim (has m.walked s) [
      | true ↦ done m
      | false ↦
          each_in_turn
          (λ successor m. elim (join_successor l g table s successor m) [ done j ↦ walk l g table fuel j.state j.merge | refused why ↦ refused why ])
          (successors_of table m s)
          (mark_walked s m)
    ]

-- ---- what the reductions take
-- each reduction of the state takes its column; context_set/mod.rs: apply
unfoldable pub take_column : List Action → List TokenSet → Entry → Entry
unfolding place_of is_reduce column_of
take_column actions columns e =
    let c : ℕ = place_of (is_reduce e.item) actions in
    record { item = e.item; next = e.next; set = pick (ltb c (length actions)) (column_of columns c) e.set }

unfoldable pub take_columns : List Action → List TokenSet → State → State
unfolding take_column
take_columns actions columns state = map (take_column actions columns) state

-- the inconsistent state and its clones take their groups' columns; merge.rs: patch_target_starts
unfoldable pub take_all : LaneTable → List Action → ℕ → Merge → List State
unfolding fold_over clones_of take_columns group_columns head_of
take_all table actions s m =
    fold_over (λ t states. set states t (take_columns actions (group_columns table m (head_of m t)) (get_or states t []))) (s ∷ clones_of m s) m.states

-- ---- a visit; construct/mod.rs: resolve_inconsistencies
unfoldable pub merge_begun : List State → Merge
unfolding up_to
merge_begun states = record { states = states; origins = up_to (length states); heads = up_to (length states); walked = 0 }

unfoldable pub merged : LaneTable → List Action → ℕ → Outcome Merge → Outcome (List State)
unfolding take_all
merged table actions s (done m) = done (take_all table actions s m)
merged table actions s (refused why) = refused why

-- the columns of the lane table overlap: a row that overlaps within itself ends in 12, else the walks begin at the beachheads
unfoldable pub merge_rows : Limits → Grammar → List State → ℕ → List Action → LaneTable → Outcome (List State)
unfolding rows_disjoint conflict_count merged each_in_turn walk beachheads merge_begun
merge_rows l g states s actions table =
    let overlapping : Outcome (List State) = refused (Conflicts (conflict_count g states)) in
    let walks : Outcome (List State) = merged table actions s (each_in_turn (walk l g table (l.states + 1)) (beachheads table) (merge_begun states)) in
    pick (rows_disjoint table) walks overlapping

-- if the columns, joined over all states, are pairwise disjoint, each reduction takes its column
unfoldable pub resolve_by : Limits → Grammar → List State → ℕ → List Action → LaneTable → Outcome (List State)
unfolding all_columns pairwise_disjoint take_columns merge_rows
resolve_by l g states s actions table =
    let columns : List TokenSet = all_columns table in
    let taken : Outcome (List State) = done (set states s (take_columns actions columns (get_or states s []))) in
    let walks : Outcome (List State) = merge_rows l g states s actions table in
    pick (pairwise_disjoint columns) taken walks

-- a state with no action is left; 11 is tried before anything is traced
unfoldable pub resolve : Limits → Grammar → Sets → ℕ → List State → Outcome (List State)
unfolding actions_at is_empty resolve_by lane_table
resolve l g sets s states =
    let actions : List Action = actions_at g (get_or states s []) in
    let traced : Outcome (List State) = resolve_by l g states s actions (lane_table g sets states s actions) in
    let tried : Outcome (List State) = pick (ltb l.actions (length actions)) (refused (TooManyActions (record { 0 = s }))) traced in
    pick (is_empty actions) (done states) tried

-- ---- the states are visited by number, clones included as they appear. There are never more than the limit, so that many visits
-- and one to see the end suffice
unfoldable pub resolve_from : Limits → Grammar → Sets → ℕ → ℕ → List State → Outcome (List State)
unfolding resolve
resolve_from l g sets zero s states = done states
resolve_from l g sets (suc fuel) s states =
    elim (ltb s (length states)) [
      | true ↦ elim (resolve l g sets s states) [ done states' ↦ resolve_from l g sets fuel (suc s) states' | refused why ↦ refused why ]
      | false ↦ done states
    ]

unfoldable pub resolve_all : Limits → Grammar → Outcome (List State) → Outcome (List State)
unfolding resolve_from first_sets
resolve_all l g (done states) = resolve_from l g (first_sets g) (l.states + 1) 0 states
resolve_all l g (refused why) = refused why

-- the lane mode up to the final check; construct/mod.rs: construct
unfoldable pub lanes : Limits → Grammar → Outcome (List State)
unfolding resolve_all lr0_states
lanes l g = resolve_all l g (lr0_states l g)
