-- Which actions are put: the shifts terminal by terminal, the reductions entry by entry, and that together they are the actions of the state.
use Prim.Native.Nat.{ℕ, zero, suc, ◌+◌, ◌*◌, ◌-◌, ◌≤◌, ◌<◌}
use mathlib.Core.Path.{◌≡◌, refl, sym, ap, ap₂, ◌∙◌}
use mathlib.Core.Bool.{Bool, true, false, not}
use mathlib.Core.List.{List, [], ◌∷◌, ◌++◌, map}
use native.Mathlib.Omega.{arith}
use lib.ListN.{length}
use borrow.Author.Tests.{not-true, not-false}
use Rattle.std.specs.Prelude.{Some, None}
use Rattle.base.specs.Pick.{pick}
use Rattle.base.specs.Each.{each_from}
use Rattle.base.specs.Lists.{numbers_from, up_to, keep, is_empty}
use Rattle.base.proofs.EachLeft.{each_last}
use Rattle.base.proofs.Lists.{keep_keep}
use Rattle.rules.specs.Limits.{max_terminals, max_columns}
use Rattle.rules.specs.Records.{Grammar, records}
use Rattle.rules.specs.Grammar.{at_end, terminal_count}
use Rattle.rules.specs.States.{Entry, State, reductions, shifts}
use Rattle.rules.specs.Lanes.{Action, shift, reduce, shift_conflicts, reduce_conflicts, conflicting_actions, actions_at}
use Rattle.room.specs.Areas.{Room}
use Rattle.states.specs.StatesIn.{entry_in, run_in, first_of, state_in, PlacedRun}
use Rattle.states.proofs.States.{state_run}
use Rattle.conflicts.specs.Counts.{is_shifted}
use Rattle.lane_table.specs.Actions.{action_of, actions_in}
use Rattle.actions.specs.Puts.{max_actions, is_shift_put, shift_put, shifts_put, is_put, reduction_put, reductions_put, Added, ShiftAdded, ShiftsAdded, ReductionAdded, ReductionsAdded, EntriesAdded, ActionsPut}
use Rattle.lane_table.proofs.Numbers.{shift_number, reduce_number}
use Rattle.actions.proofs.Numbers.{added_none, added_both, entry_kept, run_kept}

-- ---- one more of what is kept of a list
mapped_last : {A B : Type 0} (f : A → B) (test : A → Bool) (xs : List A) (x : A) → map f (keep test (xs ++ (x ∷ []))) ≡ map f (keep test xs) ++ pick (test x) (f x ∷ []) []
unfolding keep
mapped_last f test [] x = go (test x)
  where
    go : (b : Bool) → map f (pick b (x ∷ []) []) ≡ pick b (f x ∷ []) []
    go true = refl
    go false = refl
mapped_last f test (y ∷ xs) x = go (test y) (mapped_last f test xs x)
  where
    go : (b : Bool) → map f (keep test (xs ++ (x ∷ []))) ≡ map f (keep test xs) ++ pick (test x) (f x ∷ []) []
        → map f (pick b (y ∷ keep test (xs ++ (x ∷ []))) (keep test (xs ++ (x ∷ [])))) ≡ map f (pick b (y ∷ keep test xs) (keep test xs)) ++ pick (test x) (f x ∷ []) []
    go true later = ap (λ l. f y ∷ l) later
    go false later = later

keep_all : {A : Type 0} (xs : List A) → keep (λ x. true) xs ≡ xs
unfolding keep
keep_all [] = refl
keep_all (x ∷ xs) = ap (λ l. x ∷ l) (keep_all xs)

numbers_each : (i n : ℕ) → numbers_from i n ≡ each_from (λ k. k) i n
unfolding numbers_from each_from
numbers_each i zero = refl
numbers_each i (suc n) = ap (λ l. i ∷ l) (numbers_each (suc i) n)

up_to_last_lem : (n : ℕ) → up_to (n + 1) ≡ up_to n ++ (n ∷ [])
unfolding up_to
up_to_last_lem n =
    let e : 0 + n ≡ n = omega arith in
    numbers_each 0 (n + 1) ∙ each_last (λ k. k) 0 n ∙ ap₂ (λ (l : List ℕ) (k : ℕ). l ++ (k ∷ [])) (sym (numbers_each 0 n)) e

-- ---- a shift
module _ (bytes : List ℕ) (first end t c : ℕ) (v : Room) (b : Bool) (tested : b ≡ is_shift_put (records bytes) (run_in v first end) t) where
  pub shift_none : not b ≡ true → ShiftAdded bytes first end t c c v v
  unfolding shift_put
  shift_none e = rw (← tested, not-true b e) (added_none bytes c v)

  pub shift_added : (d : ℕ) (q : Room) → not b ≡ false → Added bytes (action_of (2 * t) ∷ []) c d v q → ShiftAdded bytes first end t c d v q
  unfolding shift_put
  shift_added d q e added = rw (← tested, not-false b e) (rw (shift_number t) at added)

-- ---- the shifts of the terminals below t
unfoldable pub shifts_below : Grammar → State → ℕ → List Action
shifts_below g state t = map shift (keep (is_shift_put g state) (up_to t))

shifts_more : (g : Grammar) (state : State) (t : ℕ) → shifts_below g state (t + 1) ≡ shifts_below g state t ++ shift_put g state t
unfolding shifts_below shift_put
shifts_more g state t = ap (λ l. map shift (keep (is_shift_put g state) l)) (up_to_last_lem t) ∙ mapped_last shift (is_shift_put g state) (up_to t) t

shifts_all : (g : Grammar) (state : State) → shifts_below g state (terminal_count g) ≡ shifts_put g state
unfolding shifts_below shifts_put is_shift_put is_shifted shifts
shifts_all g state = ap (map shift) (sym (keep_keep (shift_conflicts (reductions g state)) (is_shifted g state) (up_to (terminal_count g))))

module _ (bytes : List ℕ) (first end : ℕ) (v : Room) where
  pub shifts_start : Added bytes (shifts_below (records bytes) (run_in v first end) 0) 0 0 v v
  unfolding shifts_below up_to numbers_from keep
  shifts_start = added_none bytes 0 v

  pub shifts_turn : (t c d : ℕ) (q z : Room) → Added bytes (shifts_below (records bytes) (run_in v first end) t) 0 c v q → ShiftAdded bytes first end t c d q z
      → Added bytes (shifts_below (records bytes) (run_in v first end) (t + 1)) 0 d v z
  shifts_turn t c d q z before added = rw (shifts_more (records bytes) (run_in v first end) t) (added_both bytes _ _ 0 c d v q z before (rw (run_kept v q before.others first end) at added))

  pub shifts_end : (t n c : ℕ) (q : Room) → t ≤ n → n ≤ t → n ≡ terminal_count (records bytes) → Added bytes (shifts_below (records bytes) (run_in v first end) t) 0 c v q → ShiftsAdded bytes first end c v q
  shifts_end t n c q h g count added =
      let e : t ≡ terminal_count (records bytes) = omega arith in
      rw (← shifts_all (records bytes) (run_in v first end), ← e) added

-- ---- a reduction
module _ (bytes : List ℕ) (all : Bool) (first end k c : ℕ) (v : Room) (b : Bool) (tested : b ≡ is_put (records bytes) all (run_in v first end) (entry_in v k)) where
  pub reduction_none : not b ≡ true → ReductionAdded bytes all first end k c c v v
  unfolding reduction_put
  reduction_none e = rw (← tested, not-true b e) (added_none bytes c v)

  pub reduction_added : (d i : ℕ) (q : Room) → not b ≡ false → i ≡ (entry_in v k).item → Added bytes (action_of (2 * i + 1) ∷ []) c d v q → ReductionAdded bytes all first end k c d v q
  unfolding reduction_put
  reduction_added d i q e is added = rw (← tested, not-false b e, ← is) (rw (reduce_number i) at added)

-- ---- the reductions before place k
abbrev pub reductions_before : List ℕ → Bool → ℕ → ℕ → Room → ℕ → List Action
reductions_before bytes all first end v k = reductions_put (records bytes) all (run_in v first end) (run_in v first k)

module _ (bytes : List ℕ) (all : Bool) (first end : ℕ) (v : Room) where
  reductions_more : (k : ℕ) → first ≤ k → reductions_before bytes all first end v (k + 1) ≡ reductions_before bytes all first end v k ++ reduction_put (records bytes) all (run_in v first end) (entry_in v k)
  unfolding reductions_put reduction_put
  reductions_more k h =
      let e : k + 1 - first ≡ k - first + 1 = omega arith in
      let z : first + (k - first) ≡ k = omega arith in
      let run : run_in v first (k + 1) ≡ run_in v first k ++ (entry_in v k ∷ []) =
      ap (each_from (entry_in v) first) e ∙ each_last (entry_in v) first (k - first) ∙ ap (λ (j : ℕ). run_in v first k ++ (entry_in v j ∷ [])) z in
      ap (λ (es : List Entry). map (λ (x : Entry). reduce x.item) (keep (is_put (records bytes) all (run_in v first end)) es)) run
      ∙ mapped_last (λ (x : Entry). reduce x.item) (is_put (records bytes) all (run_in v first end)) (run_in v first k) (entry_in v k)

  pub reductions_start : (c : ℕ) → Added bytes (reductions_before bytes all first end v first) c c v v
  unfolding reductions_put keep each_from
  reductions_start c = let e : first - first ≡ 0 = omega arith in rw e (added_none bytes c v)

  pub reductions_turn : (k from c d : ℕ) (q z : Room) → first ≤ k → Added bytes (reductions_before bytes all first end v k) from c v q → ReductionAdded bytes all first end k c d q z
      → Added bytes (reductions_before bytes all first end v (k + 1)) from d v z
  reductions_turn k from c d q z h before added =
      rw (reductions_more k h) (added_both bytes _ _ from c d v q z before (rw (run_kept v q before.others first end, entry_kept v q before.others k) at added))

  pub reductions_end : (k from c : ℕ) (q : Room) → k ≤ end → end ≤ k → Added bytes (reductions_before bytes all first end v k) from c v q → ReductionsAdded bytes all first end from c v q
  reductions_end k from c q h g added = let e : k ≡ end = omega arith in rw e at added

-- there are columns enough to count them
pub counted_low : (record_count first end k from c : ℕ) (v : Room) → PlacedRun record_count v first end → k < end → from ≤ max_terminals → c ≤ from + k → c < max_actions
counted_low record_count first end k from c v placed here few low = omega (arith, placed.bounded)

-- ---- all of them: those that are in any conflict; if there are none, all reductions
conflicting : (g : Grammar) (state : State) → shifts_put g state ++ reductions_put g false state state ≡ conflicting_actions g state
unfolding shifts_put reductions_put is_put conflicting_actions reductions
conflicting g state =
    ap (λ (es : List Entry). map shift (keep (shift_conflicts (reductions g state)) (shifts g state)) ++ map (λ (e : Entry). reduce e.item) es)
    (sym (keep_keep (reduce_conflicts (shifts g state) (reductions g state)) (λ (e : Entry). at_end g e.item) state))

reducing : (g : Grammar) (state : State) → reductions_put g true state state ≡ map (λ (e : Entry). reduce e.item) (reductions g state)
unfolding reductions_put is_put reductions
reducing g state =
    ap (map (λ (e : Entry). reduce e.item)) (sym (keep_keep (λ (e : Entry). true) (λ (e : Entry). at_end g e.item) state) ∙ keep_all (keep (λ (e : Entry). at_end g e.item) state))

empty_none : {A : Type 0} (xs : List A) → length xs ≡ 0 → xs ≡ []
empty_none [] e = refl
empty_none (x ∷ xs) e = absurd (omega arith)

not_empty : {A : Type 0} (xs : List A) → (length xs ≡ 0 → ⊥) → is_empty xs ≡ false
unfolding is_empty
not_empty [] ne = absurd (ne refl)
not_empty (x ∷ xs) ne = refl

module _ (bytes : List ℕ) (first end s d : ℕ) (v q z : Room) (shifted : ShiftsAdded bytes first end s v q) (reduced : ReductionsAdded bytes false first end s d q z) where
  conflicting_added : Added bytes (conflicting_actions (records bytes) (run_in v first end)) 0 d v z
  conflicting_added = rw (← conflicting (records bytes) (run_in v first end)) (added_both bytes _ _ 0 s d v q z shifted (rw (run_kept v q shifted.others first end) at reduced))

  pub some_added : (d ≡ 0 → ⊥) → EntriesAdded bytes first end d v z
  unfolding actions_at
  some_added ne = rw (not_empty (conflicting_actions (records bytes) (run_in v first end)) (λ e. ne (omega (arith, conflicting_added.count)))) conflicting_added

  pub none_added : (e : ℕ) (y : Room) → d ≡ 0 → ReductionsAdded bytes true first end 0 e z y → EntriesAdded bytes first end e v y
  unfolding actions_at is_empty
  none_added e y none all =
      let empty : conflicting_actions (records bytes) (run_in v first end) ≡ [] = empty_none _ (omega (arith, conflicting_added.count)) in
      let nothing : Added bytes [] 0 0 v z = rw (empty, none) at conflicting_added in
      rw (empty, ← reducing (records bytes) (run_in v first end)) (added_both bytes [] _ 0 0 e v z y nothing (rw (run_kept v z nothing.others first end) at all))

-- ---- the answer
module _ (bytes : List ℕ) (s first end d : ℕ) (v q : Room) (begins : first ≡ first_of v s) (ends : end ≡ first_of v (s + 1)) (added : EntriesAdded bytes first end d v q) where
  of_state_lem : EntriesAdded bytes (first_of v s) (first_of v (s + 1)) d v q
  of_state_lem = rw (begins, ends) at added

  as_state : Added bytes (actions_at (records bytes) (state_in v s)) 0 d v q
  as_state = rw (state_run v s) of_state_lem

  pub too_many : max_columns < d → ActionsPut bytes s v None q
  too_many h = record { put = omega (arith, as_state.count); others = as_state.others }

  pub few_enough : d ≤ max_columns → ActionsPut bytes s v (Some d) q
  unfolding actions_in each_from
  few_enough h = record {
    put = record {
      few = h;
      count = omega (arith, as_state.count);
      are = as_state.are h;
      fit = as_state.fit h (λ k l. absurd (omega arith));
      behind = as_state.behind;
    };
    others = as_state.others;
  }
