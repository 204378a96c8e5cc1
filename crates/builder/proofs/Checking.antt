-- The states that a mode gives: those of lane mode are checked, those of canonical mode are taken as they are.
use Prim.Native.Nat.{ℕ, ◌<◌, ◌≤◌}
use mathlib.Core.Path.{◌≡◌, refl, sym, ap, subst, ◌∙◌}
use mathlib.Core.Bool.{Bool, true, false}
use mathlib.Core.List.{List}
use native.Mathlib.Omega.{arith}
use lib.ListN.{length}
use lib.Dec.{ltb}
use Rattle.std.specs.Prelude.{Result, Ok, Err, Option, Some, None}
use Rattle.base.specs.Pick.{pick}
use Rattle.rules.specs.Limits.{limits}
use Rattle.rules.specs.Records.{Grammar, records}
use Rattle.rules.specs.First.{first_sets}
use Rattle.rules.specs.States.{Entry, State, Outcome, done, refused, canonical}
use Rattle.rules.specs.Merge.{lanes}
use Rattle.rules.specs.FinalCheck.{first_failing, checked}
use Rattle.rules.specs.Build.{constructed}
use Rattle.rules.specs.Modes.{mode_number}
use Rattle.rules.specs.declared.Mode.{Mode}
use Rattle.rules.specs.declared.Mode.TheVariants.{Lane, Canonical}
use Rattle.rules.specs.declared.StateIndex.{StateIndex}
use Rattle.rules.specs.declared.BuildRefusal.{BuildRefusal}
use Rattle.rules.specs.declared.BuildRefusal.TheVariants.{FinalCheck}
use Rattle.room.specs.Areas.{Room, view}
use Rattle.room.specs.Slots.{entry_slot}
use Rattle.first.specs.Firsts.{firsts_in}
use Rattle.states.specs.StatesIn.{entry_in, states_in, Placed}
use Rattle.states.proofs.Places.{end_within, placed_same, states_same}
use Rattle.states.proofs.States.{states_length, entry_same}
use Rattle.least_steps.specs.Least.{OnlyLeast}
use Rattle.least_sets.specs.Steps.{Ready}
use Rattle.final_check.specs.Fails.{state_below, failing}
use Rattle.collection.specs.Collections.{Collectable, states_to, PlacedTo, StatesBuilt}
use Rattle.visits.specs.Visits.{OnlyVisited, Constructs}
use Rattle.visits.proofs.Frames.{only_both, firsts_stay}
use Rattle.visits.proofs.Visiting.{collected_only}

-- ---- the final check
module _ (g : Grammar) (states : List State) (found : Option StateIndex) (is : found ≡ state_below (length states) (first_failing g (first_sets g) states)) where
  abbrev checked_by : Option StateIndex → Outcome (List State)
  checked_by None = done states
  checked_by (Some state) = refused (FinalCheck state)

  checked_is : checked g (done states) ≡ checked_by found
  unfolding checked
  checked_is = by (ltb (first_failing g (first_sets g) states) (length states)) ∙ sym (ap checked_by is)
    where
      by : (b : Bool) → pick b (refused (FinalCheck (record { 0 = first_failing g (first_sets g) states }))) (done states) ≡ checked_by (pick b (Some (record { 0 = first_failing g (first_sets g) states })) None)
      by true = refl
      by false = refl

  check_fails : (state : StateIndex) → found ≡ Some state → checked g (done states) ≡ refused (FinalCheck state)
  check_fails state e = checked_is ∙ ap checked_by e

  check_passes : found ≡ None → checked g (done states) ≡ done states
  check_passes e = checked_is ∙ ap checked_by e

module _ (bytes : List ℕ) (count : ℕ) (work : List ℕ) (ready : Ready bytes count (view work)) (q : Room) (only : OnlyLeast (view work) q) (found : Option StateIndex) (is : found ≡ failing bytes count work) where
  found_is : found ≡ state_below (length (states_in (view work) count)) (first_failing (records bytes) (first_sets (records bytes)) (states_in (view work) count))
  found_is = is ∙ ap (λ (n : ℕ). state_below n (first_failing (records bytes) (first_sets (records bytes)) (states_in (view work) count))) (sym (states_length (view work) count))

  least_entry_lem : (k : ℕ) → k < 2048 → entry_in q k ≡ entry_in (view work) k
  least_entry_lem k h = entry_same (view work) q k (ap (λ (r : Room). r.entries) only.others) (only.slots (entry_slot k) (omega arith))

  abbrev size : ℕ
  size = length (records bytes)

  least_placed : Placed size count q
  least_placed =
      placed_same size count (view work) q ready.placed (ap (λ (r : Room). r.first_entries) only.others)
      (λ k h. ap (λ (e : Entry). e.item) (least_entry_lem k (omega (arith, end_within size count (view work) ready.placed))))

  least_states : states_in q count ≡ states_in (view work) count
  least_states =
      states_same size count (view work) q ready.placed (ap (λ (r : Room). r.first_entries) only.others)
      (λ k h. least_entry_lem k (omega (arith, end_within size count (view work) ready.placed)))

  least_only : OnlyVisited (view work) q
  least_only = record { firsts = λ slot h. only.slots slot (omega arith); rest = ap (λ (r : Room). r.rest) only.others }

  pub states_fail : (state : StateIndex) → found ≡ Some state → Constructs bytes (checked (records bytes) (done (states_in (view work) count))) (view work) q (Err (FinalCheck state))
  unfolding states_to PlacedTo
  states_fail state e = record {
    outcome = sym (check_fails (records bytes) (states_in (view work) count) found found_is state e);
    placed = tt;
    only = least_only;
  }

  pub states_pass : found ≡ None → Constructs bytes (checked (records bytes) (done (states_in (view work) count))) (view work) q (Ok count)
  unfolding states_to PlacedTo
  states_pass e = record {
    outcome = ap done least_states ∙ sym (check_passes (records bytes) (states_in (view work) count) found found_is e);
    placed = least_placed;
    only = least_only;
  }

-- ---- lane mode
module _ (bytes : List ℕ) (n m : ℕ) (work after : List ℕ) (able : Collectable bytes n m work) (found : firsts_in (records bytes) (view work) ≡ first_sets (records bytes))
    (b : Result ℕ BuildRefusal) (built : Constructs bytes (lanes limits (records bytes)) (view work) (view after) b) where
  pub lanes_refused : (why : BuildRefusal) → b ≡ Err why → Constructs bytes (checked (records bytes) (lanes limits (records bytes))) (view work) (view after) (Err why)
  unfolding states_to PlacedTo checked
  lanes_refused why is = record { outcome = ap (checked (records bytes)) (sym (ap (states_to (view after)) is) ∙ built.outcome); placed = tt; only = built.only }

  module _ (count : ℕ) (is : b ≡ Ok count) where
    pub can_check : Ready bytes count (view after)
    unfolding PlacedTo
    can_check = record {
      clean = able.closable.clean;
      placed = subst (PlacedTo (length (records bytes)) (view after)) is built.placed;
      firsts = firsts_stay (records bytes) (view work) (view after) able.closable.clean built.only.firsts ∙ found;
    }

    pub lanes_checked : (r : Result ℕ BuildRefusal) (q : Room) → Constructs bytes (checked (records bytes) (done (states_in (view after) count))) (view after) q r
        → Constructs bytes (checked (records bytes) (lanes limits (records bytes))) (view work) q r
    unfolding states_to
    lanes_checked r q by = record {
      outcome = by.outcome ∙ ap (checked (records bytes)) (sym (ap (states_to (view after)) is) ∙ built.outcome);
      placed = by.placed;
      only = only_both (view work) (view after) q built.only by.only;
    }

-- ---- the modes
pub lane_mode : (g : Grammar) (mode : Mode) → mode ≡ Lane → checked g (lanes limits g) ≡ constructed limits g (mode_number mode)
unfolding constructed
lane_mode g mode e = ap (λ (m : Mode). constructed limits g (mode_number m)) (sym e)

pub canonical_mode : (g : Grammar) (mode : Mode) → mode ≡ Canonical → canonical limits g ≡ constructed limits g (mode_number mode)
unfolding constructed
canonical_mode g mode e = ap (λ (m : Mode). constructed limits g (mode_number m)) (sym e)

pub constructs_as : (bytes : List ℕ) (o promised : Outcome (List State)) (v q : Room) (r : Result ℕ BuildRefusal) → o ≡ promised → Constructs bytes o v q r → Constructs bytes promised v q r
constructs_as bytes o promised v q r e by = record { outcome = by.outcome ∙ e; placed = by.placed; only = by.only }

pub constructs_canonical : (bytes : List ℕ) (promised : Outcome (List State)) (v q : Room) (r : Result ℕ BuildRefusal) → StatesBuilt bytes (canonical limits (records bytes)) v q r → canonical limits (records bytes) ≡ promised
    → Constructs bytes promised v q r
constructs_canonical bytes promised v q r by e = record { outcome = by.outcome ∙ e; placed = by.placed; only = collected_only v q by.only }
