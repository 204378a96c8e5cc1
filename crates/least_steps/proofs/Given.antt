-- A run of entries is given tokens, turn by turn, and what that makes of the states.
use Prim.Native.Nat.{ℕ, ◌+◌, ◌-◌, ◌<◌, ◌≤◌}
use mathlib.Core.Path.{◌≡◌, refl, sym, ap, ◌∙◌}
use mathlib.Core.Logic.{◌⊎◌, inl, inr, ⊎_elim}
use mathlib.Core.Bool.{Bool, true, false, not, ◌||◌}
use mathlib.Core.List.{List, []}
use native.Mathlib.Omega.{arith}
use native.Mathlib.Decide.{ℕ_discrete, dec_le}
use lib.ListN.{length, set}
use lib.Seq.{set_out}
use Rattle.base.specs.Pick.{pick}
use Rattle.base.specs.Lists.{each_of}
use Rattle.base.proofs.Each.{each_same}
use Rattle.base.proofs.EachLeft.{each_more, each_none}
use Rattle.rules.specs.Records.{records}
use Rattle.rules.specs.Tokens.{TokenSet, join, within}
use Rattle.rules.specs.States.{Entry}
use Rattle.rules.specs.FinalCheck.{with_set, have_set, have_at, give_set, give_at}
use Rattle.grammar.specs.Asked.{InRange}
use Rattle.room.specs.Areas.{Room, view, with_sets}
use Rattle.room.specs.Bounds.{slot_count, LongEnough, IsEntry}
use Rattle.room.specs.Slots.{hand_slot}
use Rattle.lookahead.specs.Sets.{set_at, join_set, lacks_some}
use Rattle.lookahead.proofs.Slots.{put_elsewhere, length_stored_set}
use Rattle.room.proofs.Lengths.{view_lengths}
use Rattle.states.specs.StatesIn.{entry_in, first_of, PlacedRun, Placed}
use Rattle.states.proofs.States.{first_same}
use Rattle.states.proofs.Places.{firsts_ascend, item_fits, run_placed}
use Rattle.least_steps.specs.Least.{least_slot, least_entry, least_run, least_state, least_in, OnlyLeast}
use Rattle.least_steps.specs.Giving.{give_entry, Given}
use Rattle.least_steps.proofs.Entries.{map_each, least_item, least_set, least_run_lem, least_length, least_at, least_past, least_same, least_put, least_state_same, least_set_one, same_items}

pub given_none : (test : ℕ → Bool) (tokens : TokenSet) (v : Room) (first : ℕ) → Given test tokens v v first first
given_none test tokens v first = record { others = refl; words = refl; entries = λ k h g. absurd (omega arith); slots = λ slot apart. refl }

-- the places of the run stay
given_placed : (record_count : ℕ) (test : ℕ → Bool) (tokens : TokenSet) (v w : Room) (first k end : ℕ) → Given test tokens v w first k → PlacedRun record_count v first end → PlacedRun record_count w first end
given_placed record_count test tokens v w first k end given run = run_placed record_count v w first end (λ j h g. same_items v w j (ap (λ (r : Room). r.entries) given.others)) run

-- so the next entry can be given tokens too
pub next_placed : (record_count : ℕ) (v : Room) (first k end : ℕ) → PlacedRun record_count v first end → k < end → IsEntry k
next_placed record_count v first k end run h = omega (arith, run.bounded)

pub next_within : (bytes : List ℕ) (test : ℕ → Bool) (tokens : TokenSet) (v w : Room) (first k end : ℕ) → Given test tokens v w first k → PlacedRun (length (records bytes)) v first end → first ≤ k → k < end
    → InRange (entry_in w k).item bytes
next_within bytes test tokens v w first k end given run from h = item_fits bytes w first end k _ (given_placed (length (records bytes)) test tokens v w first k end given run) from h refl

-- ---- one entry more, at place k
module _ (test : ℕ → Bool) (v w : Room) (first k : ℕ) (given : Given test (set_at v hand_slot) v w first k) where
  same_entries : w.entries ≡ v.entries
  same_entries = ap (λ (r : Room). r.entries) given.others

  same_here : least_entry w k ≡ least_entry v k
  same_here = least_same v w k same_entries (given.slots (least_slot k) (inr (omega arith)))

  same_item : (entry_in w k).item ≡ (least_entry v k).item
  same_item = sym (least_item w k) ∙ ap (λ (e : Entry). e.item) same_here

  same_hand : IsEntry k → set_at w hand_slot ≡ set_at v hand_slot
  same_hand h = given.slots hand_slot (inr (omega arith))

  same_own : set_at w (least_slot k) ≡ (least_entry v k).set
  same_own = sym (least_set w k) ∙ ap (λ (e : Entry). e.set) same_here

  module _ (p : Room) (sized : length v.sets ≡ slot_count) (h : IsEntry k) (from : first ≤ k) where
    more_none : p ≡ w → least_entry v k ≡ give_entry test (set_at v hand_slot) (least_entry v k) → Given test (set_at v hand_slot) v p first (k + 1)
    more_none e none = rw e (record {
      others = given.others;
      words = given.words;
      entries = λ j f g. elim (ℕ_discrete j k) [ yes z ↦ rw z (same_here ∙ none) | no ne ↦ given.entries j f (omega arith) ];
      slots = λ slot apart. given.slots slot (⊎_elim (λ l. inl l) (λ l. inr (omega arith)) apart);
    })

    more_joined : p ≡ join_set (least_slot k) hand_slot w → with_set (join (least_entry v k).set (set_at v hand_slot)) (least_entry v k) ≡ give_entry test (set_at v hand_slot) (least_entry v k)
        → Given test (set_at v hand_slot) v p first (k + 1)
    more_joined e some =
        let l : length w.sets ≡ slot_count = given.words ∙ sized in
        let there : least_entry p k ≡ with_set (join (set_at w (least_slot k)) (set_at w hand_slot)) (least_entry w k) = least_put w p k _ e (omega arith) in
        let value : least_entry p k ≡ with_set (join (least_entry v k).set (set_at v hand_slot)) (least_entry v k) = rw (same_own, same_hand h, same_here) at there in
        record {
          others = ap (with_sets []) e ∙ given.others;
          words = ap (λ (r : Room). length r.sets) e ∙ length_stored_set w.sets (least_slot k) _ ∙ given.words;
          entries = λ j f g. elim (ℕ_discrete j k) [
            | yes z ↦ rw z (value ∙ some)
            | no ne ↦ least_same w p j (ap (λ (r : Room). r.entries) e) (put_elsewhere w p (least_slot k) _ e (least_slot j) (λ z. ne (omega arith))) ∙ given.entries j f (omega arith)
          ];
          slots = λ slot apart.
              put_elsewhere w p (least_slot k) _ e slot (λ z. ⊎_elim (λ l. omega arith) (λ l. omega arith) apart)
              ∙ given.slots slot (⊎_elim (λ l. inl l) (λ l. inr (omega arith)) apart);
        }

    given_next : p ≡ pick (test (entry_in w k).item) (join_set (least_slot k) hand_slot w) w → Given test (set_at v hand_slot) v p first (k + 1)
    given_next e = by_test (test (least_entry v k).item) refl (rw same_item at e)
      where
        by_test : (b : Bool) → test (least_entry v k).item ≡ b → p ≡ pick (test (least_entry v k).item) (join_set (least_slot k) hand_slot w) w → Given test (set_at v hand_slot) v p first (k + 1)
        by_test true f e = more_joined (rw f at e) (rw f)
        by_test false f e = more_none (rw f at e) (rw f)

  -- whether it lacked some of the tokens
  lacks_here : IsEntry k → (new : Bool) → new ≡ pick (test (entry_in w k).item) (lacks_some (least_slot k) hand_slot w) false
      → new ≡ not (not (test (least_entry v k).item) || within (set_at v hand_slot) (least_entry v k).set)
  lacks_here h new e = by_test (test (least_entry v k).item) (rw (same_item, same_own, same_hand h) at e)
    where
      by_test : (b : Bool) → new ≡ pick b (not (within (set_at v hand_slot) (least_entry v k).set)) false → new ≡ not (not b || within (set_at v hand_slot) (least_entry v k).set)
      by_test true e = e
      by_test false e = e

-- as the loop has it
module _ (record_count : ℕ) (test : ℕ → Bool) (work : List ℕ) (w : Room) (first k end : ℕ) (given : Given test (set_at (view work) hand_slot) (view work) w first k)
    (run : PlacedRun record_count (view work) first end) (h : k < end) where
  pub given_more : (p : Room) → LongEnough work → first ≤ k → p ≡ pick (test (entry_in w k).item) (join_set (least_slot k) hand_slot w) w → Given test (set_at (view work) hand_slot) (view work) p first (k + 1)
  given_more p fits from e = given_next test (view work) w first k given p (view_lengths work fits).sets_length (omega (arith, run.bounded)) from e

  pub lacked_more : (lacked new t : Bool) → (lacked || not (have_set test (set_at (view work) hand_slot) (least_run (view work) k end))) ≡ t
      → new ≡ pick (test (entry_in w k).item) (lacks_some (least_slot k) hand_slot w) false
      → ((lacked || new) || not (have_set test (set_at (view work) hand_slot) (least_run (view work) (k + 1) end))) ≡ t
  unfolding have_set each_of
  lacked_more true new t e says = e
  lacked_more false new t e says =
      by_here (not (test (least_entry (view work) k).item) || within (set_at (view work) hand_slot) (least_entry (view work) k).set)
      (lacks_here test (view work) w first k given (omega (arith, run.bounded)) new says) (rw (each_more (least_entry (view work)) end k h) at e)
    where
      later : Bool
      later = have_set test (set_at (view work) hand_slot) (least_run (view work) (k + 1) end)

      by_here : (b : Bool) → new ≡ not b → not (pick b later false) ≡ t → (new || not later) ≡ t
      by_here true z e = rw z e
      by_here false z e = rw z e

pub lacked_end : (test : ℕ → Bool) (tokens : TokenSet) (v : Room) (k end : ℕ) (lacked t : Bool) → end ≤ k
    → (lacked || not (have_set test tokens (least_run v k end))) ≡ t → lacked ≡ t
unfolding have_set each_of
lacked_end test tokens v k end true t h e = e
lacked_end test tokens v k end false t h e = rw (each_none (least_entry v) end k h) at e

pub given_end : (test : ℕ → Bool) (tokens : TokenSet) (v q : Room) (first k end : ℕ) → k ≤ end → end ≤ k → Given test tokens v q first k → Given test tokens v q first end
given_end test tokens v q first k end h g given = let e : k ≡ end = omega arith in rw e at given

-- ---- what it makes of the states, where the run is that of state s
module _ (record_count count : ℕ) (test : ℕ → Bool) (tokens : TokenSet) (v q : Room) (placed : Placed record_count count v) (s first end : ℕ)
    (from : first ≡ first_of v s) (to : end ≡ first_of v (s + 1)) where
  module _ (given : Given test tokens v q first end) where
    same_firsts : q.first_entries ≡ v.first_entries
    same_firsts = ap (λ (r : Room). r.first_entries) given.others

    state_given : least_state q s ≡ give_set test tokens (least_state v s)
    unfolding least_state give_set
    state_given =
        rw (first_same v q same_firsts s, first_same v q same_firsts (s + 1))
        (each_same (least_entry q) (λ k. give_entry test tokens (least_entry v k)) (first_of v s) (first_of v (s + 1) - first_of v s) (λ k h g. given.entries k (omega arith) (omega arith))
        ∙ sym (map_each (give_entry test tokens) (least_entry v) (first_of v s) (first_of v (s + 1) - first_of v s)))

    other_state : (t : ℕ) → t < count → s < count → (t ≡ s → ⊥) → least_state q t ≡ least_state v t
    other_state t h g ne = least_state_same v q t same_firsts (λ k f l. least_same v q k (ap (λ (r : Room). r.entries) given.others) (given.slots (least_slot k) (apart k f l)))
      where
        apart : (k : ℕ) → first_of v t ≤ k → k < first_of v (t + 1) → (least_slot k < least_slot first) ⊎ (least_slot end ≤ least_slot k)
        apart k f l = elim (dec_le (t + 1) s) [
          | yes d ↦ inl (omega (arith, firsts_ascend record_count count v placed (t + 1) s d (omega arith)))
          | no d ↦ inr (omega (arith, firsts_ascend record_count count v placed (s + 1) t (omega arith) (omega arith)))
        ]

    pub given_least_lem : s < count → least_in q count ≡ give_at s test tokens (least_in v count)
    unfolding give_at
    given_least_lem h = rw (least_at v count s h) whole
      where
        whole : least_in q count ≡ set (least_in v count) s (give_set test tokens (least_state v s))
        whole = least_set_one v q count s _ h state_given (λ t l ne. other_state t l h ne)

    pub given_only : OnlyLeast v q
    given_only = record { others = given.others; words = given.words; slots = λ slot h. given.slots slot (inl (omega arith)) }

  pub given_lacked : (r : Bool) → s < count → r ≡ not (have_set test tokens (least_run v first end)) → r ≡ not (have_at (least_in v count) s test tokens)
  unfolding have_at
  given_lacked r h e = rw (least_at v count s h, least_run_lem v s, ← from, ← to) e

-- ---- there is no such state
module _ (test : ℕ → Bool) (tokens : TokenSet) (v : Room) (count s : ℕ) (h : count ≤ s) where
  pub given_past : least_in v count ≡ give_at s test tokens (least_in v count)
  unfolding give_at
  given_past = sym (set_out (least_in v count) s _ (omega (arith, least_length v count)))

  pub lacked_past : false ≡ not (have_at (least_in v count) s test tokens)
  unfolding have_at have_set each_of
  lacked_past = rw (least_past v count s h)
