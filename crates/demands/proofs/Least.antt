-- The least sets of the final check stand in states of the same items and links, state 0's start item has Eof, and every entry is settled.
use Prim.Native.Nat.{ℕ, ◌+◌, ◌*◌, ◌<◌}
use mathlib.Core.Path.{◌≡◌, refl, sym, ap, ap₂, ◌∙◌}
use mathlib.Core.Logic.{inl, inr}
use mathlib.Core.Bool.{Bool, true, false}
use mathlib.Core.List.{List, [], ◌∷◌, map}
use native.Mathlib.Omega.{arith}
use lib.ListN.{length, get_or, length-map, get_or-map}
use lib.Seq.{get_or-set_same}
use lib.Dec.{eqb}
use borrow.Author.Tests.{eq-eqb}
use Rattle.base.specs.Pick.{pick}
use Rattle.base.specs.Among.{Among}
use Rattle.base.specs.Lists.{up_to, each_of}
use Rattle.base.proofs.Lists.{among_map, after_set, fold_keeps, each_true, up_to_among_lem}
use Rattle.base.proofs.Members.{map_among}
use Rattle.base.proofs.Until.{rounds_keep}
use Rattle.rules.specs.Records.{Grammar}
use Rattle.rules.specs.Tokens.{TokenSet, Has, join, eof}
use Rattle.rules.specs.Grammar.{terminal_count}
use Rattle.rules.specs.First.{Sets, first_sets}
use Rattle.rules.specs.States.{Entry, State, closes, item_count}
use Rattle.rules.specs.FinalCheck.{with_set, give_set, give_at, entry_at, moves, is_behind_dot, closing, entry_settled, move_entry, close_entry, settle_entry, settle_state, least_settled, least_round, least_begun, least_sets}
use Rattle.sets.proofs.Laws.{has_join, has_eof}
use Rattle.fuel.proofs.Least.{least_settled_lem}
use Rattle.demands.proofs.Laws.{same_item, same_next}
use Rattle.demands.proofs.Linked.{core, core_entry}

-- a state without its sets
abbrev pub blank : State → State
blank state = map (with_set 0) state

blank_blank : (state : State) → blank (blank state) ≡ blank state
blank_blank [] = refl
blank_blank (e ∷ es) = ap₂ ◌∷◌ refl (blank_blank es)

-- ---- giving
give_blank : (test : ℕ → Bool) (s : TokenSet) (state : State) → blank (give_set test s state) ≡ blank state
unfolding give_set
give_blank test s [] = refl
give_blank test s (e ∷ es) = ap₂ ◌∷◌ (given (test e.item)) (give_blank test s es)
  where
    given : (b : Bool) → with_set 0 (pick b (with_set (join e.set s) e) e) ≡ with_set 0 e
    given true = refl
    given false = refl

given_entry : (test : ℕ → Bool) (s : TokenSet) (state : State) (e : Entry) → Among e (give_set test s state)
    → (f : Entry) × Among f state × (e ≡ pick (test f.item) (with_set (join f.set s) f) f)
unfolding give_set
given_entry test s state e m = map_among (λ (e : Entry). pick (test e.item) (with_set (join e.set s) e) e) state m

given_item : (b : Bool) (s : TokenSet) (f : Entry) → (pick b (with_set (join f.set s) f) f).item ≡ f.item
given_item true s f = refl
given_item false s f = refl

given_has : (b : Bool) (s : TokenSet) (f : Entry) (t : ℕ) → Has f.set t → Has (pick b (with_set (join f.set s) f) f).set t
given_has true s f t h = (has_join f.set s t).1 (inl h)
given_has false s f t h = h

-- ---- the least sets of states
module _ (g : Grammar) (states : List State) where
  abbrev n : ℕ
  n = terminal_count g

  abbrev sets : Sets
  sets = first_sets g

  abbrev SameShape : ℕ → State → Type 0
  SameShape s state = blank state ≡ blank (get_or states s [])

  -- entries with the start item have Eof
  abbrev Started : State → Type 0
  Started state = (e : Entry) → Among e state → e.item ≡ 0 → Has e.set n

  -- the items and links of the states, and the start with Eof
  pub record Shaped (least : List State) : Type 0 where
    pub shape : (s : ℕ) → SameShape s (get_or least s [])
    pub started : Started (get_or least 0 [])

  give_started : (test : ℕ → Bool) (tokens : TokenSet) (state : State) → Started state → Started (give_set test tokens state)
  give_started test tokens state h e m z =
      let (f, k, q) = given_entry test tokens state e m in
      let i : f.item ≡ 0 = sym (same_item q ∙ given_item (test f.item) tokens f) ∙ z in
      rw q (given_has (test f.item) tokens f n (h f k i))

  give_shaped : (s : ℕ) (test : ℕ → Bool) (tokens : TokenSet) (least : List State) → Shaped least → Shaped (give_at s test tokens least)
  unfolding give_at
  give_shaped s test tokens least h = record {
    shape = after_set SameShape least s given [] (give_blank test tokens (get_or least s []) ∙ h.shape s) h.shape;
    started = after_set (λ t state. t ≡ 0 → Started state) least s given [] here_started (λ t z. rw z h.started) 0 refl;
  }
    where
      given : State
      given = give_set test tokens (get_or least s [])

      here_started : s ≡ 0 → Started given
      here_started z = give_started test tokens (get_or least s []) (rw z h.started)

  given_shaped : (b : Bool) (s : ℕ) (test : ℕ → Bool) (tokens : TokenSet) (least : List State) → Shaped least
      → Shaped (pick b (give_at s test tokens least) least)
  given_shaped true s test tokens least h = give_shaped s test tokens least h
  given_shaped false s test tokens least h = h

  move_shaped : (s k : ℕ) (least : List State) → Shaped least → Shaped (move_entry g sets s k least)
  unfolding move_entry
  move_shaped s k least h = let e : Entry = entry_at least s k in given_shaped (moves g e) e.next (eqb (e.item + 1)) e.set least h

  close_shaped : (s k : ℕ) (least : List State) → Shaped least → Shaped (close_entry g sets s k least)
  unfolding close_entry
  close_shaped s k least h =
      let e : Entry = entry_at least s k in
      given_shaped (closes g e.item e.set) s (is_behind_dot g e.item) (closing g sets e) least h

  settle_shaped : (s k : ℕ) (least : List State) → Shaped least → Shaped (settle_entry g sets s k least)
  unfolding settle_entry
  settle_shaped s k least h = close_shaped s k (move_entry g sets s k least) (move_shaped s k least h)

  module _ (some : 0 < length states) where
    begun_shaped : Shaped (least_begun g states)
    unfolding least_begun give_at
    begun_shaped = record {
      shape = after_set SameShape emptied 0 given [] (give_blank (eqb 0) (eof n) (get_or emptied 0 []) ∙ emptied_shape 0) emptied_shape;
      started = rw (get_or-set_same emptied 0 given [] (omega (arith, length-map states blank))) given_started;
    }
      where
        emptied : List State
        emptied = map blank states

        given : State
        given = give_set (eqb 0) (eof n) (get_or emptied 0 [])

        emptied_shape : (s : ℕ) → SameShape s (get_or emptied s [])
        emptied_shape s = ap blank (get_or-map blank states s []) ∙ blank_blank (get_or states s [])

        given_started : Started given
        given_started e m z =
            let (f, k, q) = given_entry (eqb 0) (eof n) (get_or emptied 0 []) e m in
            let i : f.item ≡ 0 = sym (same_item q ∙ given_item (eqb 0 f.item) (eof n) f) ∙ z in
            let first : eqb 0 f.item ≡ true = eq-eqb 0 f.item (sym i) in
            let r : e ≡ with_set (join f.set (eof n)) f = q ∙ rw first in
            rw r ((has_join f.set (eof n) n).1 (inr ((has_eof n n).1 refl)))

    pub least_sets_shaped : Shaped (least_sets g sets states)
    unfolding least_sets least_round settle_state
    least_sets_shaped =
        rounds_keep (least_settled g sets (length states)) (settle_state g sets) Shaped (up_to (length states))
        (λ s m least h. fold_keeps (settle_entry g sets s) Shaped (up_to (length (get_or least s []))) (λ k m least h. settle_shaped s k least h) least h)
        (item_count states * (n + 1)) (least_begun g states) begun_shaped

  -- what an entry hands on is there
  pub least_entry_settled : (s : ℕ) (e : Entry) → s < length states → Among e (get_or (least_sets g sets states) s [])
      → entry_settled g sets (least_sets g sets states) s e ≡ true
  unfolding least_settled
  least_entry_settled s e b m =
      let least : List State = least_sets g sets states in
      each_true (entry_settled g sets least s) m
      (each_true (λ s. each_of (entry_settled g sets least s) (get_or least s [])) ((up_to_among_lem s (length states)).1 b) (least_settled_lem g states))

-- ---- the same entries, place by place
pub alike_entry : (es fs : State) (f : Entry) → blank fs ≡ blank es → Among f fs → (e : Entry) × Among e es × (e.item ≡ f.item) × (e.next ≡ f.next)
alike_entry es fs f q m =
    let (e, k, r) = map_among (with_set 0) es (rw q at (among_map (with_set 0) m)) in
    (e, k, sym (same_item r), sym (same_next r))

pub alike_item : (es fs : State) (i : ℕ) → blank fs ≡ blank es → Among i (core es) → (f : Entry) × Among f fs × (f.item ≡ i)
alike_item es fs i q m =
    let (e, k, r) = core_entry es m in
    let (f, j, p, _) = alike_entry fs es e (sym q) k in
    (f, j, p ∙ sym r)
