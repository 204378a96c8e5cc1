-- The rounds of the final check end: one that is not the last adds one of n + 1 tokens to the set of an entry. So every entry of the
-- least sets that `rules` computes is settled.
use Prim.Native.Nat.{ℕ, ◌+◌, ◌*◌, ◌^◌, ◌<◌, ◌≤◌}
use mathlib.Core.Path.{◌≡◌, refl, ap, ◌∙◌}
use mathlib.Core.Bool.{Bool, true, false, ◌&&◌, and-eq-true_iff}
use mathlib.Core.List.{List, [], map}
use native.Mathlib.Omega.{arith}
use native.Mathlib.Decide.{dec_le}
use lib.ListN.{length, get_or, get_or-eq_default}
use lib.Dec.{eqb}
use Rattle.base.specs.Lists.{up_to, each_of}
use Rattle.base.proofs.Lists.{among_at, fold_keeps}
use Rattle.base.proofs.Places.{each_places}
use Rattle.base.proofs.Until.{Steps, round_adds_lem, round_rests, rounds_end}
use Rattle.rules.specs.Records.{Grammar}
use Rattle.rules.specs.Tokens.{eof}
use Rattle.rules.specs.Grammar.{terminal_count}
use Rattle.rules.specs.First.{Sets, first_sets}
use Rattle.rules.specs.States.{Entry, State, closes, hands_on, item_count}
use Rattle.rules.specs.FinalCheck.{with_set, entry_at, moves, is_behind_dot, closing, entry_moved, entry_closed, entry_settled, move_entry, close_entry, settle_entry, settle_state, least_settled, least_round, least_begun, least_sets}
use Rattle.sets.proofs.Laws.{none_below, single_below}
use Rattle.knuth.proofs.Closures.{canonical_follows_narrow}
use Rattle.fuel.proofs.Giving.{Alike, least_mass, least_mass_le, give_at_keeps, given_keeps, given_rests, given_adds, given_stays, emptied_alike}

-- ---- the rounds, over the states of a grammar
module _ (g : Grammar) (states : List State) where
  abbrev n : ℕ
  n = terminal_count g

  abbrev sets : Sets
  sets = first_sets g

  closing_below : (e : Entry) → e.set < 2 ^ (n + 1) → closing g sets e < 2 ^ (n + 1)
  unfolding closing hands_on
  closing_below e b = canonical_follows_narrow g (e.item + 1) e.set b

  -- ---- entry k of state s hands on, with the set that it has by now
  module _ (s k : ℕ) (least : List State) (kept : Alike n states least) where
    abbrev e : Entry
    e = entry_at least s k

    entry_small : e.set < 2 ^ (n + 1)
    unfolding entry_at
    entry_small = elim (dec_le (length (get_or least s [])) k) [
      | yes p ↦ rw (get_or-eq_default (get_or least s []) (record { item = 0; next = 0; set = 0 }) p) (none_below (n + 1))
      | no p ↦ kept.small s e (among_at (get_or least s []) k _ (omega arith))
    ]

    move_keeps : Alike n states (move_entry g sets s k least)
    unfolding move_entry
    move_keeps = given_keeps n (moves g e) e.next (eqb (e.item + 1)) e.set entry_small states least kept

    close_keeps : Alike n states (close_entry g sets s k least)
    unfolding close_entry
    close_keeps = given_keeps n (closes g e.item e.set) s (is_behind_dot g e.item) (closing g sets e) (closing_below e entry_small) states least kept

    move_rests : entry_moved g sets least e ≡ true → move_entry g sets s k least ≡ least
    unfolding move_entry entry_moved
    move_rests h = given_rests n (moves g e) e.next (eqb (e.item + 1)) e.set least h

    close_rests : entry_closed g sets least s e ≡ true → close_entry g sets s k least ≡ least
    unfolding close_entry entry_closed
    close_rests h = given_rests n (closes g e.item e.set) s (is_behind_dot g e.item) (closing g sets e) least h

    move_adds : entry_moved g sets least e ≡ false → least_mass n least < least_mass n (move_entry g sets s k least)
    unfolding move_entry entry_moved
    move_adds h = given_adds n (moves g e) e.next (eqb (e.item + 1)) e.set entry_small least h

    close_adds : entry_closed g sets least s e ≡ false → least_mass n least < least_mass n (close_entry g sets s k least)
    unfolding close_entry entry_closed
    close_adds h = given_adds n (closes g e.item e.set) s (is_behind_dot g e.item) (closing g sets e) (closing_below e entry_small) least h

    close_mass : least_mass n least ≤ least_mass n (close_entry g sets s k least)
    unfolding close_entry
    close_mass = given_stays n (closes g e.item e.set) s (is_behind_dot g e.item) (closing g sets e) (closing_below e entry_small) least

  module _ (s k : ℕ) (least : List State) (kept : Alike n states least) where
    abbrev moved : List State
    moved = move_entry g sets s k least

    settle_keeps : Alike n states (settle_entry g sets s k least)
    unfolding settle_entry
    settle_keeps = close_keeps s k moved (move_keeps s k least kept)

    settle_rests : entry_settled g sets least s (entry_at least s k) ≡ true → settle_entry g sets s k least ≡ least
    unfolding settle_entry entry_settled
    settle_rests h =
        let (p, q) = (and-eq-true_iff (entry_moved g sets least (entry_at least s k)) _).0 h in
        ap (close_entry g sets s k) (move_rests s k least kept p) ∙ close_rests s k least kept q

    settle_adds : entry_settled g sets least s (entry_at least s k) ≡ false → least_mass n least < least_mass n (settle_entry g sets s k least)
    unfolding settle_entry entry_settled
    settle_adds h = by_moved (entry_moved g sets least (entry_at least s k)) refl h
      where
        by_moved : (d : Bool) → entry_moved g sets least (entry_at least s k) ≡ d → (d && entry_closed g sets least s (entry_at least s k)) ≡ false
            → least_mass n least < least_mass n (close_entry g sets s k moved)
        by_moved true p h = rw (move_rests s k least kept p) (close_adds s k least kept h)
        by_moved false p h = omega (arith, move_adds s k least kept p, close_mass s k moved (move_keeps s k least kept))

  -- ---- the entries of one state, and then all states
  abbrev settled_at : ℕ → ℕ → List State → Bool
  settled_at s k least = entry_settled g sets least s (entry_at least s k)

  entry_steps : (s : ℕ) (places : List ℕ) → Steps (settle_entry g sets s) (settled_at s) (least_mass n) (Alike n states) places
  entry_steps s places = record { keeps = λ k m. settle_keeps s k; rests = λ k m. settle_rests s k; adds = λ k m. settle_adds s k }

  each_settled : (s : ℕ) (least : List State)
      → each_of (λ k. settled_at s k least) (up_to (length (get_or least s []))) ≡ each_of (entry_settled g sets least s) (get_or least s [])
  unfolding entry_at
  each_settled s least = each_places (entry_settled g sets least s) (get_or least s []) _

  state_steps : Steps (settle_state g sets) (λ s least. each_of (entry_settled g sets least s) (get_or least s [])) (least_mass n) (Alike n states) (up_to (length states))
  unfolding settle_state
  state_steps = record {
    keeps = λ s m least kept. fold_keeps (settle_entry g sets s) (Alike n states) (places s least) (entry_steps s (places s least)).keeps least kept;
    rests = λ s m least kept h. round_rests (settle_entry g sets s) (settled_at s) (least_mass n) (Alike n states) (places s least) (entry_steps s (places s least)) least kept (each_settled s least ∙ h);
    adds = λ s m least kept h. round_adds_lem (settle_entry g sets s) (settled_at s) (least_mass n) (Alike n states) (places s least) (entry_steps s (places s least)) least kept (each_settled s least ∙ h);
  }
    where
      places : ℕ → List State → List ℕ
      places s least = up_to (length (get_or least s []))

  mass_bounded : (least : List State) → Alike n states least → least_mass n least ≤ item_count states * (n + 1)
  mass_bounded least k = omega (arith, least_mass_le n least, ap (λ (i : ℕ). i * (n + 1)) k.items)

  begun_alike : Alike n states (least_begun g states)
  unfolding least_begun eof
  begun_alike =
      give_at_keeps n 0 (eqb 0) (eof n) (single_below (n + 1) n (omega arith)) states (map (map (with_set 0)) states) (emptied_alike n states)

  pub least_settled_lem : least_settled g sets (length states) (least_sets g sets states) ≡ true
  unfolding least_settled least_sets least_round
  least_settled_lem =
      rounds_end (settle_state g sets) (λ s least. each_of (entry_settled g sets least s) (get_or least s [])) (least_mass n) (Alike n states) (up_to (length states)) state_steps
      (item_count states * (n + 1)) mass_bounded (item_count states * (n + 1)) (least_begun g states) begun_alike (omega arith)
