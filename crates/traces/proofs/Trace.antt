-- A trace stops by its test: each call that goes on visits a pair of state and item that was not visited, and there are as many pairs
-- as states times records.
use Prim.Native.Nat.{ℕ, zero, suc, ◌-◌, ◌*◌, ◌<◌, ◌≤◌}
use mathlib.Core.Path.{◌≡◌, refl, ap, ◌∙◌}
use mathlib.Core.Logic.{inr}
use mathlib.Core.Bool.{Bool, true, false}
use mathlib.Core.List.{List, [], map}
use native.Mathlib.Omega.{arith}
use lib.ListN.{length, get_or, length-set}
use lib.Dec.{eqb}
use Rattle.base.specs.Pick.{pick}
use Rattle.base.specs.Lists.{up_to, sum, fold_over}
use Rattle.base.specs.Among.{Among}
use Rattle.base.proofs.Folds.{fold_same}
use Rattle.base.proofs.Lists.{among_none, keep_among, up_to_among_lem, fold_keeps, sum_set, sum_le}
use Rattle.base.proofs.Members.{map_among, all_at}
use Rattle.rules.specs.Records.{Grammar, at}
use Rattle.rules.specs.Tokens.{TokenSet, single, join, eof}
use Rattle.rules.specs.Grammar.{symbol_of, at_start, start, terminal_count}
use Rattle.rules.specs.First.{Sets}
use Rattle.rules.specs.States.{Entry, State}
use Rattle.rules.specs.Lanes.{Trace, on_table, was_visited, visit, add_successor, enter, predecessors, items_before, empty_past, tokens_past, enter_start, un_shift, un_close}
use Rattle.sets.specs.Size.{size}
use Rattle.sets.proofs.Laws.{has_false, has_join, has_single, within_join, size_le, size_within, size_strict}
use Rattle.traces.specs.Recorded.{Recorded, AllRecorded}

pub at_recorded : (g : Grammar) (states : List State) (s : ℕ) → AllRecorded g states → Recorded g (get_or states s [])
at_recorded g states s h = all_at (Recorded g) states s [] h (λ e m. absurd (among_none m))

module _ (g : Grammar) (sets : Sets) (states : List State) (c : ℕ) where
  -- how many pairs were visited
  abbrev seen : Trace → ℕ
  seen trace = sum (map (size (length g)) trace.visited)

  -- at least n pairs were visited
  abbrev pub SeenAtLeast : ℕ → Trace → Type 0
  SeenAtLeast n trace = (length trace.visited ≡ length states) × (n ≤ seen trace)

  -- no more pairs are left than there is fuel
  abbrev Left : ℕ → Trace → Type 0
  Left fuel = SeenAtLeast (length states * length g - fuel)

  -- ---- a visit
  pub visit_seen : (s i n : ℕ) (trace : Trace) → s < length states → SeenAtLeast n trace → SeenAtLeast n (visit s i trace)
  unfolding visit
  visit_seen s i n trace b (l, h) =
      let old : ℕ = get_or trace.visited s 0 in (
        length-set trace.visited s (join old (single i)) ∙ l,
        omega (arith, sum_set (size (length g)) trace.visited s (join old (single i)) 0 (rw l b), size_within old (join old (single i)) (within_join old (single i)) (length g)),
      )

  pub visit_counts : (s i : ℕ) (trace : Trace) → s < length states → i < length g → length trace.visited ≡ length states
      → was_visited s i trace ≡ false → seen trace < seen (visit s i trace)
  unfolding visit was_visited
  visit_counts s i trace b r l e =
      let old : ℕ = get_or trace.visited s 0 in
      omega (
        arith,
        sum_set (size (length g)) trace.visited s (join old (single i)) 0 (rw l b),
        size_strict old (join old (single i)) (within_join old (single i)) (length g) i r ((has_join old (single i) i).1 (inr ((has_single i i).1 refl))) ((has_false old i).0 e),
      )

  pub seen_bound : (trace : Trace) → length trace.visited ≡ length states → seen trace ≤ length states * length g
  seen_bound trace l = omega (arith, sum_le (size (length g)) (length g) (size_le (length g)) trace.visited, ap (λ (k : ℕ). k * length g) l)

  predecessor_below : (s p : ℕ) (i : ℕ) → Among p (predecessors g states s (symbol_of (at g i))) → p < length states
  unfolding predecessors
  predecessor_below s p i among = let (m, _) = keep_among _ (up_to (length states)) among in (up_to_among_lem p (length states)).0 m

  item_recorded : AllRecorded g states → (s a j : ℕ) → Among j (items_before g states s a) → j < length g
  unfolding items_before
  item_recorded recorded s a j among =
      let (m, _) = keep_among _ (map (λ (e : Entry). e.item) (get_or states s [])) among in
      let (e, k, q) = map_among (λ (e : Entry). e.item) (get_or states s []) m in
      rw q (at_recorded g states s recorded e k)

  -- ---- the loops: what is done at each predecessor, and at each item before the nonterminal
  abbrev pub to_predecessor : ℕ → ℕ → ℕ → ℕ → Trace → Bool → Trace
  to_predecessor fuel s i p trace b = elim b [
    | true ↦ un_close g sets states fuel c p (i - 1) (on_table (add_successor p s) trace)
    | false ↦ un_shift g sets states fuel c p (i - 1) (on_table (add_successor p s) trace)
  ]

  abbrev pub to_item : ℕ → ℕ → ℕ → Trace → Bool → Bool → Trace
  to_item fuel s j trace empty first = elim empty [
    | true ↦ elim first [
      | true ↦ un_close g sets states fuel c s j (on_table (enter s c (tokens_past g sets j)) trace)
      | false ↦ un_shift g sets states fuel c s j (on_table (enter s c (tokens_past g sets j)) trace)
    ]
    | false ↦ on_table (enter s c (tokens_past g sets j)) trace
  ]

  abbrev pub un_shifted_lem : ℕ → ℕ → ℕ → Trace → Bool → Trace
  un_shifted_lem fuel s i trace b = elim b [
    | true ↦ trace
    | false ↦ fold_over (λ p trace. to_predecessor fuel s i p trace (at_start g (i - 1))) (predecessors g states s (symbol_of (at g i))) (visit s i trace)
  ]

  abbrev pub un_closed_lem : ℕ → ℕ → ℕ → Trace → Bool → Trace
  un_closed_lem fuel s i trace b = elim b [
    | true ↦ trace
    | false ↦
        fold_over (λ j trace. to_item fuel s j trace (empty_past g sets j) (at_start g j)) (items_before g states s (at g i).symbol)
        (enter_start g s c i (visit s i trace))
  ]

  -- ---- what a visit, a link and an entry keep, a trace keeps
  pub record Kept (P : Trace → Type 0) : Type 0 where
    pub visiting : (s i : ℕ) (trace : Trace) → s < length states → P trace → P (visit s i trace)
    pub linking : (p s : ℕ) (trace : Trace) → P trace → P (on_table (add_successor p s) trace)
    pub entering : (s : ℕ) (tokens : TokenSet) (trace : Trace) → P trace → P (on_table (enter s c tokens) trace)

  module _ (P : Trace → Type 0) (kept : Kept P) where
    pub record BothKeep (fuel : ℕ) : Type 0 where
      pub shifting : (s i : ℕ) (trace : Trace) → s < length states → P trace → P (un_shift g sets states fuel c s i trace)
      pub closing : (s i : ℕ) (trace : Trace) → s < length states → P trace → P (un_close g sets states fuel c s i trace)

    start_keeps : (s i : ℕ) (trace : Trace) → P trace → P (enter_start g s c i trace)
    unfolding enter_start
    start_keeps s i trace h = by_test (eqb (at g i).symbol (start g))
      where
        by_test : (b : Bool) → P (pick b (on_table (enter s c (eof (terminal_count g))) trace) trace)
        by_test true = kept.entering s (eof (terminal_count g)) trace h
        by_test false = h

    predecessor_keeps : (fuel : ℕ) → BothKeep fuel → (s i p : ℕ) (trace : Trace) (b : Bool) → p < length states → P trace → P (to_predecessor fuel s i p trace b)
    predecessor_keeps fuel both s i p trace true q h = both.closing p (i - 1) (on_table (add_successor p s) trace) q (kept.linking p s trace h)
    predecessor_keeps fuel both s i p trace false q h = both.shifting p (i - 1) (on_table (add_successor p s) trace) q (kept.linking p s trace h)

    item_keeps : (fuel : ℕ) → BothKeep fuel → (s j : ℕ) (trace : Trace) (b d : Bool) → s < length states → P trace → P (to_item fuel s j trace b d)
    item_keeps fuel both s j trace true true q h = both.closing s j (on_table (enter s c (tokens_past g sets j)) trace) q (kept.entering s (tokens_past g sets j) trace h)
    item_keeps fuel both s j trace true false q h = both.shifting s j (on_table (enter s c (tokens_past g sets j)) trace) q (kept.entering s (tokens_past g sets j) trace h)
    item_keeps fuel both s j trace false d q h = kept.entering s (tokens_past g sets j) trace h

    shifted_keeps : (fuel : ℕ) → BothKeep fuel → (s i : ℕ) (trace : Trace) (b : Bool) → s < length states → P trace → P (un_shifted_lem fuel s i trace b)
    shifted_keeps fuel both s i trace true q h = h
    shifted_keeps fuel both s i trace false q h =
        fold_keeps (λ p trace. to_predecessor fuel s i p trace (at_start g (i - 1))) P (predecessors g states s (symbol_of (at g i)))
        (λ p among t k. predecessor_keeps fuel both s i p t (at_start g (i - 1)) (predecessor_below s p i among) k) (visit s i trace) (kept.visiting s i trace q h)

    closed_keeps : (fuel : ℕ) → BothKeep fuel → (s i : ℕ) (trace : Trace) (b : Bool) → s < length states → P trace → P (un_closed_lem fuel s i trace b)
    closed_keeps fuel both s i trace true q h = h
    closed_keeps fuel both s i trace false q h =
        fold_keeps (λ j trace. to_item fuel s j trace (empty_past g sets j) (at_start g j)) P (items_before g states s (at g i).symbol)
        (λ j among t k. item_keeps fuel both s j t (empty_past g sets j) (at_start g j) q k)
        (enter_start g s c i (visit s i trace)) (start_keeps s i (visit s i trace) (kept.visiting s i trace q h))

    pub both_keep : (fuel : ℕ) → BothKeep fuel
    unfolding un_shift
    both_keep zero = record { shifting = λ s i trace q h. h; closing = λ s i trace q h. h }
    both_keep (suc fuel) = record {
      shifting = λ s i trace q h. shifted_keeps fuel (both_keep fuel) s i trace (was_visited s i trace) q h;
      closing = λ s i trace q h. closed_keeps fuel (both_keep fuel) s i trace (was_visited s i trace) q h;
    }

  pub seen_kept : (n : ℕ) → Kept (SeenAtLeast n)
  seen_kept n = record { visiting = λ s i trace b h. visit_seen s i n trace b h; linking = λ p s trace h. h; entering = λ s tokens trace h. h }

  module _ (recorded : AllRecorded g states) where
    -- ---- with fuel for one call more than there are pairs to visit, any larger fuel gives the same
    abbrev Agree : ℕ → (ℕ → ℕ → Trace → Trace) → (ℕ → ℕ → Trace → Trace) → Type 0
    Agree fuel go other = (s i : ℕ) (trace : Trace) → s < length states → i < length g → Left fuel trace
        → go s i trace ≡ other s i trace

    record BothAgree (fuel larger : ℕ) : Type 0 where
      shifting : Agree fuel (un_shift g sets states (suc larger) c) (un_shift g sets states (suc fuel) c)
      closing : Agree fuel (un_close g sets states (suc larger) c) (un_close g sets states (suc fuel) c)

    predecessor_agrees : (fuel larger : ℕ) → BothAgree fuel larger → (s i p : ℕ) (trace : Trace) (b : Bool) → p < length states → i < length g
        → Left fuel trace → to_predecessor (suc larger) s i p trace b ≡ to_predecessor (suc fuel) s i p trace b
    predecessor_agrees fuel larger both s i p trace true q r h = both.closing p (i - 1) (on_table (add_successor p s) trace) q (omega arith) h
    predecessor_agrees fuel larger both s i p trace false q r h = both.shifting p (i - 1) (on_table (add_successor p s) trace) q (omega arith) h

    item_agrees : (fuel larger : ℕ) → BothAgree fuel larger → (s j : ℕ) (trace : Trace) (b d : Bool) → s < length states → j < length g
        → Left fuel trace → to_item (suc larger) s j trace b d ≡ to_item (suc fuel) s j trace b d
    item_agrees fuel larger both s j trace true true q r h = both.closing s j (on_table (enter s c (tokens_past g sets j)) trace) q r h
    item_agrees fuel larger both s j trace true false q r h = both.shifting s j (on_table (enter s c (tokens_past g sets j)) trace) q r h
    item_agrees fuel larger both s j trace false d q r h = refl

    -- a visit that counts leaves a pair less
    visited_left : (fuel s i : ℕ) (trace : Trace) → s < length states → i < length g → was_visited s i trace ≡ false
        → Left (suc fuel) trace → Left fuel (visit s i trace)
    visited_left fuel s i trace q r e (l, h) =
        let (l', _) = visit_seen s i 0 trace q (l, omega arith) in
        (l', omega (arith, visit_counts s i trace q r l e))

    none_left : (s i : ℕ) (trace : Trace) → s < length states → i < length g → was_visited s i trace ≡ false
        → Left 0 trace → ⊥
    none_left s i trace q r e (l, h) =
        let (l', _) = visit_seen s i 0 trace q (l, omega arith) in
        omega (arith, visit_counts s i trace q r l e, seen_bound (visit s i trace) l')

    shifted_agree : (fuel larger : ℕ) → BothAgree fuel larger → (s i : ℕ) (trace : Trace) (b : Bool) → was_visited s i trace ≡ b → s < length states → i < length g
        → Left (suc fuel) trace → un_shifted_lem (suc larger) s i trace b ≡ un_shifted_lem (suc fuel) s i trace b
    shifted_agree fuel larger both s i trace true e q r h = refl
    shifted_agree fuel larger both s i trace false e q r h =
        fold_same (Left fuel) (λ p trace. to_predecessor (suc larger) s i p trace (at_start g (i - 1)))
        (λ p trace. to_predecessor (suc fuel) s i p trace (at_start g (i - 1))) (predecessors g states s (symbol_of (at g i)))
        (λ p among t k. predecessor_agrees fuel larger both s i p t (at_start g (i - 1)) (predecessor_below s p i among) r k)
        (λ p among t k. predecessor_keeps (Left fuel) (seen_kept _) (suc fuel) (both_keep (Left fuel) (seen_kept _) (suc fuel)) s i p t (at_start g (i - 1)) (predecessor_below s p i among) k)
        (visit s i trace) (visited_left fuel s i trace q r e h)

    closed_agree : (fuel larger : ℕ) → BothAgree fuel larger → (s i : ℕ) (trace : Trace) (b : Bool) → was_visited s i trace ≡ b → s < length states → i < length g
        → Left (suc fuel) trace → un_closed_lem (suc larger) s i trace b ≡ un_closed_lem (suc fuel) s i trace b
    closed_agree fuel larger both s i trace true e q r h = refl
    closed_agree fuel larger both s i trace false e q r h =
        fold_same (Left fuel) (λ j trace. to_item (suc larger) s j trace (empty_past g sets j) (at_start g j))
        (λ j trace. to_item (suc fuel) s j trace (empty_past g sets j) (at_start g j)) (items_before g states s (at g i).symbol)
        (λ j among t k. item_agrees fuel larger both s j t (empty_past g sets j) (at_start g j) q (item_recorded recorded s (at g i).symbol j among) k)
        (λ j among t k. item_keeps (Left fuel) (seen_kept _) (suc fuel) (both_keep (Left fuel) (seen_kept _) (suc fuel)) s j t (empty_past g sets j) (at_start g j) q k)
        (enter_start g s c i (visit s i trace)) (start_keeps (Left fuel) (seen_kept _) s i (visit s i trace) (visited_left fuel s i trace q r e h))

    both_agree : (fuel larger : ℕ) → fuel ≤ larger → BothAgree fuel larger
    unfolding un_shift
    both_agree zero larger f = record {
      shifting = λ s i trace q r h. shift_ends s i trace (was_visited s i trace) refl q r h;
      closing = λ s i trace q r h. close_ends s i trace (was_visited s i trace) refl q r h;
    }
      where
        shift_ends : (s i : ℕ) (trace : Trace) (b : Bool) → was_visited s i trace ≡ b → s < length states → i < length g
            → Left 0 trace → un_shifted_lem larger s i trace b ≡ un_shifted_lem zero s i trace b
        shift_ends s i trace true e q r h = refl
        shift_ends s i trace false e q r h = absurd (none_left s i trace q r e h)

        close_ends : (s i : ℕ) (trace : Trace) (b : Bool) → was_visited s i trace ≡ b → s < length states → i < length g
            → Left 0 trace → un_closed_lem larger s i trace b ≡ un_closed_lem zero s i trace b
        close_ends s i trace true e q r h = refl
        close_ends s i trace false e q r h = absurd (none_left s i trace q r e h)
    both_agree (suc fuel) zero f = absurd (omega arith)
    both_agree (suc fuel) (suc larger) f = record {
      shifting = λ s i trace q r h. shifted_agree fuel larger (both_agree fuel larger (omega arith)) s i trace (was_visited s i trace) refl q r h;
      closing = λ s i trace q r h. closed_agree fuel larger (both_agree fuel larger (omega arith)) s i trace (was_visited s i trace) refl q r h;
    }

    -- the fuel that `trace_action` gives: a call more than there are pairs
    pub un_shift_fuel_lem : (larger s i : ℕ) (trace : Trace) → length states * length g ≤ larger → s < length states → i < length g
        → length trace.visited ≡ length states → un_shift g sets states (suc larger) c s i trace ≡ un_shift g sets states (suc (length states * length g)) c s i trace
    un_shift_fuel_lem larger s i trace f q r l = (both_agree (length states * length g) larger f).shifting s i trace q r (l, omega arith)

    pub un_close_fuel_lem : (larger s i : ℕ) (trace : Trace) → length states * length g ≤ larger → s < length states → i < length g
        → length trace.visited ≡ length states → un_close g sets states (suc larger) c s i trace ≡ un_close g sets states (suc (length states * length g)) c s i trace
    un_close_fuel_lem larger s i trace f q r l = (both_agree (length states * length g) larger f).closing s i trace q r (l, omega arith)
