-- The entries of a state that lack a token of their least sets.
use Prim.Native.Nat.{ℕ, zero, suc, ◌+◌, ◌-◌, ◌<◌, ◌≤◌}
use mathlib.Core.Path.{◌≡◌, refl, sym, ap, ◌∙◌}
use mathlib.Core.Bool.{Bool, true, false, ◌||◌}
use mathlib.Core.List.{List}
use native.Mathlib.Omega.{arith}
use native.Mathlib.Nat.{sub-zero}
use lib.ListN.{length}
use Rattle.base.specs.Pick.{pick}
use Rattle.base.specs.Each.{each_from}
use Rattle.base.specs.Loops.{any_from}
use Rattle.rules.specs.Records.{Grammar, records}
use Rattle.rules.specs.Grammar.{at_end}
use Rattle.rules.specs.FinalCheck.{lacks}
use Rattle.room.specs.Areas.{Room}
use Rattle.room.specs.Bounds.{IsEntry}
use Rattle.room.specs.Slots.{entry_slot}
use Rattle.lookahead.specs.Sets.{lacks_token, lacks_some, lacks_below}
use Rattle.states.specs.StatesIn.{entry_in, first_of, state_in, PlacedRun, PlacedAt}
use Rattle.states.proofs.States.{set_of_lem}
use Rattle.states.proofs.Places.{run_read}
use Rattle.least_steps.specs.Least.{least_slot, least_entry, least_state}
use Rattle.least_steps.proofs.Entries.{least_set}
use Rattle.least_sets.specs.Steps.{Ready}
use Rattle.final_check.specs.Fails.{lacks_in}

-- ---- the entry at place k, whose item is i
module _ (g : Grammar) (r : Room) (k i : ℕ) (c : Bool) (is : i ≡ (entry_in r k).item) (last : c ≡ at_end g i) where
  ends_as : at_end g (entry_in r k).item ≡ c
  ends_as = sym (last ∙ ap (at_end g) is)

  pub none_asked : c ≡ false → false ≡ lacks_in g r k
  unfolding lacks_in
  none_asked z = rw (ends_as, z)

  pub all_asked : (own least end : ℕ) (b : Bool) → c ≡ true → own ≡ entry_slot k → least ≡ least_slot k → lacks_below own least r end ≡ lacks_some own least r
      → b ≡ any_from (lacks_token own least r) (end - 0) 0 → b ≡ lacks_in g r k
  unfolding lacks_in
  all_asked own least end b z o l e says =
      let f : b ≡ lacks_some own least r = says ∙ rw sub-zero e in
      rw (ends_as, z, set_of_lem r k, least_set r k, ← o, ← l) f

-- ---- where the entries of state s lie
pub state_placed : (bytes : List ℕ) (count s : ℕ) (r : Room) → Ready bytes count r → s < count → PlacedAt (length (records bytes)) r s
state_placed bytes count s r ready h = ready.placed.each s h

pub entries_placed : (bytes : List ℕ) (count s first end : ℕ) (r : Room) → Ready bytes count r → s < count → first ≡ first_of r s → end ≡ first_of r (s + 1) → PlacedRun (length (records bytes)) r first end
entries_placed bytes count s first end r ready h p q = run_read (length (records bytes)) r s first end (ready.placed.each s h) p q

module _ (record_count first end k : ℕ) (r : Room) (run : PlacedRun record_count r first end) (h : k < end) where
  pub run_area : IsEntry k
  run_area = omega (arith, run.bounded)

  pub run_recorded : first ≤ k → (entry_in r k).item < record_count
  run_recorded from = run.recorded k from h

-- ---- all entries of a state
module _ (g : Grammar) (r : Room) where
  lacks_each : (n i : ℕ) → any_from (lacks_in g r) n i ≡ lacks g (each_from (entry_in r) i n) (each_from (least_entry r) i n)
  unfolding any_from lacks each_from lacks_in
  lacks_each zero i = refl
  lacks_each (suc n) i = by_first (lacks_in g r i) (lacks_each n (suc i))
    where
      by_first : (b : Bool) {x y : Bool} → x ≡ y → pick b true x ≡ (b || y)
      by_first true e = refl
      by_first false e = e

  pub state_begins : (s first end : ℕ) → first ≡ first_of r s → end ≡ first_of r (s + 1) → any_from (lacks_in g r) (end - first) first ≡ lacks g (state_in r s) (least_state r s)
  unfolding state_in least_state
  state_begins s first end p q = rw (p, q) (lacks_each (first_of r (s + 1) - first_of r s) (first_of r s))
