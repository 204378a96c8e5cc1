-- The loop that gives the entries of a run the state that they lead to.
use Prim.Native.Nat.{ℕ, zero, suc, ◌+◌, ◌-◌, ◌*◌, ◌≤◌, ◌<◌}
use mathlib.Core.Path.{◌≡◌, refl, sym, ap, ◌∙◌}
use mathlib.Core.Bool.{Bool, true, false}
use mathlib.Core.List.{List, [], ◌∷◌}
use native.Mathlib.Omega.{arith}
use native.Mathlib.Decide.{ℕ_discrete, dec_le}
use lib.ListN.{length}
use Rattle.base.specs.Pick.{pick}
use Rattle.base.specs.Each.{each_from}
use Rattle.base.proofs.Each.{each_same}
use Rattle.rules.specs.declared.StateIndex.{StateIndex}
use Rattle.rules.specs.Records.{Grammar, records}
use Rattle.rules.specs.Grammar.{Symbol, is_before}
use Rattle.rules.specs.States.{Entry, State, lead}
use Rattle.room.specs.Areas.{Room, with_entries, view}
use Rattle.room.specs.Bounds.{IsState}
use Rattle.room.proofs.Lengths.{view_lengths}
use Rattle.states.specs.StatesIn.{entry_in, PlacedRun, put_next}
use Rattle.states.proofs.Changes.{next_there, stored_elsewhere}
use Rattle.states.proofs.Places.{item_fits}
use Rattle.lr.specs.Kernels.{stands_before}
use Rattle.lr.specs.Links.{Leads}

-- ---- one entry
abbrev led : Grammar → Symbol → ℕ → Entry → Entry
led g x t e = record { item = e.item; next = pick (is_before g x e.item) t e.next; set = e.set }

module _ (g : Grammar) (x : Symbol) (k i : ℕ) (t : StateIndex) (v q : Room) (b : Bool) (is : i ≡ (entry_in v k).item) (says : b ≡ is_before g x i) where
  stands : b ≡ stands_before g x v k
  unfolding stands_before
  stands = rw (← is) says

  pub led_there : b ≡ true → q ≡ put_next k t v → q ≡ pick (stands_before g x v k) (put_next k t v) v
  led_there e put = rw (← stands, e) put

  pub led_not : b ≡ false → v ≡ pick (stands_before g x v k) (put_next k t v) v
  led_not e = rw (← stands, e)

module _ (g : Grammar) (x : Symbol) (k : ℕ) (t : StateIndex) (w : List ℕ) (q : Room) (long : 8192 ≤ length w) (small : IsState t) (place : k < 2048)
    (put : q ≡ pick (stands_before g x (view w) k) (put_next k t (view w)) (view w)) where
  pub led_others : with_entries [] q ≡ with_entries [] (view w)
  led_others = go (stands_before g x (view w) k) put
    where
      go : (b : Bool) → q ≡ pick b (put_next k t (view w)) (view w) → with_entries [] q ≡ with_entries [] (view w)
      go true e = ap (with_entries []) e
      go false e = ap (with_entries []) e

  pub led_elsewhere : (j : ℕ) → (j ≡ k → ⊥) → entry_in q j ≡ entry_in (view w) j
  led_elsewhere j ne = go (stands_before g x (view w) k) put
    where
      go : (b : Bool) → q ≡ pick b (put_next k t (view w)) (view w) → entry_in q j ≡ entry_in (view w) j
      go true e = stored_elsewhere (view w) q k _ j e ne
      go false e = ap (λ (r : Room). entry_in r j) e

  pub led_here : entry_in q k ≡ led g x t.0 (entry_in (view w) k)
  unfolding stands_before
  led_here = go (is_before g x (entry_in (view w) k).item) refl
    where
      go : (b : Bool) → is_before g x (entry_in (view w) k).item ≡ b → entry_in q k ≡ led g x t.0 (entry_in (view w) k)
      go true e = rw e (next_there k t (view w) q (view_lengths w long) small (rw e at put) place)
      go false e = rw e (ap (λ (r : Room). entry_in r k) (rw e at put))

-- ---- the run, its entries before k done
pub record LeadLeft (bytes : List ℕ) (x : Symbol) (first end t : ℕ) (w₀ w : List ℕ) (k : ℕ) : Type 0 where
  pub from : first ≤ k
  pub to : k ≤ end
  pub same : length w ≡ length w₀
  pub others : with_entries [] (view w) ≡ with_entries [] (view w₀)
  pub done : (j : ℕ) → first ≤ j → j < k → entry_in (view w) j ≡ led (records bytes) x t (entry_in (view w₀) j)
  pub before : (j : ℕ) → j < first → entry_in (view w) j ≡ entry_in (view w₀) j
  pub behind : (j : ℕ) → k ≤ j → entry_in (view w) j ≡ entry_in (view w₀) j

pub lead_begins : (bytes : List ℕ) (x : Symbol) (first end t : ℕ) (w : List ℕ) → PlacedRun (length (records bytes)) (view w) first end → LeadLeft bytes x first end t w w first
lead_begins bytes x first end t w run = record {
  from = omega arith;
  to = run.ordered;
  same = refl;
  others = refl;
  done = λ j h l. absurd (omega arith);
  before = λ j h. refl;
  behind = λ j h. refl;
}

led_each : (g : Grammar) (x : Symbol) (t : ℕ) (f : ℕ → Entry) (i n : ℕ) → lead g x t (each_from f i n) ≡ each_from (λ j. led g x t (f j)) i n
unfolding lead each_from
led_each g x t f i zero = refl
led_each g x t f i (suc n) = ap (λ (es : State). led g x t (f i) ∷ es) (led_each g x t f (suc i) n)

module _ (bytes : List ℕ) (x : Symbol) (first end t : ℕ) (w₀ w : List ℕ) (k : ℕ) (walk : LeadLeft bytes x first end t w₀ w k) where
  pub lead_ends : end ≤ k → Leads bytes x first end t w₀ w
  lead_ends h = record {
    run =
        each_same (entry_in (view w)) (λ j. led (records bytes) x t (entry_in (view w₀) j)) first (end - first) (λ j a b. walk.done j a (omega arith))
        ∙ sym (led_each (records bytes) x t (entry_in (view w₀)) first (end - first));
    only = record { others = walk.others; before = walk.before; behind = λ j l. walk.behind j (omega (arith, walk.to)); items = λ j. by_place j (dec_le k j) };
  }
    where
      by_place : (j : ℕ) → Dec (k ≤ j) → (entry_in (view w) j).item ≡ (entry_in (view w₀) j).item
      by_place j (yes l) = ap (λ (e : Entry). e.item) (walk.behind j l)
      by_place j (no l) = by_first j (omega arith) (dec_le first j)
        where
          by_first : (j : ℕ) → j < k → Dec (first ≤ j) → (entry_in (view w) j).item ≡ (entry_in (view w₀) j).item
          by_first j l (yes m) = ap (λ (e : Entry). e.item) (walk.done j m l)
          by_first j l (no m) = ap (λ (e : Entry). e.item) (walk.before j (omega arith))

module _ (bytes : List ℕ) (x : Symbol) (first end : ℕ) (t : StateIndex) (w₀ w : List ℕ) (k : ℕ) (run : PlacedRun (length (records bytes)) (view w₀) first end)
    (walk : LeadLeft bytes x first end t.0 w₀ w k) (h : k < end) where
  pub lead_place : k < 2048
  lead_place = omega (arith, run.bounded)

  pub lead_item : 8 * (entry_in (view w) k).item + 8 ≤ length bytes
  lead_item = item_fits bytes (view w₀) first end k _ run walk.from h (ap (λ (e : Entry). e.item) (walk.behind k (omega arith)))

  pub lead_turns : (after : List ℕ) → 8192 ≤ length w₀ → IsState t → length after ≡ length w → view after ≡ pick (stands_before (records bytes) x (view w) k) (put_next k t (view w)) (view w)
      → LeadLeft bytes x first end t.0 w₀ after (k + 1)
  lead_turns after long small size put =
      let long-here : 8192 ≤ length w = omega (arith, walk.same) in
      record {
        from = omega (arith, walk.from);
        to = omega arith;
        same = size ∙ walk.same;
        others = led_others (records bytes) x k t w (view after) long-here small lead_place put ∙ walk.others;
        done = λ j a b. elim (ℕ_discrete j k) [
          | yes e ↦ rw e (led_here (records bytes) x k t w (view after) long-here small lead_place put ∙ ap (led (records bytes) x t.0) (walk.behind k (omega arith)))
          | no ne ↦ led_elsewhere (records bytes) x k t w (view after) long-here small lead_place put j ne ∙ walk.done j a (omega arith)
        ];
        before = λ j a. led_elsewhere (records bytes) x k t w (view after) long-here small lead_place put j (λ e. omega (arith, walk.from)) ∙ walk.before j a;
        behind = λ j a. led_elsewhere (records bytes) x k t w (view after) long-here small lead_place put j (λ e. omega arith) ∙ walk.behind j (omega arith);
      }
