-- Entries appended one by one: what is left of them, appended to the room at hand, gives the room of them all.
use Prim.Native.Nat.{ℕ, suc, ◌+◌, ◌-◌, ◌≤◌, ◌<◌}
use mathlib.Core.Path.{◌≡◌, refl, sym, ap, ◌∙◌}
use mathlib.Core.List.{[], ◌∷◌}
use native.Mathlib.Omega.{arith}
use lib.ListN.{length, take}
use lib.Seq.{take-nil}
use borrow.Author.Tests.{lt-ltb, le-ltb}
use Rattle.std.specs.Prelude.{Some, None}
use Rattle.rules.specs.States.{Entry, State}
use Rattle.room.specs.Areas.{Room}
use Rattle.lookahead.specs.Sets.{set_at}
use Rattle.states.specs.StatesIn.{write_entry, append_entry}
use Rattle.closures.specs.Runs.{append_all, append_run, run_end, AppendedRun}

run_none : (k : ℕ) (r : Room) → append_run k [] r ≡ r
unfolding append_run append_all
run_none k r = go (2048 - k)
  where
    go : (n : ℕ) → append_all k (take n []) r ≡ r
    go n = rw take-nil

run_full : (k : ℕ) (es : State) (r : Room) → k ≡ 2048 → append_run k es r ≡ r
unfolding append_run append_all
run_full k es r e = rw e

run_more : (k : ℕ) (e : Entry) (es : State) (r : Room) → k < 2048 → append_run k (e ∷ es) r ≡ append_run (k + 1) es (write_entry k e.item e.set r)
unfolding append_run append_all
run_more k e es r h = let z : 2048 - k ≡ suc (2048 - (k + 1)) = omega arith in rw z

pub end_fits : (k size : ℕ) → k + size ≤ 2048 → run_end k size ≡ Some (k + size)
unfolding run_end
end_fits k size h = rw (le-ltb 2048 (k + size) h)

end_full : (k size : ℕ) → 2048 < k + size → run_end k size ≡ None
unfolding run_end
end_full k size h = rw (lt-ltb 2048 (k + size) h)

-- ---- the run has come to the place `to`
pub record AppendLeft (from : ℕ) (all : State) (v : Room) (to : ℕ) (rest : State) (q : Room) : Type 0 where
  pub begun : from ≤ to
  pub fits : to ≤ 2048
  pub size : to + length rest ≡ from + length all
  pub left : append_run to rest q ≡ append_run from all v

pub append_begins : (from : ℕ) (all : State) (v : Room) → from ≤ 2048 → AppendLeft from all v from all v
append_begins from all v h = record { begun = omega arith; fits = h; size = refl; left = refl }

module _ (from : ℕ) (all : State) (v : Room) (to : ℕ) (rest : State) (q : Room) (at-to : AppendLeft from all v to rest q) where
  pub append_ends : rest ≡ [] → AppendedRun from all v q (Some to)
  append_ends none =
      let z : to ≡ from + length all = omega (arith, at-to.size, ap length none) in
      record {
        written = sym (ap (λ (es : State). append_run to es q) none ∙ run_none to q) ∙ at-to.left;
        ended = ap Some z ∙ sym (end_fits from (length all) (omega (arith, at-to.fits)));
      }

  module _ (e : Entry) (es : State) (more : rest ≡ e ∷ es) where
    pub append_full : to ≡ 2048 → AppendedRun from all v q None
    append_full z = record {
      written = sym (run_full to rest q z) ∙ at-to.left;
      ended = sym (end_full from (length all) (omega (arith, at-to.size, ap length more)));
    }

    pub append_turns : (p : Room) (item slot : ℕ) → (to ≡ 2048 → ⊥) → item ≡ e.item → set_at q slot ≡ e.set → p ≡ append_entry to item slot q → AppendLeft from all v (to + 1) es p
    append_turns p item slot ne is has put =
        let h : to < 2048 = omega (arith, at-to.fits) in
        record {
          begun = omega (arith, at-to.begun);
          fits = omega arith;
          size = omega (arith, at-to.size, ap length more);
          left = rw (put, has, is) (sym (run_more to e es q h) ∙ rw more at at-to.left);
        }
