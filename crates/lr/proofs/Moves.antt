-- The loop that appends what a run of entries becomes over a symbol.
use Prim.Native.Nat.{ℕ, ◌+◌, ◌*◌, ◌≤◌, ◌<◌}
use mathlib.Core.Path.{◌≡◌, refl, sym, ap, ◌∙◌}
use mathlib.Core.Bool.{Bool, true, false, not}
use mathlib.Core.List.{List, ◌∷◌}
use native.Mathlib.Omega.{arith}
use lib.ListN.{length}
use borrow.Author.Tests.{not-true, not-false}
use Rattle.std.specs.Prelude.{Some, None}
use Rattle.base.proofs.EachLeft.{each_none, each_more}
use Rattle.base.proofs.Tests.{both_true}
use Rattle.rules.specs.Records.{records}
use Rattle.rules.specs.Grammar.{Symbol, at_end, is_before}
use Rattle.rules.specs.States.{Entry, kernel_over}
use Rattle.rules.proofs.Laws.{length_records, not_at_end_within}
use Rattle.room.specs.Areas.{view}
use Rattle.lookahead.specs.Sets.{set_at}
use Rattle.states.specs.StatesIn.{entry_in, run_in, PlacedRun, append_entry}
use Rattle.states.proofs.States.{set_of_lem}
use Rattle.states.proofs.Places.{item_fits}
use Rattle.states.proofs.Grow.{appended_elsewhere}
use Rattle.closures.specs.Runs.{AppendedRun}
use Rattle.closures.proofs.Appends.{AppendLeft, append_begins, append_ends, append_full, append_turns}
use Rattle.lr.proofs.Compare.{moved, kernel_none, kernel_hit, kernel_miss}

-- a symbol behind the dot has a record
pub moved_item : (bytes : List ℕ) (x : Symbol) (i : ℕ) (b : Bool) → length bytes ≤ 4096 → b ≡ is_before (records bytes) x i → not b ≡ false → i + 1 < 512
unfolding is_before
moved_item bytes x i b short says e =
    let behind : at_end (records bytes) i ≡ false = not-true (at_end (records bytes) i) (both_true (not (at_end (records bytes) i)) _ (sym says ∙ not-false b e)).0 in
    omega (arith, not_at_end_within (records bytes) i behind, length_records bytes)

-- the run is at the place k
pub record MoveLeft (bytes : List ℕ) (x : Symbol) (first last end : ℕ) (w₀ w : List ℕ) (to k : ℕ) : Type 0 where
  pub from : first ≤ k
  pub within : k ≤ last
  pub same : length w ≡ length w₀
  pub entries : (j : ℕ) → j < end → entry_in (view w) j ≡ entry_in (view w₀) j
  pub appended : AppendLeft end (kernel_over (records bytes) x (run_in (view w₀) first last)) (view w₀) to (kernel_over (records bytes) x (run_in (view w₀) k last)) (view w)

pub move_begins : (bytes : List ℕ) (x : Symbol) (first last end : ℕ) (w : List ℕ) → PlacedRun (length (records bytes)) (view w) first last → end ≤ 2048 → MoveLeft bytes x first last end w w end first
move_begins bytes x first last end w run h = record { from = omega arith; within = run.ordered; same = refl; entries = λ j l. refl; appended = append_begins end _ (view w) h }

module _ (bytes : List ℕ) (x : Symbol) (first last end : ℕ) (w₀ w : List ℕ) (to k : ℕ) (at-k : MoveLeft bytes x first last end w₀ w to k) where
  pub move_end_lem : (to ≡ 2048 → ⊥) → to < 2048
  move_end_lem ne = omega (arith, at-k.appended.fits)

  pub move_ends : last ≤ k → AppendedRun end (kernel_over (records bytes) x (run_in (view w₀) first last)) (view w₀) (view w) (Some to)
  move_ends h = append_ends end _ (view w₀) to _ (view w) at-k.appended (ap (kernel_over (records bytes) x) (each_none (entry_in (view w₀)) last k h) ∙ kernel_none (records bytes) x)

  module _ (run : PlacedRun (length (records bytes)) (view w₀) first last) (behind : last ≤ end) (h : k < last) where
    pub move_place : k < 2048
    move_place = omega (arith, run.bounded)

    entry_is : entry_in (view w) k ≡ entry_in (view w₀) k
    entry_is = at-k.entries k (omega arith)

    pub move_item : (i : ℕ) → i ≡ (entry_in (view w) k).item → 8 * i + 8 ≤ length bytes
    move_item i is = item_fits bytes (view w₀) first last k i run at-k.from h (is ∙ ap (λ (e : Entry). e.item) entry_is)

    module _ (i : ℕ) (b : Bool) (is : i ≡ (entry_in (view w) k).item) (says : b ≡ is_before (records bytes) x i) where
      tested : b ≡ is_before (records bytes) x (entry_in (view w₀) k).item
      tested = says ∙ ap (is_before (records bytes) x) (is ∙ ap (λ (e : Entry). e.item) entry_is)

      pub move_passed : not b ≡ true → MoveLeft bytes x first last end w₀ w to (k + 1)
      move_passed e = record {
        from = omega (arith, at-k.from);
        within = omega arith;
        same = at-k.same;
        entries = at-k.entries;
        appended = rw (each_more (entry_in (view w₀)) last k h, kernel_miss (records bytes) x (entry_in (view w₀) k) (run_in (view w₀) (k + 1) last) (sym tested ∙ not-true b e)) at at-k.appended;
      }

      module _ (e : not b ≡ false) where
        hit : kernel_over (records bytes) x (run_in (view w₀) k last) ≡ moved (entry_in (view w₀) k) ∷ kernel_over (records bytes) x (run_in (view w₀) (k + 1) last)
        hit = ap (kernel_over (records bytes) x) (each_more (entry_in (view w₀)) last k h) ∙ kernel_hit (records bytes) x (entry_in (view w₀) k) _ (sym tested ∙ not-false b e)

        pub move_full : to ≡ 2048 → AppendedRun end (kernel_over (records bytes) x (run_in (view w₀) first last)) (view w₀) (view w) None
        move_full z = append_full end _ (view w₀) to _ (view w) at-k.appended _ _ hit z

        pub move_turns : (after : List ℕ) (slot : ℕ) → (to ≡ 2048 → ⊥) → length after ≡ length w → slot ≡ 128 + k → view after ≡ append_entry to (i + 1) slot (view w) → MoveLeft bytes x first last end w₀ after (to + 1) (k + 1)
        move_turns after slot ne size es put = record {
          from = omega (arith, at-k.from);
          within = omega arith;
          same = size ∙ at-k.same;
          entries = λ j l. appended_elsewhere to (i + 1) _ (view w) (view after) put j (λ z. omega (arith, at-k.appended.begun)) ∙ at-k.entries j l;
          appended =
              append_turns end _ (view w₀) to _ (view w) at-k.appended _ _ hit (view after) (i + 1) slot ne
              (ap (λ (n : ℕ). n + 1) (is ∙ ap (λ (y : Entry). y.item) entry_is)) (ap (set_at (view w)) es ∙ sym (set_of_lem (view w) k) ∙ ap (λ (y : Entry). y.set) entry_is) put;
        }
