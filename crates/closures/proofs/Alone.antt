-- A kernel none of whose entries closes is its own closure: no nonterminal has a set, and nothing is lacking.
use Prim.Native.Nat.{ℕ, ◌+◌, ◌*◌, ◌-◌}
use mathlib.Core.Path.{◌≡◌, refl, sym, ap, ◌∙◌}
use mathlib.Core.Bool.{Bool, true, false, not, false≢true}
use mathlib.Core.List.{List, [], ◌∷◌, append-nil}
use native.Mathlib.Omega.{arith}
use lib.ListN.{length, replicate}
use borrow.Author.Tests.{not-true}
use Rattle.std.specs.Prelude.{Some}
use Rattle.base.specs.Pick.{pick}
use Rattle.base.specs.Loops.{until}
use Rattle.base.specs.Lists.{keep, some_of, fold_over}
use Rattle.base.proofs.Lists.{true_each, at_replicate}
use Rattle.base.proofs.Until.{until_enough}
use Rattle.base.proofs.EachLeft.{each_length}
use Rattle.rules.specs.Records.{Grammar, at, records}
use Rattle.rules.specs.Tokens.{is_empty_set}
use Rattle.rules.specs.Grammar.{left_sides, terminal_count, nonterminal_count}
use Rattle.rules.specs.First.{set_of}
use Rattle.rules.specs.States.{State, Follow, closes, entry_of, item_closed, close_kernel, close_left_sides, closure_settled, closure_sets, closure}
use Rattle.room.specs.Areas.{Room, view}
use Rattle.lookahead.specs.Sets.{set_at}
use Rattle.states.specs.StatesIn.{entry_in, run_in, PlacedRun}
use Rattle.states.proofs.States.{set_of_lem}
use Rattle.closures.specs.Closures.{follow_in, entry_closes}
use Rattle.closures.specs.Runs.{present_entries, Closes}
use Rattle.closures.proofs.Handing.{close_item_passes}
use Rattle.closures.proofs.Appends.{end_fits}
use Rattle.closures.proofs.Written.{behind_none, closure_is}

-- ---- the entry at place k
pub entry_closes_lem : (g : Grammar) (r : Room) (k i from : ℕ) (b : Bool) → i ≡ (entry_in r k).item → from ≡ 128 + k → b ≡ closes g i (set_at r from) → b ≡ entry_closes g (entry_in r k)
unfolding entry_closes
entry_closes_lem g r k i from b is slot e = rw (← is, set_of_lem r k, ← slot) e

-- ---- the kernel hands on nothing
module _ (g : Grammar) (follow : Follow) where
  kernel_passes : (kernel : State) (sets : List ℕ) → some_of (entry_closes g) kernel ≡ false → close_kernel g follow kernel sets ≡ sets
  unfolding some_of close_kernel fold_over entry_closes
  kernel_passes [] sets e = refl
  kernel_passes (x ∷ xs) sets e = by_first (closes g x.item x.set) refl e (kernel_passes xs sets)
    where
      by_first : (b : Bool) → closes g x.item x.set ≡ b → pick b true (some_of (entry_closes g) xs) ≡ false
          → (some_of (entry_closes g) xs ≡ false → close_kernel g follow xs sets ≡ sets) → close_kernel g follow (x ∷ xs) sets ≡ sets
      by_first true f e more = absurd (false≢true (sym e))
      by_first false f e more = rw (close_item_passes g follow x.item x.set sets f) (more e)

  -- ---- where no nonterminal has a set, nothing is lacking
  empty_settled : (m : ℕ) → closure_settled g follow (replicate m 0) ≡ true
  unfolding closure_settled item_closed closes is_empty_set set_of
  empty_settled m = true_each _ (left_sides g) (λ i among. rw (at_replicate {A = ℕ} m 0 (at g i).symbol))

  -- and no left side is present
  none_present : (m : ℕ) (is : List ℕ) → present_entries g (replicate m 0) is ≡ []
  unfolding present_entries keep entry_of is_empty_set set_of
  none_present m [] = refl
  none_present m (i ∷ is) = rw (at_replicate {A = ℕ} m 0 (at g i).symbol) (none_present m is)

  closure_alone : (kernel : State) → some_of (entry_closes g) kernel ≡ false → closure g follow kernel ≡ kernel
  unfolding closure_sets until
  closure_alone kernel none =
      let m : ℕ = nonterminal_count g in
      let bound : ℕ = m * (terminal_count g + 1) in
      let sets : closure_sets g follow kernel ≡ replicate m 0 =
      ap (until (closure_settled g follow) (close_left_sides g follow) bound) (kernel_passes kernel (replicate m 0) none)
      ∙ until_enough (closure_settled g follow) (close_left_sides g follow) 0 bound (replicate m 0) (omega arith) (empty_settled m) in
      closure_is g follow kernel ∙ rw (sets, none_present m (left_sides g), append-nil)

-- ---- so it is closed as it lies
module _ (bytes : List ℕ) (canonical : Bool) (n first end : ℕ) (w : List ℕ) (run : PlacedRun (length (records bytes)) (view w) first end) (b : Bool)
    (is : b ≡ some_of (entry_closes (records bytes)) (run_in (view w) first end)) where
  pub closed_alone : not b ≡ true → Closes bytes canonical n first end w w (Some end)
  closed_alone e =
      let same = closure_alone (records bytes) (follow_in (records bytes) canonical n (view w)) (run_in (view w) first end) (sym is ∙ not-true b e) in
      let size : first + length (run_in (view w) first end) ≡ end = omega (arith, each_length (entry_in (view w)) first (end - first), run.ordered) in
      record {
        ended = rw same (sym (end_fits first _ (omega (arith, run.bounded)) ∙ ap Some size));
        state = λ to z. let t : to ≡ end = cc in rw (t, same);
        placed = λ to z. let t : to ≡ end = cc in rw t run;
        only = behind_none (view w) end;
      }
