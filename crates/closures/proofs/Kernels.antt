-- The closure's sets from a kernel: cleared, then what each entry of the kernel hands on, then the rounds.
use Prim.Native.Nat.{ℕ, ◌+◌, ◌-◌, ◌*◌, ◌≤◌, ◌<◌}
use mathlib.Core.Path.{◌≡◌, refl, sym, ap, ◌∙◌}
use mathlib.Core.Bool.{Bool}
use mathlib.Core.List.{List, [], ◌∷◌}
use native.Mathlib.Omega.{arith}
use native.Mathlib.Decide.{ℕ_discrete}
use lib.ListN.{length, replicate}
use Rattle.base.specs.Loops.{until}
use Rattle.base.specs.Lists.{fold_over}
use Rattle.base.proofs.EachLeft.{each_more, each_none}
use Rattle.rules.specs.Records.{Grammar, records}
use Rattle.rules.specs.Grammar.{terminal_count, nonterminal_count}
use Rattle.rules.specs.First.{Sets}
use Rattle.rules.specs.States.{Entry, State, Follow, close_item, close_kernel, close_left_sides, closure_settled, closure_sets}
use Rattle.room.specs.Areas.{view}
use Rattle.room.proofs.Lengths.{view_lengths}
use Rattle.lookahead.specs.Sets.{set_at, put_set}
use Rattle.lookahead.proofs.Slots.{put_there, put_elsewhere}
use Rattle.grammar.proofs.Coded.{nonterminal_count_below}
use Rattle.states.specs.StatesIn.{entry_in, run_in, PlacedRun}
use Rattle.states.proofs.States.{set_of_lem}
use Rattle.states.proofs.Places.{item_fits}
use Rattle.closures.specs.Closures.{closures_in, follow_in, Closable, OnlyClosures, ItemCloses, RoundsClose, KernelCloses, ClosuresCleared, ClosureFound}
use Rattle.closures.proofs.Frames.{only_none, only_both, only_own, only_hand, closures_hand, sets_empty, follow_kept, entry_kept, run_kept, placed_run_kept}

-- ---- the nonterminals below a have no set
pub record ClearLeft (bytes : List ℕ) (m : ℕ) (w₀ w : List ℕ) (a : ℕ) : Type 0 where
  pub within : a ≤ m
  pub same : length w ≡ length w₀
  pub only : OnlyClosures (records bytes) (view w₀) (view w)
  pub cleared : (b : ℕ) → b < a → set_at (view w) (64 + b) ≡ 0

pub clear_begins : (bytes : List ℕ) (m : ℕ) (w : List ℕ) → ClearLeft bytes m w w 0
clear_begins bytes m w = record { within = omega arith; same = refl; only = only_none (records bytes) (view w); cleared = λ b h. absurd (omega arith) }

module _ (bytes : List ℕ) (n m : ℕ) (w₀ w : List ℕ) (a : ℕ) (closable : Closable bytes n w₀) (count : m ≡ nonterminal_count (records bytes)) (at_a : ClearLeft bytes m w₀ w a) where
  few : m ≤ 64
  few = omega (arith, nonterminal_count_below (records bytes) closable.clean)

  pub clear_slot : a < m → a < 64
  clear_slot h = omega (arith, few)

  pub clear_fits : (slot : ℕ) → a < m → slot ≡ 64 + a → slot < 4225
  clear_fits slot h e = omega (arith, few)

  pub clear_turns : (after : List ℕ) (slot : ℕ) → a < m → length after ≡ length w → slot ≡ 64 + a → view after ≡ put_set slot 0 (view w) → ClearLeft bytes m w₀ after (a + 1)
  clear_turns after slot h size e put = record {
    within = omega arith;
    same = size ∙ at_a.same;
    only = only_both (records bytes) (view w₀) (view w) (view after) at_a.only (only_own (records bytes) (view w) (view after) slot 0 put a e (omega arith));
    cleared = λ b l. elim (ℕ_discrete b a) [
      | yes z ↦
          let x : 64 + b ≡ slot = omega arith in
          let f = few in
          rw x (put_there (view w) (view after) slot 0 put (omega (arith, (view_lengths w (omega (arith, closable.long, at_a.same))).sets_length)))
      | no z ↦ put_elsewhere (view w) (view after) slot 0 put (64 + b) (λ x. z (omega arith)) ∙ at_a.cleared b (omega arith)
    ];
  }

  pub clear_ends : m ≤ a → ClosuresCleared bytes m w₀ w
  clear_ends h = record {
    found = rw (← count) (sets_empty 64 m (view w).sets (λ slot f l. let x : slot ≡ 64 + (slot - 64) = omega arith in rw x (at_a.cleared (slot - 64) (omega arith))));
    only = at_a.only;
  }

-- ---- the kernel, its entries before k done
pub record KernelLeft (bytes : List ℕ) (canonical : Bool) (n first end : ℕ) (w₀ w : List ℕ) (k : ℕ) : Type 0 where
  pub from : first ≤ k
  pub to : k ≤ end
  pub same : length w ≡ length w₀
  pub only : OnlyClosures (records bytes) (view w₀) (view w)
  pub left : close_kernel (records bytes) (follow_in (records bytes) canonical n (view w₀)) (run_in (view w₀) k end) (closures_in (records bytes) (view w))
      ≡ close_kernel (records bytes) (follow_in (records bytes) canonical n (view w₀)) (run_in (view w₀) first end) (closures_in (records bytes) (view w₀))

close_kernel_more : (g : Grammar) (follow : Follow) (e : Entry) (es : State) (sets : Sets) → close_kernel g follow (e ∷ es) sets ≡ close_kernel g follow es (close_item g follow e.item e.set sets)
unfolding close_kernel fold_over
close_kernel_more g follow e es sets = refl

close_kernel_none : (g : Grammar) (follow : Follow) (es : State) (sets : Sets) → es ≡ [] → close_kernel g follow es sets ≡ sets
unfolding close_kernel fold_over
close_kernel_none g follow es sets e = rw e

pub kernel_begins : (bytes : List ℕ) (canonical : Bool) (n first end : ℕ) (w : List ℕ) → PlacedRun (length (records bytes)) (view w) first end → KernelLeft bytes canonical n first end w w first
kernel_begins bytes canonical n first end w run = record { from = omega arith; to = run.ordered; same = refl; only = only_none (records bytes) (view w); left = refl }

module _ (bytes : List ℕ) (canonical : Bool) (n first end : ℕ) (w₀ w : List ℕ) (k : ℕ) (closable : Closable bytes n w₀)
    (run : PlacedRun (length (records bytes)) (view w₀) first end) (at-k : KernelLeft bytes canonical n first end w₀ w k) where
  pub kernel_place : k < end → k < 2048
  kernel_place h = omega (arith, run.bounded)

  pub kernel_item : (i : ℕ) → k < end → i ≡ (entry_in (view w) k).item → 8 * i + 8 ≤ length bytes
  kernel_item i h is = item_fits bytes (view w) first end k i (placed_run_kept (records bytes) (view w₀) (view w) closable.clean at-k.only _ first end run) at-k.from h is

  module _ (after : List ℕ) (i from : ℕ) (lacked : Bool) (h : k < end) (is : i ≡ (entry_in (view w) k).item) (slot : from ≡ 128 + k) (call : ItemCloses bytes canonical n i from w after lacked) where
    kept_entry : entry_in (view w) k ≡ entry_in (view w₀) k
    kept_entry = entry_kept (records bytes) (view w₀) (view w) closable.clean at-k.only k (kernel_place h)

    item_here : i ≡ (entry_in (view w₀) k).item
    item_here = is ∙ ap (λ (e : Entry). e.item) kept_entry

    set_here : set_at (view w) from ≡ (entry_in (view w₀) k).set
    set_here = ap (set_at (view w)) slot ∙ sym (set_of_lem (view w) k) ∙ ap (λ (e : Entry). e.set) kept_entry

    made : closures_in (records bytes) (view after) ≡ close_item (records bytes) (follow_in (records bytes) canonical n (view w₀)) (entry_in (view w₀) k).item (entry_in (view w₀) k).set (closures_in (records bytes) (view w))
    made = rw (← item_here, ← set_here, ← follow_kept (records bytes) (view w₀) (view w) closable.clean at-k.only canonical n) call.found

    pub kernel_turns : length after ≡ length w → KernelLeft bytes canonical n first end w₀ after (k + 1)
    kernel_turns size = record {
      from = omega (arith, at-k.from);
      to = omega arith;
      same = size ∙ at-k.same;
      only = only_both (records bytes) (view w₀) (view w) (view after) at-k.only call.only;
      left = rw made (sym (close_kernel_more (records bytes) _ (entry_in (view w₀) k) (run_in (view w₀) (k + 1) end) (closures_in (records bytes) (view w))) ∙ rw (each_more (entry_in (view w₀)) end k h) at at-k.left);
    }

  pub kernel_ends : end ≤ k → KernelCloses bytes canonical n first end w₀ w
  kernel_ends h = record {
    found = sym (close_kernel_none (records bytes) _ (run_in (view w₀) k end) (closures_in (records bytes) (view w)) (each_none (entry_in (view w₀)) end k h)) ∙ at-k.left;
    only = at-k.only;
  }

-- ---- all of it
pub few_nonterminals : (bytes : List ℕ) (n m : ℕ) (w : List ℕ) → Closable bytes n w → m ≡ nonterminal_count (records bytes) → m ≤ 64
few_nonterminals bytes n m w closable e = omega (arith, nonterminal_count_below (records bytes) closable.clean)

closure_sets_are : (g : Grammar) (follow : Follow) (n m : ℕ) (kernel : State) → n ≡ terminal_count g → m ≡ nonterminal_count g
    → until (closure_settled g follow) (close_left_sides g follow) (m * (n + 1)) (close_kernel g follow kernel (replicate m 0)) ≡ closure_sets g follow kernel
unfolding closure_sets
closure_sets_are g follow n m kernel en em = rw (en, em)

pub cleared_run : (bytes : List ℕ) (n m first end : ℕ) (w w₁ : List ℕ) → Closable bytes n w → PlacedRun (length (records bytes)) (view w) first end → ClosuresCleared bytes m w w₁
    → PlacedRun (length (records bytes)) (view w₁) first end
cleared_run bytes n m first end w w₁ closable run clear = placed_run_kept (records bytes) (view w) (view w₁) closable.clean clear.only _ first end run

module _ (bytes : List ℕ) (canonical : Bool) (n m first end : ℕ) (w w₁ : List ℕ) (closable : Closable bytes n w) (run : PlacedRun (length (records bytes)) (view w) first end) where
  module _ (w₂ w₃ w₄ : List ℕ) (hand : ℕ) (terminals : n ≡ terminal_count (records bytes)) (nonterminals : m ≡ nonterminal_count (records bytes)) (clear : ClosuresCleared bytes m w w₁)
      (kernel : KernelCloses bytes canonical n first end w₁ w₂) (rounds : RoundsClose bytes canonical n (m * (n + 1)) w₂ w₃) (size : length w₃ ≡ length w) (slot : hand ≡ 4224) (put : view w₄ ≡ put_set hand 0 (view w₃)) where
    few_here : nonterminal_count (records bytes) ≤ 64
    few_here = nonterminal_count_below (records bytes) closable.clean

    only_two : OnlyClosures (records bytes) (view w) (view w₂)
    only_two = only_both (records bytes) (view w) (view w₁) (view w₂) clear.only kernel.only

    follow_one : follow_in (records bytes) canonical n (view w₁) ≡ follow_in (records bytes) canonical n (view w)
    follow_one = follow_kept (records bytes) (view w) (view w₁) closable.clean clear.only canonical n

    follow_two : follow_in (records bytes) canonical n (view w₂) ≡ follow_in (records bytes) canonical n (view w)
    follow_two = follow_kept (records bytes) (view w) (view w₂) closable.clean only_two canonical n

    from_kernel : closures_in (records bytes) (view w₂) ≡ close_kernel (records bytes) (follow_in (records bytes) canonical n (view w)) (run_in (view w) first end) (replicate m 0)
    from_kernel =
        rw (← follow_one, ← run_kept (records bytes) (view w) (view w₁) closable.clean clear.only _ first end run, ← clear.found) kernel.found

    from_rounds : closures_in (records bytes) (view w₃) ≡ closure_sets (records bytes) (follow_in (records bytes) canonical n (view w)) (run_in (view w) first end)
    from_rounds = rw (follow_two, from_kernel) at rounds.found ∙ closure_sets_are (records bytes) _ n m (run_in (view w) first end) terminals nonterminals

    pub closure_found : ClosureFound bytes canonical n first end w w₄
    closure_found =
        let l = (view_lengths w₃ (omega (arith, closable.long))).sets_length in
        record {
          found = closures_hand (records bytes) (view w₃) (view w₄) hand 0 put few_here slot ∙ from_rounds;
          only = only_both (records bytes) (view w) (view w₃) (view w₄) (only_both (records bytes) (view w) (view w₂) (view w₃) only_two rounds.only) (only_hand (records bytes) (view w₃) (view w₄) hand 0 put few_here slot);
          cleared = rw (← slot) (put_there (view w₃) (view w₄) hand 0 put (omega arith));
        }
