-- The kernel of the next state: the start item, or what the parent's entries become.
use Prim.Native.Nat.{ℕ, ◌+◌, ◌≤◌, ◌<◌}
use mathlib.Core.Path.{◌≡◌, refl, sym, ap, ap₂, ◌∙◌}
use mathlib.Core.Bool.{Bool, true, false}
use mathlib.Core.List.{List, []}
use native.Mathlib.Omega.{arith}
use lib.ListN.{length}
use Rattle.std.specs.Prelude.{Option, Some}
use Rattle.rules.specs.Grammar.{Symbol}
use Rattle.rules.specs.Records.{records}
use Rattle.rules.specs.Tokens.{eof, all}
use Rattle.rules.specs.States.{kernel_over}
use Rattle.room.specs.Areas.{Room, view, put_entry}
use Rattle.packed.specs.Packed.{packed, low, middle, high}
use Rattle.lookahead.specs.Sets.{put_set}
use Rattle.states.specs.StatesIn.{run_in, first_of, state_in, PlacedRun, write_entry}
use Rattle.states.proofs.States.{state_run}
use Rattle.states.proofs.Places.{firsts_ascend, end_within}
use Rattle.closures.specs.Runs.{append_all, append_run, run_end, AppendedRun}
use Rattle.lr.specs.Kernels.{symbol_by, parent_word, parent_of, kernel_in, Parented}
use Rattle.lr.proofs.Parents.{kernel_other}
use Rattle.collection.specs.Collections.{start_of}
use Rattle.collection.specs.Expands.{OwnAppended, KernelAppended}

-- ---- the start item
module _ (canonical : Bool) (n slot word : ℕ) (v p q : Room) (place : slot ≡ 128) (is : word ≡ packed 0 0 0) (put : p ≡ put_entry 0 word v) where
  pub start_with_eof : canonical ≡ true → q ≡ put_set slot (eof n) p → q ≡ write_entry 0 0 (start_of canonical n) v
  unfolding start_of
  start_with_eof e set = set ∙ rw (put, is, place, e)

  pub start_with_all : canonical ≡ false → q ≡ put_set slot (all n) p → q ≡ write_entry 0 0 (start_of canonical n) v
  unfolding start_of
  start_with_all e set = set ∙ rw (put, is, place, e)

start_appended : (bytes : List ℕ) (start : ℕ) (v q : Room) → q ≡ write_entry 0 0 start v → AppendedRun 0 (kernel_in (records bytes) start v 0) v q (Some 1)
unfolding kernel_in append_run append_all run_end
start_appended bytes start v q put = record { written = put; ended = refl }

module _ (bytes : List ℕ) (start s : ℕ) (w : List ℕ) (q : Room) where
  pub next_is_start : s ≡ 0 → Parented bytes s (s + 1) w → q ≡ write_entry 0 0 start (view w) → KernelAppended bytes start s (view w) q (Some 1)
  next_is_start z parented put =
      let first : first_of (view w) s ≡ 0 = rw z parented.placed.begins in
      rw (first, z) (start_appended bytes start (view w) q put)

  pub next_is_own : (r : Option ℕ) → (s ≡ 0 → ⊥) → OwnAppended bytes s (view w) q r → KernelAppended bytes start s (view w) q r
  next_is_own r ne own = rw (kernel_other (records bytes) [] start (view w) s (omega arith)) own

-- ---- what the parent's entries become
module _ (bytes : List ℕ) (s : ℕ) (w : List ℕ) (parented : Parented bytes s (s + 1) w) (later : 0 < s) (word p : ℕ) (read : word ≡ parent_word (view w) s) (parent : p ≡ low word) where
  parent_is : p ≡ parent_of (view w) s
  parent_is = parent ∙ ap low read

  parent_before : p < s
  parent_before = rw parent_is (parented.parents s later (omega arith))

  pub parent_below : p < 128
  parent_below = omega (arith, parent_before, parented.few)

  pub parent_within : p ≤ 128
  parent_within = omega (arith, parent_below)

  module _ (first last : ℕ) (ef : first ≡ first_of (view w) p) (el : last ≡ first_of (view w) (p + 1)) where
    pub parent_run : PlacedRun (length (records bytes)) (view w) first last
    parent_run = rw (ef, el) (parented.placed.each p parent_before)

    pub own_appended : (end kind number : ℕ) (x : Symbol) (q : Room) (r : Option ℕ) → end ≡ first_of (view w) s → kind ≡ high word → number ≡ middle word → x ≡ symbol_by kind number
        → AppendedRun end (kernel_over (records bytes) x (run_in (view w) first last)) (view w) q r → OwnAppended bytes s (view w) q r
    own_appended end kind number x q r ee ek en ex appended =
        let run : run_in (view w) first last ≡ state_in (view w) (parent_of (view w) s) =
        ap₂ (run_in (view w)) (ef ∙ ap (first_of (view w)) parent_is) (el ∙ ap (λ (k : ℕ). first_of (view w) (k + 1)) parent_is) ∙ sym (state_run (view w) (parent_of (view w) s)) in
        rw (ee, ex ∙ ap₂ symbol_by (ek ∙ ap high read) (en ∙ ap middle read), run) at appended

  pub run_before : (last end : ℕ) → last ≡ first_of (view w) (p + 1) → end ≡ first_of (view w) s → last ≤ end
  run_before last end el ee = let h = parent_before in rw (el, ee) (firsts_ascend _ s (view w) parented.placed (p + 1) s (omega arith) (omega arith))

pub next_place : (bytes : List ℕ) (s : ℕ) (w : List ℕ) (end : ℕ) → Parented bytes s (s + 1) w → end ≡ first_of (view w) s → end ≤ 2048
next_place bytes s w end parented ee = rw ee (end_within _ s (view w) parented.placed)
