-- The next state closed: its kernel written behind the states before it, the closure of that kernel, and where it ends.
use Prim.Native.Nat.{ℕ, ◌+◌, ◌-◌, ◌≤◌, ◌<◌}
use mathlib.Core.Path.{◌≡◌, refl, sym, ap, ap₂, ◌∙◌}
use mathlib.Core.Logic.{⊎_elim}
use mathlib.Core.Bool.{Bool, true, false, not, true≢false}
use mathlib.Core.List.{List, [], ◌∷◌, ◌++◌}
use native.Mathlib.Omega.{arith}
use lib.ListN.{length, length-append}
use lib.Seq.{get_or-set_same}
use lib.Dec.{eqb, ltb}
use borrow.Author.Tests.{ltb-true, lt-ltb, le-ltb, not-true}
use Rattle.std.specs.Prelude.{Option, Some, None}
use Rattle.base.specs.Lists.{keep}
use Rattle.base.proofs.EachLeft.{each_length, each_none}
use Rattle.base.proofs.Lists.{among_none, among_cons, keep_among}
use Rattle.base.proofs.Members.{map_among}
use Rattle.base.proofs.Tests.{both_true}
use Rattle.rules.specs.declared.StateIndex.{StateIndex}
use Rattle.rules.specs.Records.{Grammar, records}
use Rattle.rules.specs.Tokens.{TokenSet}
use Rattle.rules.specs.Grammar.{Symbol, at_end, is_before}
use Rattle.rules.specs.States.{Entry, State, Follow, closure, kernel_over}
use Rattle.rules.proofs.Laws.{length_records, not_at_end_within}
use Rattle.room.specs.Areas.{Room, view}
use Rattle.room.proofs.Lengths.{Lengths, view_lengths}
use Rattle.grammar.specs.Asked.{InRange}
use Rattle.states.specs.StatesIn.{entry_in, run_in, first_of, state_in, PlacedRun, Placed, end_state}
use Rattle.states.proofs.States.{state_run, run_same}
use Rattle.states.proofs.Places.{end_within, placed_kept}
use Rattle.states.proofs.Grow.{ended_placed}
use Rattle.closures.specs.Closures.{follow_in, Closable}
use Rattle.closures.specs.Runs.{run_end, AppendedRun, OnlyBehind, Closes}
use Rattle.closures.proofs.Written.{Fresh, behind_both, run_behind, run_is, placed_is}
use Rattle.lr.specs.Kernels.{parent_of, parent_symbol, kernel_in, Parented}
use Rattle.lr.proofs.Compare.{moved}
use Rattle.collection.specs.Collections.{start_of}
use Rattle.collection.specs.Expands.{KernelAppended, closed_next, OnlyNext, ClosesNext}
use Rattle.collection.proofs.Frames.{next_behind, next_ended, entry_stays, place_stays, follow_same}

-- ---- the entries of a kernel lead nowhere yet, and their items are records
over_fresh : (g : Grammar) (x : Symbol) (es : State) → Fresh (length g) (kernel_over g x es)
unfolding kernel_over is_before
over_fresh g x es e m =
    let (f, among, is) = map_among moved (keep (λ f. is_before g x f.item) es) m in
    let before : is_before g x f.item ≡ true = (keep_among (λ f. is_before g x f.item) es among).1 in
    let more : at_end g f.item ≡ false = not-true (at_end g f.item) (both_true (not (at_end g f.item)) _ before).0 in
    (ap (λ (y : Entry). y.next) is, rw (ap (λ (y : Entry). y.item) is) (not_at_end_within g f.item more))

start_fresh : (record_count start : ℕ) → 0 < record_count → Fresh record_count (record { item = 0; next = 0; set = start } ∷ [])
start_fresh record_count start h e m =
    ⊎_elim (λ is. let item : e.item ≡ 0 = ap (λ (y : Entry). y.item) is in (ap (λ (y : Entry). y.next) is, rw item h)) (λ k. absurd (among_none k)) (among_cons m)

kernel_fresh : (g : Grammar) (start : TokenSet) (v : Room) (s : ℕ) → 0 < length g → Fresh (length g) (kernel_in g start v s)
unfolding kernel_in
kernel_fresh g start v s h = go (eqb s 0) refl
  where
    go : (b : Bool) → eqb s 0 ≡ b → Fresh (length g) (kernel_in g start v s)
    go true e = rw e (start_fresh (length g) start h)
    go false e = rw e (over_fresh g (parent_symbol v s) (state_in v (parent_of v s)))

-- ---- what fits
longer : (es fs : State) → length es ≤ length (es ++ fs)
longer es fs = omega (arith, length-append es fs)

kernel_within : (g : Grammar) (follow : Follow) (kernel : State) → length kernel ≤ length (closure g follow kernel)
unfolding closure
kernel_within g follow kernel = longer kernel _

full_known : (k size : ℕ) → None ≡ run_end k size → 2048 < k + size
unfolding run_end
full_known k size e = go (ltb 2048 (k + size)) refl
  where
    go : (b : Bool) → ltb 2048 (k + size) ≡ b → 2048 < k + size
    go true f = ltb-true 2048 (k + size) f
    go false f = let z : None ≡ Some (k + size) = rw f at e in let y : ◌≡◌ {A = ℕ} 0 1 = cc in absurd (omega arith)

too_long : (size : ℕ) → 2048 < size → false ≡ not (ltb 2048 size)
too_long size h = rw (lt-ltb 2048 size h)

not_too_long : (size : ℕ) → size ≤ 2048 → true ≡ not (ltb 2048 size)
not_too_long size h = rw (le-ltb 2048 size h)

never : {A : Type 0} → ◌≡◌ {A = Bool} false true → A
never e = absurd (true≢false (sym e))

pub closed_within : (bytes : List ℕ) (canonical : Bool) (n first end : ℕ) (w after : List ℕ) (r : Option ℕ) (to : ℕ) → Closes bytes canonical n first end w after r → r ≡ Some to → to ≤ 2048
closed_within bytes canonical n first end w after r to closes is = (closes.placed to is).bounded

-- ---- the kernel is written
module _ (bytes : List ℕ) (canonical : Bool) (n : ℕ) (s : StateIndex) (w w₁ : List ℕ) (first : ℕ) (r : Option ℕ) (closable : Closable bytes n w) (some : InRange 0 bytes)
    (parented : Parented bytes s.0 (s.0 + 1) w) (ef : first ≡ first_of (view w) s.0) (written : KernelAppended bytes (start_of canonical n) s.0 (view w) (view w₁) r) where
  abbrev g : Grammar
  g = records bytes

  abbrev kernel : State
  kernel = kernel_in g (start_of canonical n) (view w) s.0

  some_record : 0 < length g
  some_record = omega (arith, length_records bytes)

  few_records : length g ≤ 512
  few_records = omega (arith, length_records bytes, closable.short)

  within : first ≤ 2048
  within = rw ef (end_within _ s.0 (view w) parented.placed)

  appended : AppendedRun first kernel (view w) (view w₁) r
  appended = rw ef written

  none_yet : PlacedRun (length g) (view w) first first
  none_yet = record { ordered = omega arith; bounded = within; recorded = λ k h l. absurd (omega arith) }

  kernel_behind : OnlyBehind (view w) (view w₁) first
  kernel_behind = run_behind first kernel (view w) (view w₁) within appended.written

  pub kernel_full : r ≡ None → ClosesNext bytes canonical n s.0 w w₁ false
  kernel_full is = record {
    fitted =
        too_long (first_of (view w) s.0 + length (closed_next bytes canonical n s.0 (view w)))
        (omega (arith, full_known (first_of (view w) s.0) (length kernel) (sym is ∙ written.ended), kernel_within g (follow_in g canonical n (view w)) kernel));
    state = λ e. never e;
    placed = λ e. never e;
    only = next_behind (view w) (view w₁) first s.0 ef kernel_behind;
  }

  -- ---- and closed
  module _ (end : ℕ) (is : r ≡ Some end) where
    kernel_is : run_in (view w₁) first end ≡ kernel
    kernel_is =
        run_is (length g) first first kernel (view w) (view w₁) r few_records (view_lengths w closable.long) (kernel_fresh g _ (view w) s.0 some_record) none_yet appended end is
        ∙ ap (λ (run : State). run ++ kernel) (each_none (entry_in (view w)) first first (omega arith))

    pub kernel_placed : PlacedRun (length (records bytes)) (view w₁) first end
    kernel_placed = placed_is (length g) first first kernel (view w) (view w₁) r few_records (view_lengths w closable.long) (kernel_fresh g _ (view w) s.0 some_record) none_yet appended end is

    module _ (w₂ : List ℕ) (r₂ : Option ℕ) (closes : Closes bytes canonical n first end w₁ w₂ r₂) where
      closed_is : closure g (follow_in g canonical n (view w₁)) (run_in (view w₁) first end) ≡ closed_next bytes canonical n s.0 (view w)
      closed_is = ap₂ (closure g) (follow_same g (view w) (view w₁) canonical n closable.clean kernel_behind.firsts) kernel_is

      closed_behind : OnlyNext (view w) (view w₂) s.0
      closed_behind =
          next_behind (view w) (view w₂) first s.0 ef (behind_both (view w) (view w₁) (view w₂) first end kernel_placed.ordered kernel_behind closes.only)

      pub closure_full : r₂ ≡ None → ClosesNext bytes canonical n s.0 w w₂ false
      closure_full is₂ = record {
        fitted =
            too_long (first_of (view w) s.0 + length (closed_next bytes canonical n s.0 (view w)))
            (omega (arith, full_known first (length (closure g (follow_in g canonical n (view w₁)) (run_in (view w₁) first end))) (sym is₂ ∙ closes.ended), ap length closed_is));
        state = λ e. never e;
        placed = λ e. never e;
        only = closed_behind;
      }

      module _ (to : ℕ) (is₂ : r₂ ≡ Some to) where
        state_size : first + length (closed_next bytes canonical n s.0 (view w)) ≤ 2048
        state_size =
            let run = each_length (entry_in (view w₂)) first (to - first) in
            let whole = ap length (closes.state to is₂ ∙ closed_is) in
            omega (arith, (closes.placed to is₂).ordered, (closes.placed to is₂).bounded)

        still_placed : Placed (length g) s.0 (view w₂)
        still_placed = placed_kept (length g) s.0 (view w) (view w₂) parented.placed closed_behind.places (λ k h. ap (λ (e : Entry). e.item) (closed_behind.entries k h))

        pub next_closed : (w₃ : List ℕ) → length w₂ ≡ length w → view w₃ ≡ end_state s to (view w₂) → ClosesNext bytes canonical n s.0 w w₃ true
        next_closed w₃ size put =
            let small : s.0 < 128 = omega (arith, parented.few) in
            let sized : Lengths (view w₂) = view_lengths w₂ (omega (arith, closable.long)) in
            let begins : first_of (view w₂) s.0 ≡ first = closed_behind.places s.0 (omega arith) ∙ sym ef in
            let ends : first_of (view w₃) (s.0 + 1) ≡ to = ap (λ (q : Room). first_of q (s.0 + 1)) put ∙ get_or-set_same (view w₂).first_entries (s.0 + 1) to 0 (omega (arith, sized.first_entries_length_lem)) in
            record {
              fitted = not_too_long (first_of (view w) s.0 + length (closed_next bytes canonical n s.0 (view w))) (omega (arith, state_size));
              state = λ _.
                  state_run (view w₃) s.0 ∙ ap₂ (run_in (view w₃)) (place_stays (view w₂) (view w₃) s.0 to put s.0 (omega arith) ∙ begins) ends
                  ∙ run_same (view w₂) (view w₃) first to (λ k h l. entry_stays (view w₂) (view w₃) s.0 to put k)
                  ∙ closes.state to is₂ ∙ closed_is;
              placed = λ _. ended_placed (length g) s to (view w₂) (view w₃) sized small still_placed put (rw begins (closes.placed to is₂));
              only = next_ended (view w₂) (view w₃) s.0 to put (view w) closed_behind;
            }
