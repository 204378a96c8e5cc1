-- What a clone makes of the merge.
use Prim.Native.Nat.{ℕ, ◌+◌, ◌-◌, ◌<◌, ◌≤◌}
use mathlib.Core.Path.{◌≡◌, sym, ap, ap₂, ◌∙◌}
use mathlib.Core.List.{List, [], ◌∷◌, ◌++◌}
use native.Mathlib.Omega.{arith}
use native.Mathlib.Decide.{ℕ_discrete}
use lib.ListN.{length, get_or, set}
use lib.Seq.{get_or-set_same, get_or-set_other}
use Rattle.base.specs.Each.{each_from}
use Rattle.base.proofs.Each.{each_same}
use Rattle.base.proofs.EachLeft.{each_last}
use Rattle.rules.specs.States.{Entry, State}
use Rattle.rules.specs.Merge.{clone_state}
use Rattle.room.specs.Areas.{Room, view}
use Rattle.room.specs.Bounds.{LongEnough}
use Rattle.room.proofs.Lengths.{Lengths, view_lengths}
use Rattle.marks.specs.Marks.{walked_in}
use Rattle.states.specs.StatesIn.{entry_in, first_of, state_in, states_in, PlacedAt, Placed}
use Rattle.states.proofs.Places.{placed_kept, states_kept}
use Rattle.states.proofs.States.{states_length, state_at, states_more, state_run, run_copied}
use Rattle.lane.specs.declared.Lanes.{Lanes}
use Rattle.groups.specs.MergeIn.{origin_in, merge_in}
use Rattle.groups.proofs.Merged.{origin_at, merge_parts}
use Rattle.clones.specs.Clones.{size_of, Cloneable, Cloned}
use Rattle.construct.specs.Merges.{elsewhere, OnlyMerge, Mergeable}

numbers_more : (area : List ℕ) (n x : ℕ) → n < length area → each_from (λ k. get_or (set area n x) k 0) 0 (n + 1) ≡ each_from (λ k. get_or area k 0) 0 n ++ (x ∷ [])
numbers_more area n x h =
    each_last (λ k. get_or (set area n x) k 0) 0 n
    ∙ ap₂ (λ l y. l ++ (y ∷ [])) (each_same (λ k. get_or (set area n x) k 0) (λ k. get_or area k 0) 0 n (λ j a b. get_or-set_other area n j x 0 (λ e. omega arith))) last
  where
    last : get_or (set area n x) (0 + n) 0 ≡ x
    last = let e : 0 + n ≡ n = omega arith in rw e (get_or-set_same area n x 0 h)

module _ (record_count s count : ℕ) (v q : Room) (placed : Placed record_count count v) (sized : Lengths v) (able : Cloneable s count v) (cloned : Cloned s count v q) where
  first_before_lem : (t : ℕ) → t ≤ count → first_of q t ≡ first_of v t
  first_before_lem t h = ap (λ (l : List ℕ). get_or l t 0) cloned.firsts ∙ get_or-set_other v.first_entries (count + 1) t _ 0 (λ e. omega arith)

  first_last : first_of q (count + 1) ≡ first_of v count + size_of v s
  first_last = ap (λ (l : List ℕ). get_or l (count + 1) 0) cloned.firsts ∙ get_or-set_same v.first_entries (count + 1) _ 0 (omega (arith, sized.first_entries_length_lem, able.more))

  state_last : state_in q count ≡ state_in v s
  state_last =
      rw (state_run q count, first_before_lem count (omega arith), first_last) (run_copied v q (first_of v s) (first_of v (s + 1)) (first_of v count) cloned.entries.copied ∙ sym (state_run v s))

  cloned_states : states_in q (count + 1) ≡ states_in v count ++ (state_in v s ∷ [])
  cloned_states = states_more q count ∙ ap₂ (λ (l : List State) (x : State). l ++ (x ∷ [])) (states_kept record_count count v q placed first_before_lem cloned.entries.kept) state_last

  walked_kept : walked_in q ≡ walked_in v
  unfolding walked_in
  walked_kept = ap walked_in cloned.others

  pub cloned_merge : merge_in q (count + 1) ≡ clone_state s (merge_in v count)
  unfolding clone_state merge_in
  cloned_merge =
      merge_parts q (count + 1) (clone_state s (merge_in v count))
      (rw (state_at v count s able.state) cloned_states)
      (rw (cloned.origins, origin_at v count s able.state) (numbers_more v.origins count (origin_in v s) (omega (arith, sized.origins_length, able.more))))
      (rw (cloned.heads, states_length v count) (numbers_more v.heads count count (omega (arith, sized.heads_length, able.more))))
      walked_kept

  pub cloned_only : OnlyMerge v q
  cloned_only = record { others = ap elsewhere cloned.others; firsts = λ slot h. cloned.entries.slots_before slot (omega arith); cells = λ slot h. cloned.entries.slots_behind slot h }

  placed_last : PlacedAt record_count q count
  placed_last = record {
    ordered = omega (arith, first_last, first_before_lem count (omega arith));
    bounded = omega (arith, first_last, able.fits);
    recorded = λ k f g.
        let a : first_of v count ≤ k = rw (first_before_lem count (omega arith)) at f in
        let b : k < first_of v count + size_of v s = rw first_last at g in
        let z : first_of v count + (k - first_of v count) ≡ k = omega arith in
        let e : (entry_in q k).item ≡ (entry_in v (first_of v s + (k - first_of v count))).item = ap (λ (e : Entry). e.item) (rw z at (cloned.entries.copied (k - first_of v count) (omega arith))) in
        rw e ((placed.each s able.state).recorded (first_of v s + (k - first_of v count)) (omega arith) (omega (arith, able.ordered)));
  }

  cloned_placed : Placed record_count (count + 1) q
  cloned_placed = record {
    few = omega (arith, able.more);
    begins = first_before_lem 0 (omega arith) ∙ placed.begins;
    each = λ t h. elim (ℕ_discrete t count) [
      | yes e ↦ rw e placed_last
      | no ne ↦ (placed_kept record_count count v q placed first_before_lem (λ k g. ap (λ (e : Entry). e.item) (cloned.entries.kept k g))).each t (omega arith)
    ];
  }

  origin_kept : (t : ℕ) → t < count → origin_in q t ≡ origin_in v t
  origin_kept t h = ap (λ (l : List ℕ). get_or l t 0) cloned.origins ∙ get_or-set_other v.origins count t _ 0 (λ e. omega arith)

  origin_last : origin_in q count ≡ origin_in v s
  origin_last = ap (λ (l : List ℕ). get_or l count 0) cloned.origins ∙ get_or-set_same v.origins count _ 0 (omega (arith, sized.origins_length, able.more))

module _ (bytes : List ℕ) (lanes : Lanes) (s count : ℕ) (w : List ℕ) (q : Room) (fits : LongEnough w) (ready : Mergeable bytes lanes count (view w)) (able : Cloneable s count (view w)) (cloned : Cloned s count (view w) q) where
  sized : Lengths (view w)
  sized = view_lengths w fits

  pub cloned_ready : Mergeable bytes lanes (count + 1) q
  cloned_ready = record {
    clean = ready.clean;
    counted = ready.counted;
    placed = cloned_placed _ s count (view w) q ready.placed sized able cloned;
    grouped = record {
      few = omega (arith, able.more);
      narrow = ready.grouped.narrow;
      rows = omega (arith, ready.grouped.rows);
      originals = λ t h. elim (ℕ_discrete t count) [
        | yes e ↦ rw (e, origin_last _ s count (view w) q ready.placed sized able cloned) (ready.grouped.originals s able.state)
        | no ne ↦ rw (origin_kept _ s count (view w) q ready.placed sized able cloned t (omega arith)) (ready.grouped.originals t (omega arith))
      ];
    };
  }
