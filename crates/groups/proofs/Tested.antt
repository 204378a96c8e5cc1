-- Whether two groups join: the columns that were gathered are those of the groups, and they are tested side by side.
use Prim.Native.Nat.{ℕ, ◌+◌, ◌<◌, ◌≤◌}
use mathlib.Core.Path.{◌≡◌, refl, sym, ap, ap₂, ◌∙◌}
use mathlib.Core.Bool.{Bool, true, false}
use mathlib.Core.List.{List, [], ◌∷◌}
use native.Mathlib.Omega.{arith}
use lib.ListN.{length, replicate}
use lib.Dec.{eqb}
use borrow.Author.Tests.{eq-eqb, ne_eqb}
use Rattle.base.specs.Among.{Among, here, later}
use Rattle.base.specs.Lists.{up_to, keep}
use Rattle.base.specs.Pick.{pick}
use Rattle.base.proofs.Each.{each_at, each_same}
use Rattle.base.proofs.EachLeft.{each_length}
use Rattle.base.proofs.Folds.{fold_same}
use Rattle.base.proofs.Lists.{keep_among, up_to_among_lem}
use Rattle.rules.specs.Limits.{max_nonterminals}
use Rattle.rules.specs.Lanes.{Row, no_row, row_of, join_columns, pairwise_disjoint, no_columns}
use Rattle.rules.specs.Merge.{Merge, head_of, row_of_origin, group_columns, can_join}
use Rattle.room.specs.Areas.{Room}
use Rattle.room.specs.Slots.{closure_slot, entry_slot}
use Rattle.lookahead.specs.Sets.{load_set}
use Rattle.lane.specs.declared.Lanes.{Lanes}
use Rattle.lane.specs.Table.{row_in, table_in}
use Rattle.context_set.specs.Columns.{columns_at, columns_joined, OnlyColumns, Columned}
use Rattle.groups.specs.MergeIn.{origin_in, head_in, merge_in, table_of}
use Rattle.groups.specs.Groups.{Rowed, Grouped, row_at, gathered, OnlyClosure}
use Rattle.groups.proofs.Merged.{merge_count, origin_at, head_at}
use Rattle.groups.proofs.Members.{columns_both, gathered_kept}

pub rowed : (lanes : Lanes) (count : ℕ) (v : Room) → Grouped lanes count v → Rowed count v
rowed lanes count v grouped = record { few = grouped.few; originals = λ s h. omega (arith, grouped.originals s h, grouped.rows, grouped.few) }

-- ---- the columns of a group
row_columns : (lanes : Lanes) (v : Room) (s : ℕ) → s < lanes.states → (row_of (table_of lanes v) s).columns ≡ (row_in v lanes.columns s).columns
unfolding row_of table_in
row_columns lanes v s h =
    let e : 0 + s ≡ s = omega arith in
    ap (λ (r : Row). r.columns) (each_at (row_in v lanes.columns) 0 lanes.states s no_row h ∙ ap (row_in v lanes.columns) e)

keep_same : {A : Type 0} (f h : A → Bool) (xs : List A) → ((x : A) → Among x xs → f x ≡ h x) → keep f xs ≡ keep h xs
unfolding keep
keep_same f h [] same = refl
keep_same f h (x ∷ xs) same = ap₂ (λ b rest. pick b (x ∷ rest) rest) (same x here) (keep_same f h xs (λ y m. same y (later m)))

module _ (lanes : Lanes) (count : ℕ) (v : Room) (grouped : Grouped lanes count v) where
  abbrev merge : Merge
  merge = merge_in v count

  row_is : (s : ℕ) → s < count → (row_of_origin (table_of lanes v) merge s).columns ≡ row_at v lanes.columns s
  unfolding row_of_origin row_in
  row_is s h = rw (origin_at v count s h) (row_columns lanes v (origin_in v s) (grouped.originals s h))

  -- there is a row, so empty columns are as many as a row has
  columns_none : 0 < lanes.states → replicate lanes.columns 0 ≡ no_columns (table_of lanes v)
  unfolding no_columns row_in
  columns_none some = rw (row_columns lanes v 0 some, each_length (load_set v.sets) _ lanes.columns)

  members : (group : ℕ) → keep (λ k. eqb (head_in v k) group) (up_to count) ≡ keep (λ k. eqb (head_of merge k) group) (up_to (length merge.states))
  members group = rw (merge_count v count) (keep_same _ _ (up_to count) (λ k m. ap (λ (h : ℕ). eqb h group) (sym (head_at v count k ((up_to_among_lem k count).0 m)))))

  pub gathered_group : (group : ℕ) → 0 < lanes.states → gathered lanes.columns count group v ≡ group_columns (table_of lanes v) merge group
  unfolding gathered group_columns
  gathered_group group some =
      rw (← columns_none some, ← members group)
      (fold_same (λ columns. Unit {0}) (λ k columns. join_columns columns (row_at v lanes.columns k)) (λ k columns. join_columns columns (row_of_origin (table_of lanes v) merge k).columns) (keep (λ k. eqb (head_in v k) group) (up_to count))
      (λ k m columns i. ap (join_columns columns) (sym (row_is k ((up_to_among_lem k count).0 (keep_among _ (up_to count) m).0)))) (λ k m columns i. tt) (replicate lanes.columns 0) tt)

-- ---- the test
pub closure_only : (at width : ℕ) (v q : Room) → closure_slot 0 ≤ at → at + width ≤ entry_slot 0 → OnlyColumns at width v q → OnlyClosure v q
closure_only at width v q h g only = record {
  others = only.others;
  words = only.words;
  before = λ slot l. only.before slot (omega arith);
  behind = λ slot l. only.behind slot (omega arith);
}

module _ (lanes : Lanes) (count s t one other : ℕ) (v : Room) (grouped : Grouped lanes count v) (low : s < count) (next : t < count) (first : one ≡ head_in v s) (second : other ≡ head_in v t) where
  pub one_group : one ≡ other → true ≡ can_join (table_of lanes v) (merge_in v count) s t
  unfolding can_join
  one_group e =
      let b : eqb (head_of (merge_in v count) s) (head_of (merge_in v count) t) ≡ true = eq-eqb _ _ (head_at v count s low ∙ sym first ∙ e ∙ second ∙ sym (head_at v count t next)) in
      rw b

  two_groups : (one ≡ other → ⊥) → can_join (table_of lanes v) (merge_in v count) s t ≡ pairwise_disjoint (join_columns (gathered lanes.columns count one v) (gathered lanes.columns count other v))
  unfolding can_join
  two_groups ne =
      let b : eqb (head_of (merge_in v count) s) (head_of (merge_in v count) t) ≡ false = ne_eqb _ _ (λ z. ne (first ∙ sym (head_at v count s low) ∙ z ∙ head_at v count t next ∙ sym second)) in
      let some : 0 < lanes.states = omega (arith, grouped.originals s low) in
      rw (b, head_at v count s low, head_at v count t next, ← gathered_group lanes count v grouped (head_in v s) some, ← gathered_group lanes count v grouped (head_in v t) some, first, second)

  module _ (at beside : ℕ) (here : at ≡ closure_slot 0) (there : beside ≡ closure_slot 16) (u w z : Room) (ne : one ≡ other → ⊥)
      (firsts : Columned at lanes.columns (gathered lanes.columns count one v) v u) (seconds : Columned beside lanes.columns (gathered lanes.columns count other u) u w)
      (joined : Columned at lanes.columns (columns_joined at beside lanes.columns w) w z) where
    gathered_later : gathered lanes.columns count other u ≡ gathered lanes.columns count other v
    gathered_later = gathered_kept at lanes.columns v u firsts.only (omega (arith, grouped.narrow)) lanes.columns count other

    first_stays : columns_at w at lanes.columns ≡ columns_at u at lanes.columns
    first_stays = each_same (load_set w.sets) (load_set u.sets) at lanes.columns (λ k h g. seconds.only.before k (omega (arith, grouped.narrow)))

    pub groups_tested : (r : Bool) → r ≡ pairwise_disjoint (columns_at z at lanes.columns) → (r ≡ can_join (table_of lanes v) (merge_in v count) s t) × OnlyClosure v z
    groups_tested r e =
        let n = grouped.narrow in
        let only = columns_both (closure_slot 0) max_nonterminals in
        let tested = e ∙ ap pairwise_disjoint (joined.are ∙ ap₂ join_columns (first_stays ∙ firsts.are) (seconds.are ∙ gathered_later)) ∙ sym (two_groups ne) in (
          tested,
          only v u z (closure_only at lanes.columns v u (omega arith) (omega arith) firsts.only)
              (only u w z (closure_only beside lanes.columns u w (omega arith) (omega arith) seconds.only) (closure_only at lanes.columns w z (omega arith) (omega arith) joined.only)),
        )
