-- The members of a group: the loop that joins their rows.
use Prim.Native.Nat.{ℕ, ◌+◌, ◌<◌, ◌≤◌}
use mathlib.Core.Path.{◌≡◌, refl, sym, ap, ◌∙◌}
use mathlib.Core.Bool.{true, false}
use mathlib.Core.List.{List}
use native.Mathlib.Omega.{arith}
use lib.ListN.{get_or, replicate}
use lib.Dec.{eqb}
use borrow.Author.Tests.{eq-eqb, ne_eqb}
use Rattle.base.specs.Lists.{up_to, keep, fold_over}
use Rattle.base.proofs.Each.{each_same}
use Rattle.base.proofs.Folds.{fold_same}
use Rattle.base.proofs.ListLoops.{kept, kept_start, kept_fold_turn, kept_fold_end}
use Rattle.rules.specs.Limits.{max_states}
use Rattle.rules.specs.Tokens.{TokenSet}
use Rattle.rules.specs.Lanes.{join_columns}
use Rattle.room.specs.Areas.{Room}
use Rattle.lookahead.specs.Sets.{load_set}
use Rattle.lane.specs.Table.{first_cell, first_slot_of, cell_slot}
use Rattle.context_set.specs.Columns.{columns_at, columns_joined, OnlyColumns, Columned}
use Rattle.groups.specs.MergeIn.{origin_in, head_in}
use Rattle.groups.specs.Groups.{Rowed, row_at, with_member, gathered}

-- ---- what changes of columns leave
module _ (at width : ℕ) where
  pub columns_none : (v : Room) → OnlyColumns at width v v
  columns_none v = record { others = refl; words = refl; before = λ slot h. refl; behind = λ slot h. refl }

  pub columns_both : (u v w : Room) → OnlyColumns at width u v → OnlyColumns at width v w → OnlyColumns at width u w
  columns_both u v w p q = record {
    others = q.others ∙ p.others;
    words = q.words ∙ p.words;
    before = λ slot h. q.before slot h ∙ p.before slot h;
    behind = λ slot h. q.behind slot h ∙ p.behind slot h;
  }

module _ (at width : ℕ) (v q : Room) (only : OnlyColumns at width v q) where
  head_kept : (s : ℕ) → head_in q s ≡ head_in v s
  head_kept s = ap (λ (r : Room). head_in r s) only.others

  pub origins_kept : q.origins ≡ v.origins
  origins_kept = ap (λ (r : Room). r.origins) only.others

  row_kept : at + width ≤ first_cell → (n s : ℕ) → row_at q n s ≡ row_at v n s
  row_kept low n s = rw origins_kept (each_same (load_set q.sets) (load_set v.sets) (first_slot_of (origin_in v s)) n (λ j h g. only.behind j (omega arith)))

pub rowed_kept : (at width count : ℕ) (v q : Room) → OnlyColumns at width v q → Rowed count v → Rowed count q
rowed_kept at width count v q only rows = record { few = rows.few; originals = λ s h. rw (origins_kept at width v q only) (rows.originals s h) }

pub rowed_at : (count s : ℕ) (v : Room) → Rowed count v → s < count → origin_in v s < max_states
rowed_at count s v rows h = rows.originals s h

-- ---- a member
module _ (width group s at : ℕ) (v : Room) (h : ℕ) (is : h ≡ head_in v s) where
  pub member_none : (h ≡ group → ⊥) → Columned at width (with_member v width group s (columns_at v at width)) v v
  unfolding with_member
  member_none ne = let e : eqb (head_in v s) group ≡ false = ne_eqb (head_in v s) group (λ z. ne (is ∙ z)) in record { only = columns_none at width v; are = rw e }

  pub member_joined : (q : Room) (o row : ℕ) → h ≡ group → o ≡ origin_in v s → row ≡ cell_slot o 0 → Columned at width (columns_joined at row width v) v q
      → Columned at width (with_member v width group s (columns_at v at width)) v q
  unfolding with_member
  member_joined q o row e origin slot joined =
      let b : eqb (head_in v s) group ≡ true = eq-eqb (head_in v s) group (sym is ∙ e) in
      let z : row ≡ first_slot_of (origin_in v s) = rw (← origin) (omega arith) in
      record { only = joined.only; are = joined.are ∙ rw (b, z) }

-- ---- the loop over the members
-- what is left of it from state s on, where u is the room in which it began
unfoldable pub gather_rest : ℕ → ℕ → ℕ → Room → ℕ → List TokenSet → List TokenSet
gather_rest width count group u s columns =
    fold_over (λ s columns. join_columns columns (row_at u width s)) (kept (λ s. eqb (head_in u s) group) count s) columns

module _ (width count group at s : ℕ) (u q z : Room) (t : List TokenSet) (low : at + width ≤ first_cell) (only : OnlyColumns at width u q) where
  pub gather_turn : gather_rest width count group u s (columns_at q at width) ≡ t → s < count → Columned at width (with_member q width group s (columns_at q at width)) q z
      → gather_rest width count group u (s + 1) (columns_at z at width) ≡ t
  unfolding gather_rest with_member
  gather_turn left h joined =
      kept_fold_turn (λ s. eqb (head_in u s) group) (λ s columns. join_columns columns (row_at u width s)) count s (columns_at q at width) t (columns_at z at width) h left
      (joined.are ∙ rw (head_kept at width u q only s, row_kept at width u q only low width s))

  pub gather_only : Columned at width (with_member q width group s (columns_at q at width)) q z → OnlyColumns at width u z
  gather_only joined = columns_both at width u q z only joined.only

rest_ends : (width count group : ℕ) (u : Room) (s : ℕ) (columns t : List TokenSet) → count ≤ s → gather_rest width count group u s columns ≡ t → columns ≡ t
unfolding gather_rest
rest_ends width count group u s columns t over left = kept_fold_end (λ s. eqb (head_in u s) group) (λ s columns. join_columns columns (row_at u width s)) count s columns t over left

module _ (at n : ℕ) (v u : Room) (only : OnlyColumns at n v u) (low : at + n ≤ first_cell) where
  pub gathered_kept : (width count group : ℕ) → gathered width count group u ≡ gathered width count group v
  unfolding gathered
  gathered_kept width count group =
      ap (λ (heads : List ℕ). fold_over (λ s columns. join_columns columns (row_at u width s)) (keep (λ s. eqb (get_or heads s 0) group) (up_to count)) (replicate width 0)) (ap (λ (r : Room). r.heads) only.others)
      ∙ fold_same (λ columns. Unit {0}) (λ s columns. join_columns columns (row_at u width s)) (λ s columns. join_columns columns (row_at v width s)) (keep (λ s. eqb (head_in v s) group) (up_to count))
      (λ s m columns i. ap (join_columns columns) (row_kept at n v u only low width s)) (λ s m columns i. tt) (replicate width 0) tt

module _ (width count group at : ℕ) (v u q : Room) (low : at + width ≤ first_cell) (cleared : Columned at width (replicate width 0) v u) where
  rest_whole : gather_rest width count group u 0 (columns_at u at width) ≡ gathered width count group u
  unfolding gather_rest gathered
  rest_whole = rw (kept_start (λ s. eqb (head_in u s) group) count, cleared.are)

  pub gather_ends : (s : ℕ) → OnlyColumns at width u q → gather_rest width count group u s (columns_at q at width) ≡ gather_rest width count group u 0 (columns_at u at width) → count ≤ s
      → Columned at width (gathered width count group v) v q
  gather_ends s only left over = record {
    only = columns_both at width v u q cleared.only only;
    are = rest_ends width count group u s _ _ over left ∙ rest_whole ∙ gathered_kept at width v u cleared.only low width count group;
  }
