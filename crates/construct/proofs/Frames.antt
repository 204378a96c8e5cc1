-- What a merge leaves: the lane table stays, and so does what a merge asks where the origins do.
use Prim.Native.Nat.{ℕ, ◌+◌, ◌<◌}
use mathlib.Core.Path.{◌≡◌, refl, ap, ◌∙◌}
use mathlib.Core.Bool.{not}
use mathlib.Core.List.{List}
use native.Mathlib.Omega.{arith}
use lib.ListN.{length, get_or}
use lib.Dec.{eqb}
use Rattle.base.proofs.Each.{each_same, each_at}
use Rattle.base.proofs.EachLeft.{each_length}
use Rattle.rules.specs.Limits.{limits, max_states, max_entries}
use Rattle.rules.specs.Records.{records}
use Rattle.rules.specs.Tokens.{TokenSet}
use Rattle.rules.specs.Lanes.{no_row, row_of}
use Rattle.room.specs.Areas.{Room}
use Rattle.lookahead.specs.Sets.{load_set}
use Rattle.marks.specs.Marks.{successors_in}
use Rattle.states.specs.StatesIn.{Placed}
use Rattle.lane.specs.Table.{first_slot_of, row_in, table_in}
use Rattle.lane.specs.declared.Lanes.{Lanes}
use Rattle.groups.specs.MergeIn.{table_of}
use Rattle.construct.specs.Merges.{Mergeable, OnlyMerge}

-- ---- the limits
pub state_limit : limits.states ≡ max_states
unfolding limits
state_limit = refl

pub item_limit : limits.items ≡ max_entries
unfolding limits
item_limit = refl

-- ---- what is left
pub only_none : (v : Room) → OnlyMerge v v
only_none v = record { others = refl; firsts = λ slot h. refl; cells = λ slot h. refl }

pub only_both : (u v w : Room) → OnlyMerge u v → OnlyMerge v w → OnlyMerge u w
only_both u v w p q = record {
  others = q.others ∙ p.others;
  firsts = λ slot h. q.firsts slot h ∙ p.firsts slot h;
  cells = λ slot h. q.cells slot h ∙ p.cells slot h;
}

module _ (v q : Room) (only : OnlyMerge v q) where
  row_kept : (width s : ℕ) → row_in q width s ≡ row_in v width s
  unfolding row_in successors_in
  row_kept width s =
      let e : q.entered ≡ v.entered = ap (λ (r : Room). r.entered) only.others in
      let d : q.successors ≡ v.successors = ap (λ (r : Room). r.successors) only.others in
      rw (e, d)
      (ap (λ (l : List TokenSet). record { columns = l; entered = not (eqb (get_or v.entered s 0) 0); successors = successors_in v s })
      (each_same (load_set q.sets) (load_set v.sets) (first_slot_of s) width (λ j h g. only.cells j (omega arith))))

  pub table_kept : (lanes : Lanes) → table_of lanes q ≡ table_of lanes v
  unfolding table_in
  table_kept lanes = each_same (row_in q lanes.columns) (row_in v lanes.columns) 0 lanes.states (λ t h g. row_kept lanes.columns t)

-- ---- the lane table by its rows
module _ (lanes : Lanes) (v : Room) where
  pub rows_length : length (table_of lanes v) ≡ lanes.states
  unfolding table_in
  rows_length = each_length (row_in v lanes.columns) 0 lanes.states

  pub row_successors : (s : ℕ) → s < lanes.states → (row_of (table_of lanes v) s).successors ≡ successors_in v s
  unfolding row_of table_in row_in
  row_successors s h = let e : 0 + s ≡ s = omega arith in rw (each_at (row_in v lanes.columns) 0 lanes.states s no_row h, e)

-- ---- what a merge asks
pub ready_with : (bytes : List ℕ) (lanes : Lanes) (count : ℕ) (v : Room) → Mergeable bytes lanes count v → (q : Room) → Placed (length (records bytes)) count q → q.origins ≡ v.origins → Mergeable bytes lanes count q
ready_with bytes lanes count v ready q placed same = record {
  clean = ready.clean;
  counted = ready.counted;
  placed = placed;
  grouped = record { few = ready.grouped.few; narrow = ready.grouped.narrow; rows = ready.grouped.rows; originals = λ s h. rw same (ready.grouped.originals s h) };
}
