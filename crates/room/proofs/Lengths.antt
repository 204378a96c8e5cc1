-- How long the areas of a room are.
use Prim.Native.Nat.{ℕ}
use mathlib.Core.Path.{◌≡◌}
use mathlib.Core.List.{List}
use native.Mathlib.Omega.{arith}
use lib.ListN.{length}
use Rattle.base.proofs.Parts.{part_length}
use Rattle.room.specs.Areas.{Room, view}
use Rattle.room.specs.Bounds.{LongEnough}

pub record Lengths (r : Room) : Type 0 where
  pub entries_length : length r.entries ≡ 2048
  pub first_entries_length_lem : length r.first_entries ≡ 129
  pub visited_length : length r.visited ≡ 1024
  pub entered_length : length r.entered ≡ 128
  pub successors_length : length r.successors ≡ 256
  pub origins_length : length r.origins ≡ 128
  pub heads_length : length r.heads ≡ 128
  pub walked_length : length r.walked ≡ 2
  pub actions_length : length r.actions ≡ 16
  pub sets_length : length r.sets ≡ 4225

pub view_lengths : (w : List ℕ) → LongEnough w → Lengths (view w)
unfolding view
view_lengths w h = record {
  entries_length = part_length 0 2048 w (omega arith);
  first_entries_length_lem = part_length 2048 129 w (omega arith);
  visited_length = part_length 2177 1024 w (omega arith);
  entered_length = part_length 3201 128 w (omega arith);
  successors_length = part_length 3329 256 w (omega arith);
  origins_length = part_length 3585 128 w (omega arith);
  heads_length = part_length 3713 128 w (omega arith);
  walked_length = part_length 3841 2 w (omega arith);
  actions_length = part_length 3843 16 w (omega arith);
  sets_length = part_length 3859 4225 w (omega arith);
}
