-- The merge in the room: how many states it has, the origin and the head of each, and a merge by its parts.
use Prim.Native.Nat.{ℕ, ◌+◌, ◌<◌}
use mathlib.Core.Path.{◌≡◌, ap, ◌∙◌}
use native.Mathlib.Omega.{arith}
use lib.ListN.{length, get_or}
use Rattle.base.specs.Each.{each_from}
use Rattle.base.proofs.Each.{each_at}
use Rattle.rules.specs.Merge.{Merge, origin_of, head_of}
use Rattle.room.specs.Areas.{Room}
use Rattle.marks.specs.Marks.{walked_in}
use Rattle.states.specs.StatesIn.{states_in}
use Rattle.states.proofs.States.{states_length}
use Rattle.groups.specs.MergeIn.{origin_in, head_in, merge_in}

number_at : (f : ℕ → ℕ) (n s d : ℕ) → s < n → get_or (each_from f 0 n) s d ≡ f s
number_at f n s d h = let e : 0 + s ≡ s = omega arith in each_at f 0 n s d h ∙ ap f e

module _ (r : Room) (count : ℕ) where
  pub merge_count : length (merge_in r count).states ≡ count
  unfolding merge_in
  merge_count = states_length r count

  pub origin_at : (s : ℕ) → s < count → origin_of (merge_in r count) s ≡ origin_in r s
  unfolding merge_in origin_of
  origin_at s h = number_at (origin_in r) count s s h

  pub head_at : (s : ℕ) → s < count → head_of (merge_in r count) s ≡ head_in r s
  unfolding merge_in head_of
  head_at s h = number_at (head_in r) count s s h

  pub merge_parts : (m : Merge) → states_in r count ≡ m.states → each_from (origin_in r) 0 count ≡ m.origins → each_from (head_in r) 0 count ≡ m.heads → walked_in r ≡ m.walked → merge_in r count ≡ m
  unfolding merge_in
  merge_parts m a b c d = λ i. record { states = a i; origins = b i; heads = c i; walked = d i }
