-- A walk that hands records to a sink, one list after another: what is left to hand on gives the same room and the same number.
use Prim.Native.Nat.{ℕ, ◌+◌, ◌<◌, ◌≤◌}
use mathlib.Core.Path.{◌≡◌, refl, sym, ap, ap₂, ◌∙◌}
use mathlib.Core.List.{List, [], ◌++◌}
use native.Mathlib.Omega.{arith}
use lib.ListN.{length, length-append}
use Rattle.rules.specs.Table.{TableRecord}
use Rattle.table_counts.specs.Records.{in_turn}
use Rattle.table_counts.specs.Sinks.{SinkLaws, Took}
use Rattle.table_counts.proofs.Turns.{turn_none, turn_more}

-- rs are left of what was to be taken behind `from` records into the room
pub record Left (taken : ℕ → List TableRecord → List ℕ → List ℕ) (holds : ℕ → List ℕ → Type 0) (rs : List TableRecord) (at : ℕ) (now : List ℕ) (all : List TableRecord) (from : ℕ) (room : List ℕ) : Type 0 where
  pub enough : holds (at + length rs) now
  pub place : at + length rs ≡ from + length all
  pub same : taken at rs now ≡ taken from all room

module _ (taken : ℕ → List TableRecord → List ℕ → List ℕ) (holds : ℕ → List ℕ → Type 0) where
  pub left_all : (all rs : List TableRecord) (at : ℕ) (room : List ℕ) → all ≡ rs → holds (at + length all) room → Left taken holds rs at room all at room
  left_all all rs at room e enough = record {
    enough = rw (← e) enough;
    place = omega (arith, ap length e);
    same = ap (λ (l : List TableRecord). taken at l room) (sym e);
  }

  pub left_start : (all : List TableRecord) (at : ℕ) (room : List ℕ) → holds (at + length all) room → Left taken holds all at room all at room
  left_start all at room enough = left_all all all at room refl enough

  -- the last list is taken
  pub left_end : (rs : List TableRecord) (at : ℕ) (now : List ℕ) (all : List TableRecord) (from : ℕ) (room : List ℕ) → Left taken holds rs at now all from room
      → (after : List ℕ) (end : ℕ) → Took taken rs at now after end → Took taken all from room after end
  left_end rs at now all from room left after end took = record { place = omega (arith, left.place, took.place); left = took.left ∙ left.same }

  module _ (laws : SinkLaws taken holds) where
    pub took_none : (at : ℕ) (room : List ℕ) → Took taken [] at room room at
    took_none at room = record { place = omega arith; left = sym (laws.none at room) }

    left_none : (all : List TableRecord) (from at : ℕ) (room now : List ℕ) → Left taken holds [] at now all from room → Took taken all from room now at
    left_none all from at room now left = record { place = omega (arith, left.place); left = sym (laws.none at now) ∙ left.same }

    module _ (rs qs : List TableRecord) (at : ℕ) (now : List ℕ) (all : List TableRecord) (from : ℕ) (room : List ℕ) (left : Left taken holds (rs ++ qs) at now all from room) where
      pub first_holds : holds (at + length rs) now
      first_holds = laws.fewer (at + length rs) (at + length (rs ++ qs)) now (omega (arith, length-append rs qs)) left.enough

      pub left_second : (after : List ℕ) (end : ℕ) → Took taken rs at now after end → Left taken holds qs end after all from room
      left_second after end took = record {
        enough = rw (took.left, there) (laws.held rs at (at + length (rs ++ qs)) now (omega (arith, length-append rs qs)) left.enough);
        place = omega (arith, left.place, length-append rs qs, took.place);
        same = ap₂ (λ (a : ℕ) (t : List ℕ). taken a qs t) took.place took.left ∙ laws.more rs qs at now first_holds ∙ left.same;
      }
        where
          there : end + length qs ≡ at + length (rs ++ qs)
          there = omega (arith, took.place, length-append rs qs)

    -- ---- a loop
    module _ (f : ℕ → List TableRecord) (n i at : ℕ) (now : List ℕ) (all : List TableRecord) (from : ℕ) (room : List ℕ) (left : Left taken holds (in_turn f i n) at now all from room) where
      pub turn_holds : (rs : List TableRecord) → i < n → rs ≡ f i → holds (at + length rs) now
      turn_holds rs h e = rw e (first_holds (f i) (in_turn f (i + 1) n) at now all from room (rw (turn_more f n i h) at left))

      pub turn_left : (after : List ℕ) (end : ℕ) → i < n → Took taken (f i) at now after end → Left taken holds (in_turn f (i + 1) n) end after all from room
      turn_left after end h took = left_second (f i) (in_turn f (i + 1) n) at now all from room (rw (turn_more f n i h) at left) after end took

      pub turns_over : n ≤ i → Took taken all from room now at
      turns_over h = left_none all from at room now (rw (turn_none f n i h) at left)
