-- Each area of the room keeps the laws of an area. A store at place a + i, where i < k, leaves every area that is apart from the k numbers
-- from a on; that two areas are apart is a test on numerals, so that it computes.
use Prim.Native.Nat.{ℕ, ◌+◌, ◌<◌}
use mathlib.Core.Path.{◌≡◌, refl}
use mathlib.Core.Logic.{◌⊎◌, inl, inr, ⊎_elim}
use mathlib.Core.Bool.{Bool, true, false, ◌||◌}
use mathlib.Core.List.{List}
use native.Mathlib.Omega.{arith}
use lib.ListN.{drop, set}
use lib.Seq.{drop-set-lt}
use lib.Dec.{leb}
use borrow.Author.Tests.{leb-true}
use Rattle.base.specs.Part.{part}
use Rattle.base.proofs.Parts.{part_before, part_after, part_in}
use Rattle.room.specs.Areas.{Room, view, put_entry, put_first_entry, put_visited, put_entered, put_successors, put_origin, put_head, put_walked, put_action, put_set_word}
use Rattle.room.specs.AreaLaws.{IsArea}

either : (p q : Bool) → p || q ≡ true → (p ≡ true) ⊎ (q ≡ true)
either true q e = inl refl
either false q e = inr e

module _ (b n a k : ℕ) (w : List ℕ) (i v : ℕ) (h : i < k) where
  part_apart : leb (b + n) a || leb (a + k) b ≡ true → part b n (set w (a + i) v) ≡ part b n w
  part_apart e =
      ⊎_elim (λ t. part_after b n w (a + i) v (omega (arith, leb-true (b + n) a t))) (λ t. part_before b n w (a + i) v (omega (arith, leb-true (a + k) b t))) (either (leb (b + n) a) (leb (a + k) b) e)

  drop_past : leb (a + k) b ≡ true → drop b (set w (a + i) v) ≡ drop b w
  drop_past e = drop-set-lt b w (a + i) v (omega (arith, leb-true (a + k) b e))

-- two rooms are equal if every area is
record SameAreas (q r : Room) : Type 0 where
  pub same_entries : q.entries ≡ r.entries
  pub same_first_entries : q.first_entries ≡ r.first_entries
  pub same_visited : q.visited ≡ r.visited
  pub same_entered : q.entered ≡ r.entered
  pub same_successors : q.successors ≡ r.successors
  pub same_origins : q.origins ≡ r.origins
  pub same_heads : q.heads ≡ r.heads
  pub same_walked : q.walked ≡ r.walked
  pub same_actions : q.actions ≡ r.actions
  pub same_sets : q.sets ≡ r.sets
  pub same_rest : q.rest ≡ r.rest

same_room : (q r : Room) → SameAreas q r → q ≡ r
same_room q r e = λ i. record {
  entries = e.same_entries i;
  first_entries = e.same_first_entries i;
  visited = e.same_visited i;
  entered = e.same_entered i;
  successors = e.same_successors i;
  origins = e.same_origins i;
  heads = e.same_heads i;
  walked = e.same_walked i;
  actions = e.same_actions i;
  sets = e.same_sets i;
  rest = e.same_rest i;
}

ruleset stores = (part_in, part_apart, drop_past)

pub entries_area : IsArea 0 2048 (λ r. r.entries) put_entry
unfolding view
entries_area = record { within_room = omega arith; viewed = λ w. refl; stored = λ w i v h. same_room _ _ (search stores) }

pub first_entries_area : IsArea 2048 129 (λ r. r.first_entries) put_first_entry
unfolding view
first_entries_area = record { within_room = omega arith; viewed = λ w. refl; stored = λ w i v h. same_room _ _ (search stores) }

pub visited_area : IsArea 2177 1024 (λ r. r.visited) put_visited
unfolding view
visited_area = record { within_room = omega arith; viewed = λ w. refl; stored = λ w i v h. same_room _ _ (search stores) }

pub entered_area : IsArea 3201 128 (λ r. r.entered) put_entered
unfolding view
entered_area = record { within_room = omega arith; viewed = λ w. refl; stored = λ w i v h. same_room _ _ (search stores) }

pub successors_area : IsArea 3329 256 (λ r. r.successors) put_successors
unfolding view
successors_area = record { within_room = omega arith; viewed = λ w. refl; stored = λ w i v h. same_room _ _ (search stores) }

pub origins_area : IsArea 3585 128 (λ r. r.origins) put_origin
unfolding view
origins_area = record { within_room = omega arith; viewed = λ w. refl; stored = λ w i v h. same_room _ _ (search stores) }

pub heads_area : IsArea 3713 128 (λ r. r.heads) put_head
unfolding view
heads_area = record { within_room = omega arith; viewed = λ w. refl; stored = λ w i v h. same_room _ _ (search stores) }

pub walked_area : IsArea 3841 2 (λ r. r.walked) put_walked
unfolding view
walked_area = record { within_room = omega arith; viewed = λ w. refl; stored = λ w i v h. same_room _ _ (search stores) }

pub actions_area : IsArea 3843 16 (λ r. r.actions) put_action
unfolding view
actions_area = record { within_room = omega arith; viewed = λ w. refl; stored = λ w i v h. same_room _ _ (search stores) }

pub sets_area : IsArea 3859 4225 (λ r. r.sets) put_set_word
unfolding view
sets_area = record { within_room = omega arith; viewed = λ w. refl; stored = λ w i v h. same_room _ _ (search stores) }
