-- The links of the states, made entry by entry and state by state, and what a link that is not there says.
use Prim.Native.Nat.{ℕ, ◌+◌, ◌/◌, ◌≤◌, ◌<◌}
use mathlib.Core.Path.{◌≡◌, refl, sym, ap, ◌∙◌}
use mathlib.Core.Logic.{inl, inr}
use mathlib.Core.Bool.{Bool, true, false, not, true≢false}
use mathlib.Core.List.{List}
use native.Mathlib.Omega.{arith}
use native.Mathlib.Decide.{ℕ_discrete}
use lib.Dec.{eqb}
use borrow.Author.Tests.{eqb-true, not-true}
use Rattle.base.specs.Pick.{pick}
use Rattle.base.specs.Lists.{some_of}
use Rattle.base.proofs.EachLeft.{each_among}
use Rattle.base.proofs.Tests.{both_true, some_true}
use Rattle.rules.specs.Limits.{max_states, max_entries}
use Rattle.rules.specs.Records.{records}
use Rattle.rules.specs.Tokens.{has, single, join}
use Rattle.rules.specs.Grammar.{Symbol, at_end, is_before}
use Rattle.rules.specs.States.{Entry}
use Rattle.room.specs.Areas.{Room, view, put_origin, put_head}
use Rattle.room.specs.Bounds.{LongEnough}
use Rattle.room.proofs.Lengths.{view_lengths}
use Rattle.words.specs.Bits.{word_bits}
use Rattle.sets.proofs.Laws.{has_true, has_single, has_join}
use Rattle.marks.specs.Marks.{links_in, link_word, with_bit, link_added, links_cleared}
use Rattle.marks.proofs.Changes.{link_added_lem, links_kept}
use Rattle.states.specs.StatesIn.{entry_in, first_of, state_in, states_in, PlaceOf, PlacedAt, Placed}
use Rattle.states.proofs.Places.{placed_kept, states_kept}
use Rattle.state_graph.specs.Graph.{leads_to}
use Rattle.state_graph.specs.Links.{with_links_of, OnlyLinks, MoreLinks, Seen, LinkedAt, Linked, EntryLinked, StateLinked, StatesLinked}

-- ---- what linking leaves
pub only_none : (v : Room) → OnlyLinks v v
only_none v = record { same = refl }

pub only_both : (u v w : Room) → OnlyLinks u v → OnlyLinks v w → OnlyLinks u w
only_both u v w first second = record { same = second.same ∙ ap (with_links_of w) first.same }

pub only_cleared : (u v w : Room) (s : ℕ) → OnlyLinks u v → w ≡ links_cleared s v → OnlyLinks u w
only_cleared u v w s only cleared = only_both u v w only (record { same = rw cleared })

module _ (v q : Room) (only : OnlyLinks v q) where
  entry_kept : (k : ℕ) → entry_in q k ≡ entry_in v k
  unfolding entry_in
  entry_kept k = ap (λ (r : Room). entry_in r k) only.same

  first_kept : (s : ℕ) → first_of q s ≡ first_of v s
  first_kept s = ap (λ (r : Room). first_of r s) only.same

  pub still_placed : (record_count count : ℕ) → Placed record_count count v → Placed record_count count q
  still_placed record_count count placed = placed_kept record_count count v q placed (λ s h. first_kept s) (λ k h. ap (λ (e : Entry). e.item) (entry_kept k))

  pub same_states : (record_count count : ℕ) → Placed record_count count v → states_in q count ≡ states_in v count
  same_states record_count count placed = states_kept record_count count v q placed (λ s h. first_kept s) (λ k h. entry_kept k)

-- ---- one link more
more_none : (v : Room) → MoreLinks v v
more_none v = record { only = only_none v; kept = λ s p h. h }

more_both : (u v w : Room) → MoreLinks u v → MoreLinks v w → MoreLinks u w
more_both u v w first second = record { only = only_both u v w first.only second.only; kept = λ s p h. second.kept s p (first.kept s p h) }

module _ (p s : ℕ) (w : List ℕ) (q : Room) (fits : LongEnough w) (from : p < max_states) (low : s < max_states) (added : q ≡ link_added p s (view w)) where
  joined : links_in q s ≡ join (links_in (view w) s) (single p)
  joined = link_added_lem (view w) q s p added (view_lengths w fits) low from

  new_link : has (links_in q s) p ≡ true
  new_link = rw joined ((has_true _ p).1 ((has_join (links_in (view w) s) (single p) p).1 (inr ((has_single p p).1 refl))))

  more_links : MoreLinks (view w) q
  more_links = record { only = rw added (by_word (with_bit (link_word (view w) s (p / word_bits)) p) (eqb (p / word_bits) 0)); kept = old }
    where
      by_word : (x : ℕ) (b : Bool) → OnlyLinks (view w) (pick b (put_origin s x (view w)) (put_head s x (view w)))
      by_word x true = record { same = refl }
      by_word x false = record { same = refl }

      old : (t u : ℕ) → has (links_in (view w) t) u ≡ true → has (links_in q t) u ≡ true
      old t u h = elim (ℕ_discrete t s) [
        | yes e ↦ rw (e, joined) ((has_true _ u).1 ((has_join (links_in (view w) s) (single p) u).1 (inl ((has_true _ u).0 (rw e at h)))))
        | no ne ↦ rw (links_kept (view w) q s p added t ne) h
      ]

-- ---- an entry
module _ (bytes : List ℕ) (p k : ℕ) where
  pub entry_ended : (v : Room) (i : ℕ) (b : Bool) → i ≡ (entry_in v k).item → b ≡ at_end (records bytes) i → b ≡ true → EntryLinked bytes p k v v
  entry_ended v i b is ends t = record { more = more_none v; here = λ f h. absurd (true≢false (sym t ∙ ends ∙ ap (at_end (records bytes)) is ∙ f)) }

  pub entry_outside : (v : Room) (to : ℕ) → to ≡ (entry_in v k).next → max_states ≤ to → EntryLinked bytes p k v v
  entry_outside v to read over = record { more = more_none v; here = λ f h. absurd (omega arith) }

  pub entry_linked : (w : List ℕ) (q : Room) (to : ℕ) → to ≡ (entry_in (view w) k).next → LongEnough w → p < max_states → to < max_states → q ≡ link_added p to (view w) → EntryLinked bytes p k (view w) q
  entry_linked w q to read fits from low added =
      let more = more_links p to w q fits from low added in
      record { more = more; here = λ f h. rw (entry_kept (view w) q more.only k, ← read) (new_link p to w q fits from low added) }

  seen_kept : (v q : Room) → MoreLinks v q → Seen bytes v p k → Seen bytes q p k
  seen_kept v q more seen = rw (entry_kept v q more.only k) (λ f h. more.kept _ p (seen f h))

-- ---- the entries of a state, those before place k done
pub record Linking (bytes : List ℕ) (p first k : ℕ) (v q : Room) : Type 0 where
  pub more : MoreLinks v q
  pub seen : (j : ℕ) → first ≤ j → j < k → Seen bytes q p j

module _ (bytes : List ℕ) (p first : ℕ) (v : Room) where
  pub linking_starts : Linking bytes p first first v v
  linking_starts = record { more = more_none v; seen = λ j h g. absurd (omega arith) }

  module _ (k : ℕ) (q : Room) (linking : Linking bytes p first k v q) where
    pub linking_goes : (z : Room) → EntryLinked bytes p k q z → Linking bytes p first (k + 1) v z
    linking_goes z linked = record {
      more = more_both v q z linking.more linked.more;
      seen = λ j h g. elim (ℕ_discrete j k) [
        | yes e ↦ rw e linked.here
        | no ne ↦ seen_kept bytes p j q z linked.more (linking.seen j h (omega arith))
      ];
    }

    module _ (end : ℕ) (begins : first ≡ first_of v p) (ends : end ≡ first_of v (p + 1)) where
      pub linking_ends : end ≤ k → StateLinked bytes p v q
      linking_ends over = record {
        more = linking.more;
        here = record {
          seen = λ j place.
              let a = first_kept v q linking.more.only p in
              let b = first_kept v q linking.more.only (p + 1) in
              linking.seen j (omega (arith, place.from)) (omega (arith, place.to));
        };
      }

      module _ (record_count : ℕ) (placed : PlacedAt record_count v p) (here : k < end) where
        pub place_low : k < max_entries
        place_low = omega (arith, placed.bounded)

        pub place_recorded : first ≤ k → (entry_in q k).item < record_count
        place_recorded h = rw (entry_kept v q linking.more.only k) (placed.recorded k (omega arith) (omega arith))

-- ---- the states
pub linked_none : (bytes : List ℕ) (v : Room) → Linked bytes 0 v
linked_none bytes v = record { each = λ p h. absurd (omega arith) }

pub linked_at : (bytes : List ℕ) (count p : ℕ) (v : Room) → Linked bytes count v → p < count → LinkedAt bytes v p
linked_at bytes count p v linked h = linked.each p h

linked_kept : (bytes : List ℕ) (v q : Room) (p : ℕ) → MoreLinks v q → LinkedAt bytes v p → LinkedAt bytes q p
linked_kept bytes v q p more linked = record {
  seen = λ k place.
      let a = first_kept v q more.only p in
      let b = first_kept v q more.only (p + 1) in
      seen_kept bytes p k v q more (linked.seen k (record { from = omega (arith, place.from); to = omega (arith, place.to) }));
}

pub linked_more : (bytes : List ℕ) (p : ℕ) (q z : Room) → Linked bytes p q → StateLinked bytes p q z → Linked bytes (p + 1) z
linked_more bytes p q z before linked = record {
  each = λ t h. elim (ℕ_discrete t p) [
    | yes e ↦ rw e linked.here
    | no ne ↦ linked_kept bytes q z t linked.more (before.each t (omega arith))
  ];
}

pub linked_all : (bytes : List ℕ) (p count : ℕ) (u v q : Room) → OnlyLinks u v → OnlyLinks v q → p ≤ count → count ≤ p → Linked bytes p q → StatesLinked bytes count u q
linked_all bytes p count u v q first second h g linked = let e : p ≡ count = omega arith in record { only = only_both u v q first second; linked = rw e at linked }

-- ---- a state that does not link to another has no entry that leads there
module _ (bytes : List ℕ) (v : Room) (p s : ℕ) (x : Symbol) (b : Bool) (linked : LinkedAt bytes v p) (low : s < max_states) (tested : b ≡ has (links_in v s) p) where
  leads_by_link : (k : ℕ) → PlaceOf v p k → leads_to (records bytes) s x (entry_in v k) ≡ true → b ≡ true
  unfolding leads_to is_before
  leads_by_link k place holds =
      let (before, next) = both_true _ _ holds in
      let behind = not-true _ (both_true _ _ before).0 in
      let to : (entry_in v k).next ≡ s = eqb-true _ _ next in
      tested ∙ (rw to at (linked.seen k place behind (omega arith)))

  found : some_of (leads_to (records bytes) s x) (state_in v p) ≡ true → b ≡ true
  unfolding state_in
  found e =
      let (entry, among, holds) = some_true (leads_to (records bytes) s x) _ e in
      let (k, from, to, is) = each_among (entry_in v) (first_of v p) _ among in
      leads_by_link k (record { from = from; to = omega arith }) (rw is at holds)

  pub unlinked : not b ≡ true → false ≡ some_of (leads_to (records bytes) s x) (state_in v p)
  unlinked none = by_answer (some_of (leads_to (records bytes) s x) (state_in v p)) refl
    where
      by_answer : (d : Bool) → some_of (leads_to (records bytes) s x) (state_in v p) ≡ d → false ≡ d
      by_answer true e = absurd (true≢false (sym (found e) ∙ not-true b none))
      by_answer false e = refl
