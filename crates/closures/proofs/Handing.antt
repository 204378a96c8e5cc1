-- One item that hands on its set: what closing it makes of the closure's sets, and what it leaves as it was.
use Prim.Native.Nat.{ℕ, ◌+◌, ◌*◌, ◌≤◌, ◌<◌}
use mathlib.Core.Path.{◌≡◌, refl, sym, ap, ◌∙◌}
use mathlib.Core.Bool.{Bool, true, false, not, ◌&&◌}
use mathlib.Core.List.{List}
use native.Mathlib.Omega.{arith}
use lib.ListN.{length, set}
use lib.Dec.{eqb}
use borrow.Author.Tests.{not-true, not-false}
use Rattle.base.proofs.Each.{each_at}
use Rattle.base.proofs.Tests.{both_true}
use Rattle.rules.specs.Records.{Grammar, at, records, is_terminal}
use Rattle.rules.specs.Tokens.{TokenSet, is_empty_set, join, within}
use Rattle.rules.specs.Grammar.{at_end, symbols_behind, nonterminal_count}
use Rattle.rules.specs.First.{Sets, set_of, join_at, first1}
use Rattle.rules.specs.States.{Follow, closes, hands_on, close_item, item_closed}
use Rattle.rules.proofs.Laws.{not_at_end_within, nonterminal_counted_at}
use Rattle.room.specs.Areas.{Room, view}
use Rattle.room.proofs.Lengths.{view_lengths}
use Rattle.lookahead.specs.Sets.{load_set, set_at, put_set}
use Rattle.lookahead.proofs.Slots.{put_there, put_elsewhere}
use Rattle.grammar.proofs.Coded.{nonterminal_count_below, symbol_read}
use Rattle.grammar.proofs.Laws.{behind_dot}
use Rattle.first.proofs.Loads.{loads_stored}
use Rattle.closures.specs.Closures.{closures_in, follow_of, follow_in, Closable, ItemCloses}
use Rattle.closures.proofs.Frames.{only_none, only_both, words_put, only_own, only_hand, closures_hand}

-- ---- whether an item closes
module _ (g : Grammar) (i : ℕ) (s : TokenSet) (b : Bool) (empty : b ≡ eqb s 0) where
  pub closes_absent : b ≡ true → false ≡ closes g i s
  unfolding closes is_empty_set
  closes_absent e = rw (← empty, e)

  module _ (d : Bool) (last : d ≡ at_end g i) where
    pub closes_ended : b ≡ false → d ≡ true → false ≡ closes g i s
    unfolding closes is_empty_set
    closes_ended e f = rw (← empty, e, ← last, f)

    pub closes_behind : (t : Bool) → b ≡ false → d ≡ false → t ≡ is_terminal (at g (i + 1)) → not t ≡ closes g i s
    unfolding closes is_empty_set
    closes_behind t e f h = rw (← empty, e, ← last, f, ← h)

-- ---- an item that closes has a nonterminal behind its dot
module _ (g : Grammar) (i : ℕ) (s : TokenSet) (b : Bool) (is : b ≡ closes g i s) (yes-closes : not b ≡ false) where
  behind : (not (at_end g i) && not (is_terminal (at g (i + 1)))) ≡ true
  unfolding closes
  behind = (both_true (not (is_empty_set s)) _ (sym is ∙ not-false b yes-closes)).1

  pub closing_goes_on : at_end g i ≡ false
  closing_goes_on = not-true (at_end g i) (both_true (not (at_end g i)) _ behind).0

  pub closing_nonterminal : is_terminal (at g (i + 1)) ≡ false
  closing_nonterminal = not-true (is_terminal (at g (i + 1))) (both_true (not (at_end g i)) _ behind).1

module _ (bytes : List ℕ) (i : ℕ) (s : TokenSet) (b : Bool) (is : b ≡ closes (records bytes) i s) (yes-closes : not b ≡ false) where
  pub closing_within : 8 * (i + 1) + 8 ≤ length bytes
  closing_within = behind_dot bytes i (closing_goes_on (records bytes) i s b is yes-closes)

  pub closing_below : (n a : ℕ) (w : List ℕ) → Closable bytes n w → a ≡ (at (records bytes) (i + 1)).symbol → a < 64
  closing_below n a w closable named = symbol_read bytes (i + 1) a closable.clean closing_within named

  pub closing_slot : (n a own : ℕ) (w : List ℕ) → Closable bytes n w → a ≡ (at (records bytes) (i + 1)).symbol → own ≡ 64 + a → own < 4225
  closing_slot n a own w closable named e = let l = closing_below n a w closable named in omega arith

-- ---- what it hands on
module _ (g : Grammar) (canonical : Bool) (n i hand s : ℕ) (v q : Room) (slot : hand ≡ 4224) (firsts : Sets) where
  pub handed_first1 : canonical ≡ true → q ≡ put_set hand (first1 n firsts (symbols_behind g (i + 1)) s) v → q ≡ put_set 4224 (hands_on g (follow_of canonical n firsts) i s) v
  unfolding hands_on follow_of
  handed_first1 e put = rw (e, ← slot) put

  pub handed_copy : canonical ≡ false → q ≡ put_set hand s v → q ≡ put_set 4224 (hands_on g (follow_of canonical n firsts) i s) v
  unfolding hands_on follow_of
  handed_copy e put = rw (e, ← slot) put

-- ---- closing an item
pub close_item_is : (g : Grammar) (follow : Follow) (i s : ℕ) (sets : Sets) → closes g i s ≡ true
    → close_item g follow i s sets ≡ set sets (at g (i + 1)).symbol (join (set_of sets (at g (i + 1)).symbol) (hands_on g follow i s))
unfolding close_item join_at
close_item_is g follow i s sets e = rw e

pub close_item_passes : (g : Grammar) (follow : Follow) (i s : ℕ) (sets : Sets) → closes g i s ≡ false → close_item g follow i s sets ≡ sets
unfolding close_item
close_item_passes g follow i s sets e = rw e

pub item_closed_is : (g : Grammar) (follow : Follow) (sets : Sets) (i s : ℕ) → closes g i s ≡ true → item_closed g follow sets i s ≡ within (hands_on g follow i s) (set_of sets (at g (i + 1)).symbol)
unfolding item_closed
item_closed_is g follow sets i s e = rw e

pub item_passed : (bytes : List ℕ) (canonical : Bool) (n i from : ℕ) (w : List ℕ) (b : Bool) → b ≡ closes (records bytes) i (set_at (view w) from) → not b ≡ true → ItemCloses bytes canonical n i from w w false
unfolding close_item item_closed
item_passed bytes canonical n i from w b is e =
    let none : closes (records bytes) i (set_at (view w) from) ≡ false = sym is ∙ not-true b e in
    record { found = rw none; only = only_none (records bytes) (view w); said = rw none }

module _ (bytes : List ℕ) (canonical : Bool) (n i from a own hand : ℕ) (w w₁ w₂ : List ℕ) (b : Bool) (closable : Closable bytes n w)
    (is : b ≡ closes (records bytes) i (set_at (view w) from)) (yes-closes : not b ≡ false) (named : a ≡ (at (records bytes) (i + 1)).symbol)
    (mine : own ≡ 64 + a) (slot : hand ≡ 4224)
    (handed : view w₁ ≡ put_set 4224 (hands_on (records bytes) (follow_in (records bytes) canonical n (view w)) i (set_at (view w) from)) (view w))
    (put : view w₂ ≡ put_set own (join (set_at (view w₁) own) (set_at (view w₁) hand)) (view w₁)) where
  few : nonterminal_count (records bytes) ≤ 64
  few = nonterminal_count_below (records bytes) closable.clean

  sure : closes (records bytes) i (set_at (view w) from) ≡ true
  sure = sym is ∙ not-false b yes-closes

  below : a < nonterminal_count (records bytes)
  below =
      let l = not_at_end_within (records bytes) i (closing_goes_on (records bytes) i _ b is yes-closes) in
      omega (arith, nonterminal_counted_at (records bytes) (i + 1) l (closing_nonterminal (records bytes) i _ b is yes-closes))

  sized : length (view w).sets ≡ 4225
  sized = (view_lengths w closable.long).sets_length

  in_hand : set_at (view w₁) hand ≡ hands_on (records bytes) (follow_in (records bytes) canonical n (view w)) i (set_at (view w) from)
  in_hand = let l = sized in ap (set_at (view w₁)) slot ∙ put_there (view w) (view w₁) 4224 _ handed (omega arith)

  in_own : set_at (view w₁) own ≡ set_of (closures_in (records bytes) (view w)) a
  unfolding set_of
  in_own =
      let l = below in
      let f = few in
      put_elsewhere (view w) (view w₁) 4224 _ handed own (λ e. omega arith) ∙ ap (load_set (view w).sets) mine ∙ sym (each_at (load_set (view w).sets) 64 (nonterminal_count (records bytes)) a 0 l)

  same_closures : closures_in (records bytes) (view w₁) ≡ closures_in (records bytes) (view w)
  same_closures = closures_hand (records bytes) (view w) (view w₁) 4224 _ handed few refl

  joined : closures_in (records bytes) (view w₂) ≡ close_item (records bytes) (follow_in (records bytes) canonical n (view w)) i (set_at (view w) from) (closures_in (records bytes) (view w))
  joined =
      let l = below in
      let f = few in
      let z = sized in
      let y : length (view w₁).sets ≡ length (view w).sets = words_put (records bytes) (view w) (view w₁) 4224 _ handed in
      ap (closures_in (records bytes)) put
      ∙ loads_stored own _ (view w₁).sets 64 (nonterminal_count (records bytes)) a mine l (omega arith)
      ∙ rw (same_closures, in_own, in_hand, named) (sym (close_item_is (records bytes) _ i _ (closures_in (records bytes) (view w)) sure))

  pub item_joined : (r : Bool) → r ≡ not (within (set_at (view w₁) hand) (set_at (view w₁) own)) → ItemCloses bytes canonical n i from w w₂ r
  item_joined r says = record {
    found = joined;
    only = only_both (records bytes) (view w) (view w₁) (view w₂) (only_hand (records bytes) (view w) (view w₁) 4224 _ handed few refl) (only_own (records bytes) (view w₁) (view w₂) own _ put a mine below);
    said = says ∙ rw (in_hand, in_own, named) (ap not (sym (item_closed_is (records bytes) _ (closures_in (records bytes) (view w)) i _ sure)));
  }
