-- What a trace leaves: everything but the lane table, the items visited and the slot at hand. So the states and FIRST stay.
use Prim.Native.Nat.{ℕ, ◌+◌, ◌≤◌, ◌<◌}
use mathlib.Core.Path.{◌≡◌, refl, ap, ◌∙◌}
use mathlib.Core.Bool.{Bool, true, false}
use mathlib.Core.List.{List}
use native.Mathlib.Omega.{arith}
use lib.ListN.{length, length-set}
use lib.Dec.{eqb}
use Rattle.base.specs.Pick.{pick}
use Rattle.base.proofs.Each.{each_same}
use Rattle.rules.specs.Records.{Grammar, at}
use Rattle.rules.specs.Tokens.{TokenSet, eof}
use Rattle.rules.specs.Grammar.{start, terminal_count, nonterminal_count}
use Rattle.rules.specs.First.{Sets}
use Rattle.rules.specs.States.{Entry}
use Rattle.rules.specs.Lanes.{tokens_past}
use Rattle.grammar.specs.Asked.{NoFault}
use Rattle.grammar.proofs.Coded.{nonterminal_count_below}
use Rattle.room.specs.Areas.{Room, put_entered}
use Rattle.room.specs.Bounds.{IsEntry}
use Rattle.room.specs.Slots.{entry_slot, hand_slot}
use Rattle.room.proofs.Lengths.{Lengths}
use Rattle.lookahead.specs.Sets.{load_set, put_set}
use Rattle.lookahead.proofs.Slots.{put_elsewhere, length_stored_set}
use Rattle.marks.specs.Marks.{links_in, successor_added, item_visited}
use Rattle.first.specs.Firsts.{firsts_in}
use Rattle.states.specs.StatesIn.{entry_in, states_in, PlaceOf, Placed}
use Rattle.states.proofs.Places.{end_within, placed_same, states_same}
use Rattle.states.proofs.States.{entry_same, first_same}
use Rattle.state_graph.specs.Links.{Seen, Linked}
use Rattle.lane.specs.Changes.{tokens_entered, hand_entered, start_entered, past_entered}
use Rattle.lane.specs.Table.{first_cell, cell_slot}
use Rattle.lane.specs.Traces.{OnlyLanes}

pub only_none : (v : Room) → OnlyLanes v v
only_none v = record { others = refl; visited_words_lem = refl; entered_words = refl; successor_words_lem = refl; set_words = refl; slots = λ slot h. refl }

pub only_both : (u v w : Room) → OnlyLanes u v → OnlyLanes v w → OnlyLanes u w
only_both u v w p q = record {
  others = q.others ∙ p.others;
  visited_words_lem = q.visited_words_lem ∙ p.visited_words_lem;
  entered_words = q.entered_words ∙ p.entered_words;
  successor_words_lem = q.successor_words_lem ∙ p.successor_words_lem;
  set_words = q.set_words ∙ p.set_words;
  slots = λ slot h. q.slots slot h ∙ p.slots slot h;
}

-- ---- one change
visit_only : (s i : ℕ) (v : Room) → OnlyLanes v (item_visited s i v)
visit_only s i v = record {
  others = refl;
  visited_words_lem = length-set v.visited _ _;
  entered_words = refl;
  successor_words_lem = refl;
  set_words = refl;
  slots = λ slot h. refl;
}

link_only : (s t : ℕ) (v : Room) → OnlyLanes v (successor_added s t v)
link_only s t v = record {
  others = refl;
  visited_words_lem = refl;
  entered_words = refl;
  successor_words_lem = length-set v.successors _ _;
  set_words = refl;
  slots = λ slot h. refl;
}

-- a set is put into a slot that a trace may change
set_only : (slot : ℕ) (tokens : TokenSet) (v : Room) → first_cell ≤ slot → OnlyLanes v (put_set slot tokens v)
set_only slot tokens v cell = record {
  others = refl;
  visited_words_lem = refl;
  entered_words = refl;
  successor_words_lem = refl;
  set_words = length_stored_set v.sets slot tokens;
  slots = λ other h. put_elsewhere v (put_set slot tokens v) slot tokens refl other (λ e. omega arith);
}

pub hand_only : (tokens : TokenSet) (v : Room) → OnlyLanes v (put_set hand_slot tokens v)
hand_only tokens v = set_only hand_slot tokens v (omega arith)

pub mark_only : (s x : ℕ) (v : Room) → OnlyLanes v (put_entered s x v)
mark_only s x v = record { others = refl; visited_words_lem = refl; entered_words = length-set v.entered s x; successor_words_lem = refl; set_words = refl; slots = λ slot h. refl }

pub enter_only : (s c : ℕ) (tokens : TokenSet) (v : Room) → OnlyLanes v (tokens_entered s c tokens v)
enter_only s c tokens v = only_both v (put_entered s 1 v) _ (mark_only s 1 v) (set_only (cell_slot s c) _ (put_entered s 1 v) (omega arith))

pub hand_enters : (s c : ℕ) (tokens : TokenSet) (v : Room) → OnlyLanes v (hand_entered s c tokens v)
hand_enters s c tokens v = only_both v (put_set hand_slot tokens v) _ (hand_only tokens v) (enter_only s c tokens (put_set hand_slot tokens v))

start_only : (g : Grammar) (s c i : ℕ) (v : Room) → OnlyLanes v (start_entered g s c i v)
start_only g s c i v = by_test (eqb (at g i).symbol (start g))
  where
    by_test : (b : Bool) → OnlyLanes v (pick b (hand_entered s c (eof (terminal_count g)) v) v)
    by_test true = hand_enters s c (eof (terminal_count g)) v
    by_test false = only_none v

-- as the code says it
module _ (v q : Room) where
  pub only_visit : (s i : ℕ) → q ≡ item_visited s i v → OnlyLanes v q
  only_visit s i e = rw e (visit_only s i v)

  pub only_link : (s t : ℕ) → q ≡ successor_added s t v → OnlyLanes v q
  only_link s t e = rw e (link_only s t v)

  pub only_start : (g : Grammar) (s c i : ℕ) → q ≡ start_entered g s c i v → OnlyLanes v q
  only_start g s c i e = rw e (start_only g s c i v)

  pub only_past : (g : Grammar) (sets : Sets) (s c j : ℕ) → q ≡ past_entered g sets s c j v → OnlyLanes v q
  only_past g sets s c j e = rw e (hand_enters s c (tokens_past g sets j) v)

-- ---- what stays
module _ (v q : Room) (only : OnlyLanes v q) where
  entries_same : q.entries ≡ v.entries
  entries_same = ap (λ (r : Room). r.entries) only.others

  pub firsts_same : q.first_entries ≡ v.first_entries
  firsts_same = ap (λ (r : Room). r.first_entries) only.others

  pub entry_kept : (k : ℕ) → IsEntry k → entry_in q k ≡ entry_in v k
  entry_kept k h = entry_same v q k entries_same (only.slots (entry_slot k) (omega arith))

  pub placed_kept : (record_count count : ℕ) → Placed record_count count v → Placed record_count count q
  placed_kept record_count count placed = placed_same record_count count v q placed firsts_same (λ k h. ap (λ (e : Entry). e.item) (entry_kept k (omega (arith, end_within record_count count v placed))))

  pub states_kept : (record_count count : ℕ) → Placed record_count count v → states_in q count ≡ states_in v count
  states_kept record_count count placed = states_same record_count count v q placed firsts_same (λ k h. entry_kept k (omega (arith, end_within record_count count v placed)))

  pub firsts_kept : (g : Grammar) → NoFault g → firsts_in g q ≡ firsts_in g v
  firsts_kept g clean =
      let m = nonterminal_count_below g clean in
      each_same (load_set q.sets) (load_set v.sets) 0 (nonterminal_count g) (λ slot h l. only.slots slot (omega arith))

  item_same : (k : ℕ) → (entry_in q k).item ≡ (entry_in v k).item
  unfolding entry_in
  item_same k = ap (λ (r : Room). (entry_in r k).item) only.others

  next_same : (k : ℕ) → (entry_in q k).next ≡ (entry_in v k).next
  unfolding entry_in
  next_same k = ap (λ (r : Room). (entry_in r k).next) only.others

  links_same : (s : ℕ) → links_in q s ≡ links_in v s
  unfolding links_in
  links_same s = ap (λ (r : Room). links_in r s) only.others

  pub linked_kept : (bytes : List ℕ) (count : ℕ) → Linked bytes count v → Linked bytes count q
  linked_kept bytes count linked = record { each = λ p h. record { seen = λ k place. seen p k h place } }
    where
      seen : (p k : ℕ) → p < count → PlaceOf q p k → Seen bytes q p k
      seen p k h place f low =
          let a = first_same v q firsts_same p in
          let b = first_same v q firsts_same (p + 1) in
          let there = (linked.each p h).seen k (record { from = omega (arith, place.from); to = omega (arith, place.to) }) in
          rw (next_same k, links_same (entry_in v k).next) (there (rw (item_same k) at f) (rw (next_same k) at low))

  pub sized_kept : Lengths v → Lengths q
  sized_kept sized = record {
    entries_length = ap length entries_same ∙ sized.entries_length;
    first_entries_length_lem = ap length firsts_same ∙ sized.first_entries_length_lem;
    visited_length = only.visited_words_lem ∙ sized.visited_length;
    entered_length = only.entered_words ∙ sized.entered_length;
    successors_length = only.successor_words_lem ∙ sized.successors_length;
    origins_length = ap (λ (r : Room). length r.origins) only.others ∙ sized.origins_length;
    heads_length = ap (λ (r : Room). length r.heads) only.others ∙ sized.heads_length;
    walked_length = ap (λ (r : Room). length r.walked) only.others ∙ sized.walked_length;
    actions_length = ap (λ (r : Room). length r.actions) only.others ∙ sized.actions_length;
    sets_length = only.set_words ∙ sized.sets_length;
  }
