-- The closure of the state at hand in the room: the set of nonterminal a lies in its closure slot.
use Rattle.std.specs.Prelude.{ℕ, ◌≤◌, ◌<◌, ◌≡◌, Bool, true, false, not, List, [], length, replicate}
use Rattle.rules.specs.declared.Mode.{Mode}
use Rattle.rules.specs.declared.Mode.TheVariants.{Lane, Canonical}
use Rattle.rules.specs.Limits.{max_bytes}
use Rattle.rules.specs.Records.{Grammar, at, records}
use Rattle.base.specs.Each.{each_from}
use Rattle.base.specs.Pick.{pick}
use Rattle.base.specs.Loops.{until}
use Rattle.rules.specs.Grammar.{at_start, nonterminal_count}
use Rattle.rules.specs.First.{Sets, set_of, first1}
use Rattle.rules.specs.States.{Entry, Follow, closes, hands_on, close_item, item_closed, close_kernel, close_left_sides, closure_settled, closure_sets}
use Rattle.grammar.specs.Asked.{Faultless}
use Rattle.room.specs.Areas.{Room, with_sets, view}
use Rattle.room.specs.Bounds.{LongEnough, FewTerminals}
use Rattle.room.specs.Slots.{closure_slot, hand_slot}
use Rattle.lookahead.specs.Sets.{load_set, set_at, put_set}
use Rattle.first.specs.Firsts.{firsts_in}
use Rattle.states.specs.StatesIn.{run_in}

-- the sets of the grammar's nonterminals
abbrev pub closures_in : Grammar → Room → Sets
closures_in g r = each_from (load_set r.sets) (closure_slot 0) (nonterminal_count g)

-- ---- whether the states of a mode are closed as canonical ones; those of lane mode are closed as LR(0) states
abbrev pub is_canonical : Mode → Bool
is_canonical Lane = false
is_canonical Canonical = true

-- ---- what the items of a nonterminal get from an entry: in canonical states by `first1`, in LR(0) states what the entry has
unfoldable pub follow_of : Bool → ℕ → Sets → Follow
unfolding first1
follow_of true n firsts = first1 n firsts
follow_of false n firsts = λ xs s. s

-- with FIRST as it lies in the room
abbrev pub follow_in : Grammar → Bool → ℕ → Room → Follow
follow_in g canonical n r = follow_of canonical n (firsts_in g r)

-- with what item i, whose set is that of the slot `from`, hands on as the set at hand
abbrev pub handed_on : List ℕ → Bool → ℕ → ℕ → ℕ → Room → Room
handed_on bytes canonical n i from r = put_set hand_slot (hands_on (records bytes) (follow_in (records bytes) canonical n r) i (set_at r from)) r

-- ---- the item of an entry closes, with the entry's set
unfoldable pub entry_closes : Grammar → Entry → Bool
unfolding closes
entry_closes g e = closes g e.item e.set

-- ---- the left-side record i, with the set of its nonterminal
unfoldable pub close_left_side : Grammar → Follow → ℕ → Sets → Sets
unfolding close_item set_of at
close_left_side g follow i sets = close_item g follow i (set_of sets (at g i).symbol) sets

unfoldable pub left_side_closed : Grammar → Follow → Sets → ℕ → Bool
unfolding item_closed set_of at
left_side_closed g follow sets i = item_closed g follow sets i (set_of sets (at g i).symbol)

-- ---- what closing asks of the grammar's bytes, of the number of its terminals and of the room
pub record Closable (bytes : List ℕ) (n : ℕ) (work : List ℕ) : Type 0 where
  pub clean : Faultless bytes
  pub short : length bytes ≤ max_bytes
  pub few : FewTerminals n
  pub long : LongEnough work

-- ---- what it leaves: q is v but for the sets of the closure and the set at hand
pub record OnlyClosures (g : Grammar) (v q : Room) : Type 0 where
  pub others : with_sets [] q ≡ with_sets [] v
  pub words : length q.sets ≡ length v.sets
  pub firsts : (slot : ℕ) → slot < closure_slot 0 → set_at q slot ≡ set_at v slot
  pub behind : (slot : ℕ) → closure_slot (nonterminal_count g) ≤ slot → (slot ≡ hand_slot → ⊥) → set_at q slot ≡ set_at v slot

-- item i handed on the set of the slot `from`
pub record ItemCloses (bytes : List ℕ) (canonical : Bool) (n i from : ℕ) (work after : List ℕ) (lacked : Bool) : Type 0 where
  pub found : closures_in (records bytes) (view after) ≡ close_item (records bytes) (follow_in (records bytes) canonical n (view work)) i (set_at (view work) from) (closures_in (records bytes) (view work))
  pub only : OnlyClosures (records bytes) (view work) (view after)
  pub said : lacked ≡ not (item_closed (records bytes) (follow_in (records bytes) canonical n (view work)) (closures_in (records bytes) (view work)) i (set_at (view work) from))

-- one record was looked at, and did so if it is a left side
pub record LeftSideCloses (bytes : List ℕ) (canonical : Bool) (n i : ℕ) (work after : List ℕ) (lacked : Bool) : Type 0 where
  pub found : closures_in (records bytes) (view after) ≡ pick (at_start (records bytes) i) (close_left_side (records bytes) (follow_in (records bytes) canonical n (view work)) i (closures_in (records bytes) (view work))) (closures_in (records bytes) (view work))
  pub only : OnlyClosures (records bytes) (view work) (view after)
  pub said : lacked ≡ pick (at_start (records bytes) i) (not (left_side_closed (records bytes) (follow_in (records bytes) canonical n (view work)) (closures_in (records bytes) (view work)) i)) false

-- every left side did, once
pub record LeftSidesClose (bytes : List ℕ) (canonical : Bool) (n : ℕ) (work after : List ℕ) (lacked : Bool) : Type 0 where
  pub found : closures_in (records bytes) (view after) ≡ close_left_sides (records bytes) (follow_in (records bytes) canonical n (view work)) (closures_in (records bytes) (view work))
  pub only : OnlyClosures (records bytes) (view work) (view after)
  pub said : lacked ≡ not (closure_settled (records bytes) (follow_in (records bytes) canonical n (view work)) (closures_in (records bytes) (view work)))

-- and again until nothing was lacking, at most `bound` times
pub record RoundsClose (bytes : List ℕ) (canonical : Bool) (n bound : ℕ) (work after : List ℕ) : Type 0 where
  pub found : closures_in (records bytes) (view after) ≡ until (closure_settled (records bytes) (follow_in (records bytes) canonical n (view work))) (close_left_sides (records bytes) (follow_in (records bytes) canonical n (view work))) bound (closures_in (records bytes) (view work))
  pub only : OnlyClosures (records bytes) (view work) (view after)

-- every entry of the run handed on its set
pub record KernelCloses (bytes : List ℕ) (canonical : Bool) (n first end : ℕ) (work after : List ℕ) : Type 0 where
  pub found : closures_in (records bytes) (view after) ≡ close_kernel (records bytes) (follow_in (records bytes) canonical n (view work)) (run_in (view work) first end) (closures_in (records bytes) (view work))
  pub only : OnlyClosures (records bytes) (view work) (view after)

-- no nonterminal has a set
pub record ClosuresCleared (bytes : List ℕ) (m : ℕ) (work after : List ℕ) : Type 0 where
  pub found : closures_in (records bytes) (view after) ≡ replicate m 0
  pub only : OnlyClosures (records bytes) (view work) (view after)

-- the sets are those of the closure of the kernel that lies in the run, and the set at hand is empty
pub record ClosureFound (bytes : List ℕ) (canonical : Bool) (n first end : ℕ) (work after : List ℕ) : Type 0 where
  pub found : closures_in (records bytes) (view after) ≡ closure_sets (records bytes) (follow_in (records bytes) canonical n (view work)) (run_in (view work) first end)
  pub only : OnlyClosures (records bytes) (view work) (view after)
  pub cleared : set_at (view after) hand_slot ≡ 0
