-- What a turn of the construction promises: the next state's kernel is written, closed, and its transitions are added.
use Rattle.std.specs.Prelude.{ℕ, ◌+◌, ◌≤◌, ◌<◌, ◌≡◌, Bool, true, not, List, [], length, ltb, Option, Result}
use Rattle.rules.specs.declared.BuildRefusal.{BuildRefusal}
use Rattle.rules.specs.Limits.{limits, max_entries}
use Rattle.rules.specs.Records.{records}
use Rattle.rules.specs.Tokens.{TokenSet}
use Rattle.rules.specs.States.{State, closure, expand_next}
use Rattle.room.specs.Areas.{Room, view, with_entries, with_first_entries, with_sets}
use Rattle.room.specs.Slots.{closure_slot, entry_slot, hand_slot}
use Rattle.lookahead.specs.Sets.{set_at}
use Rattle.states.specs.StatesIn.{entry_in, first_of, state_in, Placed}
use Rattle.closures.specs.Closures.{follow_in}
use Rattle.closures.specs.Runs.{AppendedRun}
use Rattle.lr.specs.Kernels.{own_kernel, kernel_in}
use Rattle.lr.specs.Expansions.{StillParented}
use Rattle.collection.specs.Collections.{start_of, collection_in, collected_to, OnlyCollected}

-- ---- the kernel of state s was appended behind the states before it: that of a state with a parent, and that of any state
abbrev pub OwnAppended : List ℕ → ℕ → Room → Room → Option ℕ → Type 0
OwnAppended bytes s v q r = AppendedRun (first_of v s) (own_kernel bytes v s) v q r

abbrev pub KernelAppended : List ℕ → TokenSet → ℕ → Room → Room → Option ℕ → Type 0
KernelAppended bytes start s v q r = AppendedRun (first_of v s) (kernel_in (records bytes) start v s) v q r

-- ---- and closed
abbrev pub closed_next : List ℕ → Bool → ℕ → ℕ → Room → State
closed_next bytes canonical n s r = closure (records bytes) (follow_in (records bytes) canonical n r) (kernel_in (records bytes) (start_of canonical n) r s)

-- its entries do not pass the limit
abbrev pub next_fits : List ℕ → Bool → ℕ → ℕ → Room → Bool
next_fits bytes canonical n s r = not (ltb max_entries (first_of r s + length (closed_next bytes canonical n s r)))

-- q is v but for what lies behind the first s states, the sets of the closure and the set at hand
pub record OnlyNext (v q : Room) (s : ℕ) : Type 0 where
  pub others : with_entries [] (with_first_entries [] (with_sets [] q)) ≡ with_entries [] (with_first_entries [] (with_sets [] v))
  pub entries : (k : ℕ) → k < first_of v s → entry_in q k ≡ entry_in v k
  pub places : (t : ℕ) → t ≤ s → first_of q t ≡ first_of v t
  pub firsts : (slot : ℕ) → slot < closure_slot 0 → set_at q slot ≡ set_at v slot
  pub cells : (slot : ℕ) → entry_slot max_entries ≤ slot → (slot ≡ hand_slot → ⊥) → set_at q slot ≡ set_at v slot

pub record ClosesNext (bytes : List ℕ) (canonical : Bool) (n s : ℕ) (work after : List ℕ) (fits : Bool) : Type 0 where
  pub fitted : fits ≡ next_fits bytes canonical n s (view work)
  pub state : fits ≡ true → state_in (view after) s ≡ closed_next bytes canonical n s (view work)
  pub placed : fits ≡ true → Placed (length (records bytes)) (s + 1) (view after)
  pub only : OnlyNext (view work) (view after) s

-- ---- and its transitions were added
pub record ExpandsNext (bytes : List ℕ) (canonical : Bool) (n s count : ℕ) (work after : List ℕ) (r : Result ℕ BuildRefusal) : Type 0 where
  pub outcome : collected_to (records bytes) (start_of canonical n) (view after) (s + 1) r
      ≡ expand_next limits (records bytes) (follow_in (records bytes) canonical n (view work)) (collection_in (records bytes) (start_of canonical n) (view work) s count)
  pub only : OnlyCollected (view work) (view after)
  pub left : StillParented bytes s count r after
