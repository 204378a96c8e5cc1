-- The kernels of the states in the room. A state's kernel is what the entries of its parent become over a symbol: the parent and that
-- symbol are kept for each state but state 0, whose kernel is the start item.
use Rattle.std.specs.Prelude.{ℕ, ◌-◌, ◌≤◌, ◌<◌, ◌≡◌, Bool, false, ◌&&◌, List, [], ◌∷◌, length, get_or, eqb, Option}
use Rattle.base.specs.Pick.{pick}
use Rattle.base.specs.Each.{each_from}
use Rattle.base.specs.Loops.{first_from, place_below}
use Rattle.base.specs.Lists.{place_of, is_empty}
use Rattle.rules.specs.Limits.{max_states}
use Rattle.rules.specs.Records.{Grammar, records}
use Rattle.rules.specs.Tokens.{TokenSet}
use Rattle.rules.specs.Grammar.{Symbol, nonterminal, terminal, is_before}
use Rattle.rules.specs.States.{Entry, State, kernel_over, same_kernel}
use Rattle.room.specs.Areas.{Room, view}
use Rattle.grammar.specs.Asked.{InRange}
use Rattle.room.specs.Bounds.{LongEnough, IsEntry}
use Rattle.packed.specs.Packed.{low, middle, high}
use Rattle.states.specs.StatesIn.{entry_in, run_in, state_in, PlacedAt, Placed}

-- a symbol by the number of its kind, 0 nonterminal and 1 terminal, as a parent's word has it, and its own number
unfoldable pub symbol_by : ℕ → ℕ → Symbol
symbol_by kind x = pick (eqb kind 1) (terminal x) (nonterminal x)

-- the entry at a place stands before the symbol, and the first place from k on where one does, or the end if none does
unfoldable pub stands_before : Grammar → Symbol → Room → ℕ → Bool
unfolding is_before entry_in
stands_before g x r k = is_before g x (entry_in r k).item

unfoldable pub first_before : Grammar → Symbol → Room → ℕ → ℕ → ℕ
unfolding first_from stands_before
first_before g x r k end = first_from (stands_before g x r) (end - k) k

unfoldable pub same_entry : Entry → Entry → Bool
same_entry e f = eqb e.item f.item && eqb e.set f.set

-- ---- the kernels
abbrev pub parent_word : Room → ℕ → ℕ
parent_word r t = get_or r.visited t 0

abbrev pub parent_of : Room → ℕ → ℕ
parent_of r t = low (parent_word r t)

abbrev pub parent_symbol : Room → ℕ → Symbol
parent_symbol r t = symbol_by (high (parent_word r t)) (middle (parent_word r t))

-- ---- what the entries of a run, and those of state s, become over a symbol; and the kernel of a state t that has a parent
abbrev pub run_kernel : List ℕ → Symbol → Room → ℕ → ℕ → State
run_kernel bytes x r first end = kernel_over (records bytes) x (run_in r first end)

abbrev pub state_kernel : List ℕ → Symbol → Room → ℕ → State
state_kernel bytes x r s = kernel_over (records bytes) x (state_in r s)

abbrev pub own_kernel : List ℕ → Room → ℕ → State
own_kernel bytes r t = kernel_over (records bytes) (parent_symbol r t) (state_in r (parent_of r t))

-- state 0 begins with the set s
unfoldable pub kernel_in : Grammar → TokenSet → Room → ℕ → State
unfolding kernel_over state_in symbol_by
kernel_in g s r t = pick (eqb t 0) (record { item = 0; next = 0; set = s } ∷ []) (kernel_over g (parent_symbol r t) (state_in r (parent_of r t)))

unfoldable pub kernels_in : Grammar → TokenSet → Room → ℕ → List State
unfolding each_from kernel_in
kernels_in g s r count = each_from (kernel_in g s r) 0 count

-- ---- what reading an entry asks
pub record ReadableEntry (bytes work : List ℕ) (k : ℕ) : Type 0 where
  pub long : LongEnough work
  pub place : IsEntry k
  pub item : InRange (entry_in (view work) k).item bytes

-- ---- what reading the kernels asks: so many states are closed, and the parent of each of `count` states is one of those
pub record Parented (bytes : List ℕ) (closed count : ℕ) (work : List ℕ) : Type 0 where
  pub long : LongEnough work
  pub few : count ≤ max_states
  pub placed : Placed (length (records bytes)) closed (view work)
  pub parents : (t : ℕ) → 0 < t → t < count → parent_of (view work) t < closed
  pub kinds : (t : ℕ) → 0 < t → t < count → high (parent_word (view work) t) < 2

-- the entries of state s have something to become over the symbol
abbrev pub HasKernel : Grammar → Symbol → Room → ℕ → Type 0
HasKernel g x r s = is_empty (kernel_over g x (state_in r s)) ≡ false

-- and what the comparison with one of them asks
pub record Comparable (bytes : List ℕ) (x : Symbol) (s t : ℕ) (work : List ℕ) : Type 0 where
  pub long : LongEnough work
  pub states : (s < max_states) × (t < max_states) × (parent_of (view work) t < max_states)
  pub own : PlacedAt (length (records bytes)) (view work) s
  pub other : PlacedAt (length (records bytes)) (view work) (parent_of (view work) t)
  pub some : HasKernel (records bytes) x (view work) s

-- the place of that kernel among those of the `count` states, whatever set state 0 begins with; none if no state has it
pub record KernelPlace (bytes : List ℕ) (x : Symbol) (s count : ℕ) (work : List ℕ) (place : Option ℕ) : Type 0 where
  pub found : (start : TokenSet) → place ≡ place_below count (place_of (same_kernel (state_kernel bytes x (view work) s)) (kernels_in (records bytes) start (view work) count))
