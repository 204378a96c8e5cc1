-- States: kernels, closures, transitions, and the conflict count.
--
-- A state is a list of entries: an item, its set, and the state that the symbol behind its dot leads to. The closure adds to a
-- kernel the left-side records of every nonterminal that stands behind a dot, ascending; all productions of a nonterminal share
-- one set within a closure. A kernel is what a state's entries become over a symbol, with the dot moved, so equal kernels are
-- equal lists.
--
-- The two modes differ in one function, `follow`: what the items of a nonterminal get from an entry, by the symbols behind that
-- nonterminal and the entry's set. Canonical states begin with Eof and follow by `first1`. LR(0) states begin with `all` and hand
-- it on, so that every reduction has `all` and an equal kernel is one with equal items.
--
-- S→A, A→a: state 0 has the items S→·A and A→·a, state 1 S→A·, state 2 A→a·.
use Rattle.std.specs.Prelude.{ℕ, zero, suc, ◌+◌, ◌*◌, Bool, true, false, ◌&&◌, ◌||◌, not, List, [], ◌∷◌, ◌++◌, map, length, get_or, replicate, eqb, ltb}
use Rattle.base.specs.Pick.{pick}
use Rattle.base.specs.Loops.{until}
use Rattle.base.specs.Lists.{up_to, sum, keep, some_of, each_of, place_of, fold_over, is_empty}
use Rattle.rules.specs.Limits.{Limits}
use Rattle.rules.specs.Records.{Grammar, at, is_terminal}
use Rattle.rules.specs.Tokens.{TokenSet, has, is_empty_set, disjoint, within, eof, all}
use Rattle.rules.specs.Grammar.{Symbol, nonterminal, terminal, at_end, is_before, symbols_behind, left_sides, terminal_count, nonterminal_count}
use Rattle.rules.specs.First.{Sets, set_of, join_at, first1, first_sets}
use Rattle.rules.specs.declared.BuildRefusal.{BuildRefusal}
use Rattle.rules.specs.declared.BuildRefusal.TheVariants.{States as TooManyStates, Items as TooManyItems, Conflicts}

pub record Entry : Type 0 where
  pub item : ℕ
  -- of an entry with a symbol behind its dot; 0 before it is known, and at a completed item
  pub next : ℕ
  pub set : TokenSet

abbrev pub State : Type 0
State = List Entry

-- a part of the construction, done or refused
pub data Outcome (A : Type 0) : Type 0 where
  done : A → Outcome A
  refused : BuildRefusal → Outcome A

-- a step for each, as long as none refuses
unfoldable pub each_in_turn : {A B : Type 0} → (A → B → Outcome B) → List A → B → Outcome B
each_in_turn step [] b = done b
each_in_turn step (x ∷ xs) b = elim (step x b) [ done b' ↦ each_in_turn step xs b' | refused why ↦ refused why ]

-- ---- closure
abbrev pub Follow : Type 0
Follow = List Symbol → TokenSet → TokenSet

-- item i, with that set, has a nonterminal behind its dot; the empty set means that the item is absent
unfoldable pub closes : Grammar → ℕ → TokenSet → Bool
unfolding is_empty_set at_end is_terminal at
closes g i s = not (is_empty_set s) && (not (at_end g i) && not (is_terminal (at g (i + 1))))

-- what item i hands on to the items of that nonterminal
unfoldable pub hands_on : Grammar → Follow → ℕ → TokenSet → TokenSet
unfolding symbols_behind
hands_on g follow i s = follow (symbols_behind g (i + 1)) s

unfoldable pub close_item : Grammar → Follow → ℕ → TokenSet → Sets → Sets
unfolding closes join_at at hands_on
close_item g follow i s sets = pick (closes g i s) (join_at (at g (i + 1)).symbol (hands_on g follow i s) sets) sets

-- what item i hands on is there
unfoldable pub item_closed : Grammar → Follow → Sets → ℕ → TokenSet → Bool
unfolding closes within set_of at hands_on
item_closed g follow sets i s = not (closes g i s) || within (hands_on g follow i s) (set_of sets (at g (i + 1)).symbol)

unfoldable pub close_kernel : Grammar → Follow → State → Sets → Sets
unfolding fold_over close_item
close_kernel g follow kernel sets = fold_over (λ e sets. close_item g follow e.item e.set sets) kernel sets

-- the left-side record i has the set of its nonterminal
unfoldable pub close_left_sides : Grammar → Follow → Sets → Sets
unfolding fold_over close_item left_sides set_of at
close_left_sides g follow sets = fold_over (λ i sets. close_item g follow i (set_of sets (at g i).symbol) sets) (left_sides g) sets

unfoldable pub closure_settled : Grammar → Follow → Sets → Bool
unfolding each_of item_closed set_of at left_sides
closure_settled g follow sets = each_of (λ i. item_closed g follow sets i (set_of sets (at g i).symbol)) (left_sides g)

-- the set of every nonterminal in the closure of a kernel. A round that is not the last adds one of n + 1 tokens to one of m sets,
-- so m (n + 1) rounds suffice
unfoldable pub closure_sets : Grammar → Follow → State → Sets
unfolding until closure_settled close_left_sides close_kernel terminal_count nonterminal_count
closure_sets g follow kernel =
    let m : ℕ = nonterminal_count g in
    until (closure_settled g follow) (close_left_sides g follow) (m * (terminal_count g + 1)) (close_kernel g follow kernel (replicate m 0))

unfoldable pub entry_of : Grammar → Sets → ℕ → Entry
unfolding set_of at
entry_of g sets i = record { item = i; next = 0; set = set_of sets (at g i).symbol }

-- build/mod.rs: transitive_closure
unfoldable pub closure : Grammar → Follow → State → State
unfolding closure_sets keep entry_of is_empty_set left_sides
closure g follow kernel =
    let sets : Sets = closure_sets g follow kernel in
    kernel ++ keep (λ e. not (is_empty_set e.set)) (map (entry_of g sets) (left_sides g))

-- ---- transitions
-- what the entries become over x
unfoldable pub kernel_over : Grammar → Symbol → State → State
unfolding keep is_before
kernel_over g x state = map (λ e. record { item = e.item + 1; next = 0; set = e.set }) (keep (λ e. is_before g x e.item) state)

unfoldable pub same_kernel : State → State → Bool
same_kernel [] [] = true
same_kernel [] (f ∷ fs) = false
same_kernel (e ∷ es) [] = false
same_kernel (e ∷ es) (f ∷ fs) = (eqb e.item f.item && eqb e.set f.set) && same_kernel es fs

-- the symbols in the order of transitions: nonterminals, then terminals, each ascending
unfoldable pub symbols : Grammar → List Symbol
unfolding up_to terminal_count nonterminal_count
symbols g = map nonterminal (up_to (nonterminal_count g)) ++ map terminal (up_to (terminal_count g))

-- every entry before x leads to state s
unfoldable pub lead : Grammar → Symbol → ℕ → State → State
unfolding is_before
lead g x s state = map (λ e. record { item = e.item; next = pick (is_before g x e.item) s e.next; set = e.set }) state

-- the kernels of the states added so far, in order of number; and the entries of the state that is being expanded
pub record Expansion : Type 0 where
  pub kernels : List State
  pub entries : State

-- the transition over x: an equal kernel is reused, else it gets the next number, and 9 is met there
unfoldable pub add_transition : Limits → Grammar → Symbol → Expansion → Outcome Expansion
unfolding kernel_over is_empty place_of same_kernel lead
add_transition l g x e =
    let kernel : State = kernel_over g x e.entries in
    let s : ℕ = place_of (same_kernel kernel) e.kernels in
    let led : State = lead g x s e.entries in
    let known : Bool = ltb s (length e.kernels) in
    let full : Bool = eqb s l.states in
    let added : Outcome Expansion = pick full (refused TooManyStates) (done (record { kernels = e.kernels ++ (kernel ∷ []); entries = led })) in
    let reused : Outcome Expansion = pick known (done (record { kernels = e.kernels; entries = led })) added in
    pick (is_empty kernel) (done e) reused

-- ---- the collection
pub record Collection : Type 0 where
  -- of every state added
  pub kernels : List State
  -- the states expanded, which are the first ones
  pub states : List State

-- the closed items of all states together
unfoldable pub item_count : List State → ℕ
unfolding sum
item_count states = sum (map length states)

unfoldable pub expanded : List State → Outcome Expansion → Outcome Collection
expanded states (done e) = done (record { kernels = e.kernels; states = states ++ (e.entries ∷ []) })
expanded states (refused why) = refused why

-- the next state is closed, where 10 is met, and then its transitions are added
unfoldable pub expand_next : Limits → Grammar → Follow → Collection → Outcome Collection
unfolding closure item_count each_in_turn add_transition symbols expanded
expand_next l g follow c =
    let state : State = closure g follow (get_or c.kernels (length c.states) []) in
    let more : Outcome Collection = expanded c.states (each_in_turn (add_transition l g) (symbols g) (record { kernels = c.kernels; entries = state })) in
    pick (ltb l.items (item_count c.states + length state)) (refused TooManyItems) more

-- each turn expands one state, and there are never more than the limit, so that many turns and one to see the end suffice
unfoldable pub expand_all : Limits → Grammar → Follow → ℕ → Collection → Outcome (List State)
unfolding expand_next
expand_all l g follow zero c = done c.states
expand_all l g follow (suc fuel) c =
    elim (ltb (length c.states) (length c.kernels)) [
      | true ↦ elim (expand_next l g follow c) [ done c' ↦ expand_all l g follow fuel c' | refused why ↦ refused why ]
      | false ↦ done c.states
    ]

-- state 0 has the start production at dot 0; build/mod.rs: build_states
unfoldable pub states_from : Limits → Grammar → Follow → TokenSet → Outcome (List State)
unfolding expand_all
states_from l g follow s =
    expand_all l g follow (l.states + 1) (record { kernels = (record { item = 0; next = 0; set = s } ∷ []) ∷ []; states = [] })

unfoldable pub canonical_states : Limits → Grammar → Outcome (List State)
unfolding states_from first1 first_sets eof terminal_count
canonical_states l g =
    let sets : Sets = first_sets g in
    let n : ℕ = terminal_count g in
    states_from l g (first1 n sets) (eof n)

unfoldable pub lr0_states : Limits → Grammar → Outcome (List State)
unfolding states_from all terminal_count
lr0_states l g = states_from l g (λ xs s. s) (all (terminal_count g))

-- ---- conflicts
-- the completed entries
unfoldable pub reductions : Grammar → State → List Entry
unfolding keep at_end
reductions g state = keep (λ e. at_end g e.item) state

-- the terminals shifted, ascending
unfoldable pub shifts : Grammar → State → List ℕ
unfolding keep some_of is_before up_to terminal_count
shifts g state = keep (λ t. some_of (λ e. is_before g (terminal t) e.item) state) (up_to (terminal_count g))

-- how many of the entries hold terminal t, and how many meet the set s
unfoldable pub holding : ℕ → List Entry → ℕ
unfolding keep has
holding t entries = length (keep (λ e. has e.set t) entries)

unfoldable pub meeting : TokenSet → List Entry → ℕ
unfolding keep disjoint
meeting s entries = length (keep (λ e. not (disjoint s e.set)) entries)

-- one for each pair of reductions whose sets meet
unfoldable pub meeting_pairs : List Entry → ℕ
unfolding meeting
meeting_pairs [] = 0
meeting_pairs (e ∷ es) = meeting e.set es + meeting_pairs es

-- and one for each shifted terminal and reduction whose set holds it; lookahead.rs: conflicts
unfoldable pub conflicts_at : Grammar → State → ℕ
unfolding reductions shifts sum holding meeting_pairs
conflicts_at g state =
    let completed : List Entry = reductions g state in
    sum (map (λ t. holding t completed) (shifts g state)) + meeting_pairs completed

-- over all states as they stand
unfoldable pub conflict_count : Grammar → List State → ℕ
unfolding sum conflicts_at
conflict_count g states = sum (map (conflicts_at g) states)

-- ---- canonical mode: the conflicts are counted after the last state
unfoldable pub unless_conflict : Grammar → Outcome (List State) → Outcome (List State)
unfolding conflict_count
unless_conflict g (done states) = pick (eqb (conflict_count g states) 0) (done states) (refused (Conflicts (conflict_count g states)))
unless_conflict g (refused why) = refused why

unfoldable pub canonical : Limits → Grammar → Outcome (List State)
unfolding unless_conflict canonical_states
canonical l g = unless_conflict g (canonical_states l g)
