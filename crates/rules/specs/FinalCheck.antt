-- The final check of lane mode: least sets over the states reachable from 0, and the lowest state that fails.
--
-- The start item has Eof; a closure hands on by `first1`; a moved dot carries its set along. The least sets are kept in states of their
-- own, with the same items and links. A state that is not reached has only empty sets there, and a reduction lacks no token of those.
use Rattle.std.specs.Prelude.{ℕ, ◌+◌, ◌*◌, Bool, false, ◌&&◌, ◌||◌, length, get_or, set, eqb, ltb}
use Rattle.std.proofs.Math.Bool.{not}
use mathlib.Core.List.{List, [], ◌∷◌, map}
use Rattle.base.specs.Pick.{pick}
use Rattle.base.specs.Loops.{first_from, until}
use Rattle.base.specs.Lists.{up_to, each_of, fold_over}
use Rattle.rules.specs.Records.{Grammar, at}
use Rattle.rules.specs.Tokens.{TokenSet, is_empty_set, join, within, eof}
use Rattle.rules.specs.Grammar.{at_end, is_left_side_of, terminal_count}
use Rattle.rules.specs.First.{Sets, first1, first_sets}
use Rattle.rules.specs.States.{Entry, State, Outcome, done, refused, closes, hands_on, item_count, conflicts_at}
use Rattle.rules.specs.declared.BuildRefusal.TheVariants.{FinalCheck}

-- ---- tokens handed on to entries
abbrev pub with_set : TokenSet → Entry → Entry
with_set s e = record { item = e.item; next = e.next; set = s }

-- the entries whose items pass the test have the tokens, and are given them
unfoldable pub have_set : (ℕ → Bool) → TokenSet → State → Bool
unfolding each_of within
have_set test s state = each_of (λ e. not (test e.item) || within s e.set) state

unfoldable pub give_set : (ℕ → Bool) → TokenSet → State → State
unfolding join
give_set test s state = map (λ e. pick (test e.item) (with_set (join e.set s) e) e) state

unfoldable pub have_at : List State → ℕ → (ℕ → Bool) → TokenSet → Bool
unfolding have_set
have_at least s test tokens = have_set test tokens (get_or least s [])

unfoldable pub give_at : ℕ → (ℕ → Bool) → TokenSet → List State → List State
unfolding give_set
give_at s test tokens least = set least s (give_set test tokens (get_or least s []))

-- entry k of state s, with the set that it has by now
unfoldable pub entry_at : List State → ℕ → ℕ → Entry
entry_at least s k = get_or (get_or least s []) k (record { item = 0; next = 0; set = 0 })

-- the entry has a set, and a symbol behind its dot
unfoldable pub moves : Grammar → Entry → Bool
unfolding is_empty_set at_end
moves g e = not (is_empty_set e.set) && not (at_end g e.item)

-- item j is one of the nonterminal behind the dot of item i
unfoldable pub is_behind_dot : Grammar → ℕ → ℕ → Bool
unfolding is_left_side_of at
is_behind_dot g i j = is_left_side_of g (at g (i + 1)).symbol j

-- state 0's start item has Eof, every other entry nothing
unfoldable pub least_begun : Grammar → List State → List State
unfolding give_at eof terminal_count
least_begun g states = give_at 0 (eqb 0) (eof (terminal_count g)) (map (map (with_set 0)) states)

-- some reduction lacks a token of its least set
unfoldable pub lacks : Grammar → State → State → Bool
unfolding at_end within
lacks g [] least = false
lacks g (e ∷ es) [] = false
lacks g (e ∷ es) (f ∷ fs) = (at_end g e.item && not (within f.set e.set)) || lacks g es fs

unfoldable pub fails_at : Grammar → List State → List State → ℕ → Bool
unfolding lacks conflicts_at
fails_at g states least s = lacks g (get_or states s []) (get_or least s []) || not (eqb (conflicts_at g (get_or states s [])) 0)

module _ (g : Grammar) (sets : Sets) where
  -- what an entry hands on to the items of the nonterminal behind its dot
  unfoldable pub closing : Entry → TokenSet
  unfolding hands_on first1 terminal_count
  closing e = hands_on g (first1 (terminal_count g) sets) e.item e.set

  -- the moved dot of an entry has its set; the items of the nonterminal behind its dot have what it hands on
  unfoldable pub entry_moved : List State → Entry → Bool
  unfolding moves have_at
  entry_moved least e = not (moves g e) || have_at least e.next (eqb (e.item + 1)) e.set

  unfoldable pub entry_closed : List State → ℕ → Entry → Bool
  unfolding closes closing is_behind_dot have_at
  entry_closed least s e = not (closes g e.item e.set) || have_at least s (is_behind_dot g e.item) (closing e)

  unfoldable pub entry_settled : List State → ℕ → Entry → Bool
  unfolding entry_moved entry_closed
  entry_settled least s e = entry_moved least e && entry_closed least s e

  -- entry k of state s hands on, with the set that it has by now
  unfoldable pub move_entry : ℕ → ℕ → List State → List State
  unfolding entry_at moves give_at
  move_entry s k least =
      let e : Entry = entry_at least s k in
      pick (moves g e) (give_at e.next (eqb (e.item + 1)) e.set least) least

  unfoldable pub close_entry : ℕ → ℕ → List State → List State
  unfolding entry_at closes closing is_behind_dot give_at
  close_entry s k least =
      let e : Entry = entry_at least s k in
      pick (closes g e.item e.set) (give_at s (is_behind_dot g e.item) (closing e) least) least

  unfoldable pub settle_entry : ℕ → ℕ → List State → List State
  unfolding move_entry close_entry
  settle_entry s k least = close_entry s k (move_entry s k least)

  unfoldable pub settle_state : ℕ → List State → List State
  unfolding fold_over settle_entry up_to
  settle_state s least = fold_over (settle_entry s) (up_to (length (get_or least s []))) least

  -- of the states below count
  unfoldable pub least_settled : ℕ → List State → Bool
  unfolding each_of entry_settled up_to
  least_settled count least = each_of (λ s. each_of (entry_settled least s) (get_or least s [])) (up_to count)

  unfoldable pub least_round : ℕ → List State → List State
  unfolding fold_over settle_state up_to
  least_round count least = fold_over settle_state (up_to count) least

  -- a round that is not the last adds one of n + 1 tokens to the set of an entry, so as many rounds suffice as there are pairs of
  -- entry and token
  unfoldable pub least_sets : List State → List State
  unfolding until least_settled least_round least_begun item_count terminal_count
  least_sets states = until (least_settled (length states)) (least_round (length states)) (item_count states * (terminal_count g + 1)) (least_begun g states)

  -- ---- the lowest state that fails
  unfoldable pub first_failing : List State → ℕ
  unfolding first_from fails_at least_sets
  first_failing states = let least : List State = least_sets states in first_from (fails_at g states least) (length states) 0

unfoldable pub checked : Grammar → Outcome (List State) → Outcome (List State)
unfolding first_failing first_sets
checked g (done states) =
    let s : ℕ = first_failing g (first_sets g) states in
    pick (ltb s (length states)) (refused (FinalCheck (record { 0 = s }))) (done states)
checked g (refused why) = refused why
