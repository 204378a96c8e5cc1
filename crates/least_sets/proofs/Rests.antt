-- What is lacking, and that a step by which nothing was lacking changes nothing.
use Prim.Native.Nat.{ℕ, zero, suc, ◌+◌, ◌-◌, ◌<◌, ◌≤◌}
use mathlib.Core.Path.{◌≡◌, refl, sym, ap, ap₂, ◌∙◌}
use mathlib.Core.Bool.{Bool, true, false, not, ◌&&◌, ◌||◌, false≢true}
use mathlib.Core.List.{List, [], ◌∷◌}
use borrow.Author.Tests.{not-false}
use lib.ListN.{length, get_or}
use lib.Dec.{eqb}
use lib.Seq.{set-get_or}
use Rattle.base.specs.Pick.{pick}
use Rattle.base.specs.Loops.{fold_from, any_from}
use Rattle.base.specs.Lists.{numbers_from, up_to, each_of, fold_over}
use Rattle.base.proofs.Turns.{any_turn, any_found, any_end}
use Rattle.base.proofs.Places.{each_places}
use Rattle.base.proofs.Tests.{both_true}
use Rattle.rules.specs.Records.{Grammar}
use Rattle.rules.specs.Tokens.{TokenSet, join, within}
use Rattle.rules.specs.First.{Sets}
use Rattle.rules.specs.States.{Entry, State, closes}
use Rattle.rules.specs.FinalCheck.{with_set, have_set, give_set, have_at, give_at, moves, is_behind_dot, closing, entry_at, entry_moved, entry_closed, entry_settled, move_entry, close_entry, settle_entry, settle_state, least_settled, least_round}
use Rattle.sets.proofs.Laws.{join_within}
use Rattle.least_sets.specs.Steps.{settled_at, state_settled}

-- ---- a loop over steps, each of which says whether something was lacking
fold_numbers {ℓ} : {B : Type ℓ} (step : ℕ → B → B) (n i : ℕ) (b : B) → fold_from step n i b ≡ fold_over step (numbers_from i n) b
unfolding fold_from fold_over numbers_from
fold_numbers step zero i b = refl
fold_numbers step (suc n) i b = fold_numbers step n (suc i) (step i b)

any_numbers : (test : ℕ → Bool) (n i : ℕ) → any_from (λ k. not (test k)) n i ≡ not (each_of test (numbers_from i n))
unfolding any_from each_of numbers_from
any_numbers test zero i = refl
any_numbers test (suc n) i = by_test (test i) (any_numbers test n (suc i))
  where
    by_test : (b : Bool) → any_from (λ k. not (test k)) n (suc i) ≡ not (each_of test (numbers_from (suc i) n))
        → pick (not b) true (any_from (λ k. not (test k)) n (suc i)) ≡ not (pick b (each_of test (numbers_from (suc i) n)) false)
    by_test true e = e
    by_test false e = refl

module _ {ℓ} {B : Type ℓ} (step : ℕ → B → B) (done : ℕ → B → Bool) (rests : (k : ℕ) (b : B) → done k b ≡ true → step k b ≡ b) where
  pub fold_rests : (ks : List ℕ) (b : B) → each_of (λ k. done k b) ks ≡ true → fold_over step ks b ≡ b
  unfolding fold_over each_of
  fold_rests [] b e = refl
  fold_rests (k ∷ ks) b e = by_first (done k b) refl e (fold_rests ks b)
    where
      by_first : (d : Bool) → done k b ≡ d → pick d (each_of (λ k. done k b) ks) false ≡ true → (each_of (λ k. done k b) ks ≡ true → fold_over step ks b ≡ b)
          → fold_over step ks (step k b) ≡ b
      by_first true f e more = rw (rests k b f) (more e)
      by_first false f e more = absurd (false≢true e)

  pub lacking_turn : (n i : ℕ) (b later : B) (lacked new t : Bool) → i < n → (lacked || any_from (λ k. not (done k b)) (n - i) i) ≡ t
      → later ≡ step i b → new ≡ not (done i b) → ((lacked || new) || any_from (λ k. not (done k later)) (n - (i + 1)) (i + 1)) ≡ t
  lacking_turn n i b later true new t h e moved says = e
  lacking_turn n i b later false true t h e moved says = sym (any_found (λ k. not (done k b)) n i t true h e says refl)
  lacking_turn n i b later false false t h e moved says =
      let same : later ≡ b = moved ∙ rests i b (not-false (done i b) (sym says)) in
      rw same (any_turn (λ k. not (done k b)) n i t false h e says refl)

pub lacking_end : (test : ℕ → Bool) (n i : ℕ) (lacked t : Bool) → n ≤ i → (lacked || any_from test (n - i) i) ≡ t → lacked ≡ t
lacking_end test n i true t h e = e
lacking_end test n i false t h e = sym (any_end test n i t h e)

-- ---- entries that are given tokens
give_set_rests : (test : ℕ → Bool) (s : TokenSet) (state : State) → have_set test s state ≡ true → give_set test s state ≡ state
unfolding have_set give_set each_of
give_set_rests test s [] e = refl
give_set_rests test s (x ∷ xs) e = by_first (test x.item) (within s x.set) refl e (give_set_rests test s xs)
  where
    by_first : (b c : Bool) → within s x.set ≡ c → pick (not b || c) (have_set test s xs) false ≡ true → (have_set test s xs ≡ true → give_set test s xs ≡ xs)
        → pick b (with_set (join x.set s) x) x ∷ give_set test s xs ≡ x ∷ xs
    by_first true true f e more = ap₂ ◌∷◌ (ap (λ (t : TokenSet). with_set t x) (join_within x.set s f)) (more e)
    by_first true false f e more = absurd (false≢true e)
    by_first false c f e more = ap (λ (l : State). x ∷ l) (more e)

give_rests : (s : ℕ) (test : ℕ → Bool) (tokens : TokenSet) (least : List State) → have_at least s test tokens ≡ true → give_at s test tokens least ≡ least
unfolding have_at give_at
give_rests s test tokens least e = rw (give_set_rests test tokens (get_or least s []) e) (set-get_or least s [])

-- as a test allows
giving_rests : (b : Bool) (s : ℕ) (test : ℕ → Bool) (tokens : TokenSet) (least : List State) → (not b || have_at least s test tokens) ≡ true → pick b (give_at s test tokens least) least ≡ least
giving_rests true s test tokens least e = give_rests s test tokens least e
giving_rests false s test tokens least e = refl

-- ---- one entry, one state, all states
module _ (g : Grammar) (sets : Sets) where
  pub move_rests : (s k : ℕ) (least : List State) → entry_moved g sets least (entry_at least s k) ≡ true → move_entry g sets s k least ≡ least
  unfolding entry_moved move_entry
  move_rests s k least e =
      let x : Entry = entry_at least s k in
      giving_rests (moves g x) x.next (eqb (x.item + 1)) x.set least e

  pub close_rests : (s k : ℕ) (least : List State) → entry_closed g sets least s (entry_at least s k) ≡ true → close_entry g sets s k least ≡ least
  unfolding entry_closed close_entry
  close_rests s k least e =
      let x : Entry = entry_at least s k in
      giving_rests (closes g x.item x.set) s (is_behind_dot g x.item) (closing g sets x) least e

  pub entry_rests : (s k : ℕ) (least : List State) → settled_at g sets s k least ≡ true → settle_entry g sets s k least ≡ least
  unfolding settled_at entry_settled settle_entry
  entry_rests s k least e =
      let (m, c) = both_true (entry_moved g sets least (entry_at least s k)) (entry_closed g sets least s (entry_at least s k)) e in
      ap (close_entry g sets s k) (move_rests s k least m) ∙ close_rests s k least c

  by_entries : (s : ℕ) (least : List State) → each_of (λ k. settled_at g sets s k least) (up_to (length (get_or least s []))) ≡ state_settled g sets s least
  unfolding settled_at state_settled entry_at
  by_entries s least = each_places (entry_settled g sets least s) (get_or least s []) (record { item = 0; next = 0; set = 0 })

  pub state_rests : (s : ℕ) (least : List State) → state_settled g sets s least ≡ true → settle_state g sets s least ≡ least
  unfolding settle_state
  state_rests s least e = fold_rests (settle_entry g sets s) (settled_at g sets s) (entry_rests s) (up_to (length (get_or least s []))) least (by_entries s least ∙ e)

  by_states : (count : ℕ) (least : List State) → each_of (λ s. state_settled g sets s least) (up_to count) ≡ least_settled g sets count least
  unfolding state_settled least_settled
  by_states count least = refl

  pub round_rests : (count : ℕ) (least : List State) → least_settled g sets count least ≡ true → least_round g sets count least ≡ least
  unfolding least_round
  round_rests count least e = fold_rests (settle_state g sets) (state_settled g sets) state_rests (up_to count) least (by_states count least ∙ e)

  -- ---- as the loops have it
  pub state_fold : (s size : ℕ) (least : List State) → size ≡ length (get_or least s []) → fold_from (settle_entry g sets s) size 0 least ≡ settle_state g sets s least
  unfolding settle_state up_to
  state_fold s size least e = rw e (fold_numbers (settle_entry g sets s) (length (get_or least s [])) 0 least)

  pub state_lacking : (s size : ℕ) (least : List State) → size ≡ length (get_or least s []) → any_from (λ k. not (settled_at g sets s k least)) size 0 ≡ not (state_settled g sets s least)
  unfolding up_to
  state_lacking s size least e = rw e (any_numbers (λ k. settled_at g sets s k least) (length (get_or least s [])) 0 ∙ ap not (by_entries s least))

  pub round_fold : (count : ℕ) (least : List State) → fold_from (settle_state g sets) count 0 least ≡ least_round g sets count least
  unfolding least_round up_to
  round_fold count least = fold_numbers (settle_state g sets) count 0 least

  pub round_lacking : (count : ℕ) (least : List State) → any_from (λ s. not (state_settled g sets s least)) count 0 ≡ not (least_settled g sets count least)
  unfolding up_to
  round_lacking count least = any_numbers (λ s. state_settled g sets s least) count 0 ∙ ap not (by_states count least)

  pub entry_turn : (s n i : ℕ) (b later : List State) (lacked new t : Bool) → i < n → (lacked || any_from (λ k. not (settled_at g sets s k b)) (n - i) i) ≡ t
      → later ≡ settle_entry g sets s i b → new ≡ not (settled_at g sets s i b) → ((lacked || new) || any_from (λ k. not (settled_at g sets s k later)) (n - (i + 1)) (i + 1)) ≡ t
  entry_turn s = lacking_turn (settle_entry g sets s) (settled_at g sets s) (entry_rests s)

  pub state_turn : (n i : ℕ) (b later : List State) (lacked new t : Bool) → i < n → (lacked || any_from (λ s. not (state_settled g sets s b)) (n - i) i) ≡ t
      → later ≡ settle_state g sets i b → new ≡ not (state_settled g sets i b) → ((lacked || new) || any_from (λ s. not (state_settled g sets s later)) (n - (i + 1)) (i + 1)) ≡ t
  state_turn = lacking_turn (settle_state g sets) (state_settled g sets) state_rests

  -- ---- both steps of an entry
  pub settle_both : (s k : ℕ) (least moved closed : List State) → moved ≡ move_entry g sets s k least → closed ≡ close_entry g sets s k moved → closed ≡ settle_entry g sets s k least
  unfolding settle_entry
  settle_both s k least moved closed p q = q ∙ ap (close_entry g sets s k) p

  pub settle_says : (s k : ℕ) (least moved : List State) (a b r : Bool) → moved ≡ move_entry g sets s k least → a ≡ not (entry_moved g sets least (entry_at least s k))
      → b ≡ not (entry_closed g sets moved s (entry_at moved s k)) → r ≡ (a || b) → r ≡ not (settled_at g sets s k least)
  unfolding settled_at entry_settled
  settle_says s k least moved a b r p f h e = by_moved (entry_moved g sets least (entry_at least s k)) refl
    where
      by_moved : (c : Bool) → entry_moved g sets least (entry_at least s k) ≡ c → r ≡ not (c && entry_closed g sets least s (entry_at least s k))
      by_moved true z =
          let same : moved ≡ least = p ∙ move_rests s k least z in
          let no : a ≡ false = f ∙ ap not z in
          let yes : b ≡ not (entry_closed g sets least s (entry_at least s k)) = rw same at h in
          e ∙ rw no yes
      by_moved false z = let no : a ≡ true = f ∙ ap not z in e ∙ rw no
