-- Giving tokens to entries: it rests where they have them, adds to the sets where one lacks, and keeps the states' shape.
use Prim.Native.Nat.{ℕ, zero, suc, ◌+◌, ◌*◌, ◌^◌, ◌<◌, ◌≤◌}
use mathlib.Core.Path.{◌≡◌, refl, sym, ap, ap₂, ◌∙◌}
use mathlib.Core.Logic.{⊎_elim}
use mathlib.Core.Bool.{Bool, true, false, ◌||◌, not, true≢false, false≢true}
use mathlib.Core.List.{List, [], ◌∷◌, map}
use native.Mathlib.Omega.{arith}
use native.Mathlib.Decide.{dec_le}
use native.Mathlib.Nat.{add-mul}
use lib.ListN.{length, get_or, set, length-set, length-map, get_or-eq_default}
use Rattle.base.specs.Pick.{pick}
use Rattle.base.specs.Lists.{sum, each_of}
use Rattle.base.specs.Among.{Among, here, later}
use Rattle.base.proofs.Lists.{among_none, among_cons, after_set, set_same, set_past, sum_set, sum_le}
use Rattle.rules.specs.Tokens.{TokenSet, join, within}
use Rattle.rules.specs.States.{Entry, State, item_count}
use Rattle.rules.specs.FinalCheck.{with_set, have_set, give_set, have_at, give_at}
use Rattle.sets.specs.Size.{size}
use Rattle.sets.proofs.Laws.{none_below, join_below, join_within, within_join, size_le, size_within, size_grows}

module _ (n : ℕ) where
  -- ---- one state
  -- no set of the state has a token over n
  abbrev Small : State → Type 0
  Small state = (e : Entry) → Among e state → e.set < 2 ^ (n + 1)

  -- how many tokens the sets have together
  abbrev state_mass : State → ℕ
  state_mass state = sum (map (λ (e : Entry). size (n + 1) e.set) state)

  give_length : (test : ℕ → Bool) (s : TokenSet) (state : State) → length (give_set test s state) ≡ length state
  unfolding give_set
  give_length test s state = length-map state _

  give_rests : (test : ℕ → Bool) (s : TokenSet) (state : State) → have_set test s state ≡ true → give_set test s state ≡ state
  unfolding give_set have_set each_of
  give_rests test s [] h = refl
  give_rests test s (e ∷ es) h = by_tests (test e.item) (within s e.set) refl h (give_rests test s es)
    where
      by_tests : (b d : Bool) → within s e.set ≡ d → pick (not b || d) (have_set test s es) false ≡ true → (have_set test s es ≡ true → give_set test s es ≡ es)
          → pick b (with_set (join e.set s) e) e ∷ give_set test s es ≡ e ∷ es
      by_tests true true w h more = ap₂ ◌∷◌ (ap (λ (q : TokenSet). with_set q e) (join_within e.set s w)) (more h)
      by_tests true false w h more = absurd (false≢true h)
      by_tests false d w h more = ap₂ ◌∷◌ refl (more h)

  -- giving never takes a token away, and gives one where one is missing
  given_mass : (b : Bool) (s : TokenSet) (e : Entry) → size (n + 1) e.set ≤ size (n + 1) (pick b (with_set (join e.set s) e) e).set
  given_mass true s e = size_within e.set (join e.set s) (within_join e.set s) (n + 1)
  given_mass false s e = omega arith

  give_mass : (test : ℕ → Bool) (s : TokenSet) (state : State) → state_mass state ≤ state_mass (give_set test s state)
  unfolding give_set sum
  give_mass test s [] = omega arith
  give_mass test s (e ∷ es) = omega (arith, give_mass test s es, given_mass (test e.item) s e)

  give_adds : (test : ℕ → Bool) (s : TokenSet) → s < 2 ^ (n + 1) → (state : State) → have_set test s state ≡ false → state_mass state < state_mass (give_set test s state)
  unfolding give_set have_set each_of sum
  give_adds test s b [] h = absurd (true≢false h)
  give_adds test s b (e ∷ es) h = by_tests (test e.item) (within s e.set) refl h (give_adds test s b es)
    where
      by_tests : (t d : Bool) → within s e.set ≡ d → pick (not t || d) (have_set test s es) false ≡ false
          → (have_set test s es ≡ false → state_mass es < state_mass (give_set test s es))
          → size (n + 1) e.set + state_mass es < size (n + 1) (pick t (with_set (join e.set s) e) e).set + state_mass (give_set test s es)
      by_tests true true w h more = omega (arith, more h, given_mass true s e)
      by_tests true false w h more = omega (arith, size_grows (n + 1) e.set s b w, give_mass test s es)
      by_tests false d w h more = omega (arith, more h)

  give_small : (test : ℕ → Bool) (s : TokenSet) → s < 2 ^ (n + 1) → (state : State) → Small state → Small (give_set test s state)
  unfolding give_set
  give_small test s b [] h e m = absurd (among_none m)
  give_small test s b (x ∷ xs) h e m =
      ⊎_elim (λ q. rw q (given (test x.item))) (λ k. give_small test s b xs (λ f i. h f (later i)) e k) (among_cons m)
    where
      given : (t : Bool) → (pick t (with_set (join x.set s) x) x).set < 2 ^ (n + 1)
      given true = join_below (n + 1) x.set s (h x here) b
      given false = h x here

  state_mass_le : (state : State) → state_mass state ≤ length state * (n + 1)
  state_mass_le state = sum_le (λ (e : Entry). size (n + 1) e.set) (n + 1) (λ e. size_le (n + 1) e.set) state

  -- ---- all states
  abbrev AllSmall : List State → Type 0
  AllSmall least = (s : ℕ) → Small (get_or least s [])

  abbrev pub least_mass : List State → ℕ
  least_mass least = sum (map state_mass least)

  pub least_mass_le : (least : List State) → least_mass least ≤ item_count least * (n + 1)
  unfolding item_count sum
  least_mass_le [] = omega arith
  least_mass_le (state ∷ states) =
      omega (arith, state_mass_le state, least_mass_le states, add-mul (length state) (item_count states) (n + 1))

  give_at_rests : (s : ℕ) (test : ℕ → Bool) (tokens : TokenSet) (least : List State) → have_at least s test tokens ≡ true → give_at s test tokens least ≡ least
  unfolding give_at have_at
  give_at_rests s test tokens least h = ap (set least s) (give_rests test tokens (get_or least s []) h) ∙ set_same least s []

  -- a state that is not there has all
  have_past : (s : ℕ) (test : ℕ → Bool) (tokens : TokenSet) (least : List State) → length least ≤ s → have_at least s test tokens ≡ true
  unfolding have_at have_set each_of
  have_past s test tokens least h = rw (get_or-eq_default least [] h)

  give_at_adds : (s : ℕ) (test : ℕ → Bool) (tokens : TokenSet) → tokens < 2 ^ (n + 1) → (least : List State) → have_at least s test tokens ≡ false
      → least_mass least < least_mass (give_at s test tokens least)
  unfolding give_at have_at
  give_at_adds s test tokens b least h = elim (dec_le (length least) s) [
    | yes p ↦ absurd (true≢false (sym (have_past s test tokens least p) ∙ h))
    | no p ↦ omega (arith, sum_set state_mass least s (give_set test tokens (get_or least s [])) [] (omega arith), give_adds test tokens b (get_or least s []) h)
  ]

  -- ---- what giving keeps: there are as many states and entries, and the sets are small
  pub record Alike (states least : List State) : Type 0 where
    pub counts : length least ≡ length states
    pub items : item_count least ≡ item_count states
    pub small : AllSmall least

  pub give_at_keeps : (s : ℕ) (test : ℕ → Bool) (tokens : TokenSet) → tokens < 2 ^ (n + 1) → (states least : List State) → Alike states least
      → Alike states (give_at s test tokens least)
  unfolding give_at item_count
  give_at_keeps s test tokens b states least k = record {
    counts = length-set least s given ∙ k.counts;
    items = same (dec_le (length least) s) ∙ k.items;
    small = after_set (λ s state. Small state) least s given [] (give_small test tokens b (get_or least s []) (k.small s)) k.small;
  }
    where
      given : State
      given = give_set test tokens (get_or least s [])

      same : Dec (length least ≤ s) → item_count (set least s given) ≡ item_count least
      same (yes p) = ap item_count (set_past least s given p)
      same (no p) = let e = give_length test tokens (get_or least s []) in omega (arith, sum_set {A = State} length least s given [] (omega arith))

  give_at_mass : (s : ℕ) (test : ℕ → Bool) (tokens : TokenSet) → tokens < 2 ^ (n + 1) → (least : List State)
      → least_mass least ≤ least_mass (give_at s test tokens least)
  give_at_mass s test tokens b least = by_test (have_at least s test tokens) refl
    where
      by_test : (d : Bool) → have_at least s test tokens ≡ d → least_mass least ≤ least_mass (give_at s test tokens least)
      by_test true e = rw (give_at_rests s test tokens least e) (omega arith)
      by_test false e = omega (arith, give_at_adds s test tokens b least e)

  -- ---- tokens that are given if a test holds
  module _ (b : Bool) (s : ℕ) (test : ℕ → Bool) (tokens : TokenSet) where
    abbrev given : List State → List State
    given least = pick b (give_at s test tokens least) least

    abbrev have : List State → Bool
    have least = not b || have_at least s test tokens

  pub given_keeps : (b : Bool) (s : ℕ) (test : ℕ → Bool) (tokens : TokenSet) → tokens < 2 ^ (n + 1) → (states least : List State) → Alike states least
      → Alike states (given b s test tokens least)
  given_keeps true s test tokens small states least kept = give_at_keeps s test tokens small states least kept
  given_keeps false s test tokens small states least kept = kept

  pub given_rests : (b : Bool) (s : ℕ) (test : ℕ → Bool) (tokens : TokenSet) (least : List State) → have b s test tokens least ≡ true
      → given b s test tokens least ≡ least
  given_rests true s test tokens least h = give_at_rests s test tokens least h
  given_rests false s test tokens least h = refl

  pub given_adds : (b : Bool) (s : ℕ) (test : ℕ → Bool) (tokens : TokenSet) → tokens < 2 ^ (n + 1) → (least : List State) → have b s test tokens least ≡ false
      → least_mass least < least_mass (given b s test tokens least)
  given_adds true s test tokens small least h = give_at_adds s test tokens small least h
  given_adds false s test tokens small least h = absurd (true≢false h)

  pub given_stays : (b : Bool) (s : ℕ) (test : ℕ → Bool) (tokens : TokenSet) → tokens < 2 ^ (n + 1) → (least : List State)
      → least_mass least ≤ least_mass (given b s test tokens least)
  given_stays true s test tokens small least = give_at_mass s test tokens small least
  given_stays false s test tokens small least = omega arith

  -- ---- sets that are all empty
  emptied_small : (state : State) → Small (map (with_set 0) state)
  emptied_small [] e m = absurd (among_none m)
  emptied_small (x ∷ xs) e m = ⊎_elim (λ q. rw q (none_below (n + 1))) (emptied_small xs e) (among_cons m)

  emptied_all_small : (states : List State) → AllSmall (map (map (with_set 0)) states)
  emptied_all_small [] s e m = absurd (among_none m)
  emptied_all_small (x ∷ xs) zero e m = emptied_small x e m
  emptied_all_small (x ∷ xs) (suc s) e m = emptied_all_small xs s e m

  emptied_items : (states : List State) → item_count (map (map (with_set 0)) states) ≡ item_count states
  unfolding item_count sum
  emptied_items [] = refl
  emptied_items (x ∷ xs) = ap₂ ◌+◌ (length-map x (with_set 0)) (emptied_items xs)

  pub emptied_alike : (states : List State) → Alike states (map (map (with_set 0)) states)
  emptied_alike states = record { counts = length-map states (map (with_set 0)); items = emptied_items states; small = emptied_all_small states }
