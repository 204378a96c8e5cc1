-- The collection of states, turn by turn: what every turn keeps, it keeps; and what closures, moved dots and links keep of a state, all
-- its states have.
use Prim.Native.Nat.{ℕ, zero, suc, ◌+◌, ◌<◌, ◌≤◌}
use mathlib.Core.Path.{◌≡◌}
use mathlib.Core.Logic.{⊎_elim}
use mathlib.Core.List.{List, [], ◌∷◌}
use lib.ListN.{length, get_or}
use lib.Dec.{eqb, ltb}
use borrow.Author.Tests.{ltb-true, ltb-false}
use Rattle.base.specs.Among.{All}
use Rattle.base.specs.Lists.{is_empty, place_of}
use Rattle.base.specs.Turn.{Turn, after, OnTurn}
use Rattle.base.proofs.Fuel.{fuel_keeps}
use Rattle.base.proofs.Lists.{among_none, among_cons}
use Rattle.base.proofs.Members.{all_at, all_added}
use Rattle.rules.specs.Limits.{Limits}
use Rattle.rules.specs.Records.{Grammar}
use Rattle.rules.specs.Tokens.{TokenSet}
use Rattle.rules.specs.Grammar.{Symbol}
use Rattle.rules.specs.States.{State, Outcome, done, refused, each_in_turn, Follow, closure, kernel_over, same_kernel, symbols, lead, Expansion, add_transition, Collection, item_count, expanded, expand_next, expand_all, states_from}
use Rattle.walks.proofs.Outcomes.{Holds, holds_pick, holds_in_turn, turned, turned_goes, holds_turned}

-- P holds of all kernels and states of a collection
abbrev pub AllStates : (State → Type 0) → Collection → Type 0
AllStates P c = All P c.kernels × All P c.states

-- closures, moved dots and links keep P
pub record KeptOfStates (g : Grammar) (follow : Follow) (P : State → Type 0) : Type 0 where
  pub none : P []
  pub closing : (kernel : State) → P kernel → P (closure g follow kernel)
  pub moving : (x : Symbol) (state : State) → P state → P (kernel_over g x state)
  pub leading : (x : Symbol) (s : ℕ) (state : State) → P state → P (lead g x s state)

module _ (l : Limits) (g : Grammar) (follow : Follow) where
  -- ---- a turn expands one state
  abbrev pub expand_turn : Collection → Turn Collection (Outcome (List State))
  expand_turn c = turned (ltb (length c.states) (length c.kernels)) (expand_next l g follow c) (λ c'. c') c.states

  pub expand_goes : (fuel : ℕ) (c : Collection) → expand_all l g follow (suc fuel) c ≡ after (expand_all l g follow fuel) (expand_turn c)
  unfolding expand_all
  expand_goes fuel c = turned_goes (expand_all l g follow fuel) (ltb (length c.states) (length c.kernels)) (expand_next l g follow c) (λ c'. c') c.states

  -- an invariant that may speak of the fuel left
  module _ (Inv : ℕ → Collection → Type 0) (P : List State → Type 0)
      (expanding : (fuel : ℕ) (c : Collection) → length c.states < length c.kernels → Inv (suc fuel) c → Holds (Inv fuel) (expand_next l g follow c))
      (ending : (fuel : ℕ) (c : Collection) → length c.kernels ≤ length c.states → Inv fuel c → P c.states) where
    pub expand_turns : (fuel : ℕ) (c : Collection) → Inv (suc fuel) c → OnTurn (Inv fuel) (Holds P) (expand_turn c)
    expand_turns fuel c i =
        holds_turned (Inv fuel) P (ltb (length c.states) (length c.kernels)) (expand_next l g follow c) (λ c'. c') c.states
        (λ e. expanding fuel c (ltb-true (length c.states) (length c.kernels) e) i) (λ e. ending (suc fuel) c (ltb-false (length c.states) (length c.kernels) e) i)

    pub expand_keeps : ((c : Collection) → Inv zero c → P c.states) → (fuel : ℕ) (c : Collection) → Inv fuel c → Holds P (expand_all l g follow fuel c)
    unfolding expand_all
    expand_keeps stopping = fuel_keeps (expand_all l g follow) expand_turn expand_goes Inv (Holds P) expand_turns stopping

  -- ---- what holds of every state
  module _ (P : State → Type 0) (kept : KeptOfStates g follow P) where
    abbrev Expanding : Expansion → Type 0
    Expanding e = All P e.kernels × P e.entries

    transition_keeps : (x : Symbol) (e : Expansion) → Expanding e → Holds Expanding (add_transition l g x e)
    unfolding add_transition
    transition_keeps x e (h, k) =
        let kernel : State = kernel_over g x e.entries in
        let s : ℕ = place_of (same_kernel kernel) e.kernels in
        let led : P (lead g x s e.entries) = kept.leading x s e.entries k in
        holds_pick Expanding (is_empty kernel) _ _ (λ _. (h, k))
        (λ _. holds_pick Expanding (ltb s (length e.kernels)) _ _ (λ _. (h, led))
        (λ _. holds_pick Expanding (eqb s l.states) _ _ (λ _. tt) (λ _. (all_added P e.kernels kernel h (kept.moving x e.entries k), led))))

    expanded_keeps : (states : List State) (o : Outcome Expansion) → All P states → Holds Expanding o → Holds (AllStates P) (expanded states o)
    unfolding expanded
    expanded_keeps states (done e) h (k, j) = (k, all_added P states e.entries h j)
    expanded_keeps states (refused why) h p = tt

    pub next_keeps : (c : Collection) → AllStates P c → Holds (AllStates P) (expand_next l g follow c)
    unfolding expand_next
    next_keeps c (k, h) =
        let kernel : State = get_or c.kernels (length c.states) [] in
        let state : State = closure g follow kernel in
        let e : Expansion = record { kernels = c.kernels; entries = state } in
        holds_pick (AllStates P) (ltb l.items (item_count c.states + length state)) _ _ (λ _. tt)
        (λ _. expanded_keeps c.states (each_in_turn (add_transition l g) (symbols g) e) h
        (holds_in_turn Expanding (add_transition l g) (symbols g) (λ x among. transition_keeps x) e (k, kept.closing kernel (all_at P c.kernels (length c.states) [] k kept.none))))

    pub begun_keeps : (s : TokenSet) → P (record { item = 0; next = 0; set = s } ∷ []) → AllStates P (record { kernels = (record { item = 0; next = 0; set = s } ∷ []) ∷ []; states = [] })
    begun_keeps s p = ((λ state m. ⊎_elim (λ q. rw q p) (λ k. absurd (among_none k)) (among_cons m)), λ state m. absurd (among_none m))

    pub states_keep : (s : TokenSet) → P (record { item = 0; next = 0; set = s } ∷ []) → Holds (All P) (states_from l g follow s)
    unfolding states_from
    states_keep s p =
        expand_keeps (λ _. AllStates P) (All P) (λ fuel c more. next_keeps c) (λ fuel c end h. h.1) (λ c h. h.1) (l.states + 1) _ (begun_keeps s p)
