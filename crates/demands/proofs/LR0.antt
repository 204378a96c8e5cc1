-- The LR(0) states are linked, and so lane mode's are: a state's items are the moved ones and those that they open, whatever the sets.
use Prim.Native.Nat.{ℕ, ◌+◌, ◌<◌}
use mathlib.Core.Path.{◌≡◌, refl, sym, ap, ◌∙◌}
use mathlib.Core.Bool.{true}
use mathlib.Core.List.{List, [], ◌∷◌}
use native.Mathlib.Omega.{arith}
use lib.ListN.{length, get_or}
use Rattle.base.specs.Among.{Among, here}
use Rattle.base.proofs.Lists.{among_none}
use Rattle.base.proofs.Places.{within_states}
use Rattle.rules.specs.Limits.{Limits}
use Rattle.rules.specs.Records.{Grammar, at}
use Rattle.rules.specs.Tokens.{TokenSet, Has, all}
use Rattle.rules.specs.Grammar.{Symbol, nonterminal, is_before, symbols_behind, left_sides, terminal_count}
use Rattle.rules.specs.First.{set_of, first_sets}
use Rattle.rules.specs.States.{Entry, State, Follow, closes, hands_on, entry_of, closure_sets, closure, kernel_over, lr0_states}
use Rattle.rules.specs.Merge.{lanes}
use Rattle.sets.proofs.Laws.{some_token, has_all, has_none, all_below}
use Rattle.knuth.proofs.Closures.{closes_behind, behind_closes, lr0_follows_narrow}
use Rattle.knuth.proofs.Kernels.{ProperSets, kernel_in_closure, left_side_in_closure, closed_in_closure, closure_proper, moved_proper, closure_only}
use Rattle.walks.proofs.Outcomes.{Holds, holds_also}
use Rattle.walks.proofs.Resolve.{lanes_keep}
use Rattle.fuel.proofs.Visits.{Few}
use Rattle.demands.proofs.Laws.{among_one, same_item, same_set, kernel_over_entry, moved_in_kernel_over}
use Rattle.demands.proofs.Bare.{unlinked}
use Rattle.demands.proofs.Collection.{HasAutomaton, collection_linked}
use Rattle.demands.proofs.Linked.{core, in_core, core_entry, core_changed, Linked}
use Rattle.demands.proofs.MergeLinked.{resolve_linked}

-- item i is one of the kernel, or opened: its nonterminal stands behind the dot of an item that is there
pub data Opened (g : Grammar) (Kernel : ℕ → Type 0) : ℕ → Type 0 where
  kernel : {i : ℕ} → Kernel i → Opened g Kernel i
  opens : {i j : ℕ} → Opened g Kernel j → symbols_behind g j ≡ nonterminal (at g i).symbol ∷ symbols_behind g (j + 1) → Among i (left_sides g)
      → Opened g Kernel i

-- what a closure hands on in lane mode
abbrev pub lr0_follow : Follow
lr0_follow xs s = s

module _ (g : Grammar) where
  -- ---- items as lists: state 0's, any state's, and what they become over x
  pub record Starts (items : List ℕ) : Type 0 where
    pub has : Among 0 items
    pub only : (i : ℕ) → Among i items → Opened g (λ k. k ≡ 0) i

  abbrev pub Closed : List ℕ → Type 0
  Closed items = (i j B : ℕ) (β : List Symbol) → Among j items → symbols_behind g j ≡ nonterminal B ∷ β
      → Among i (left_sides g) → (at g i).symbol ≡ B → Among i items

  -- k is one of the items, with the dot moved over x
  abbrev pub MovedOver : List ℕ → Symbol → ℕ → Type 0
  MovedOver items x k = (i : ℕ) × Among i items × (is_before g x i ≡ true) × (k ≡ i + 1)

  pub record Becomes (items : List ℕ) (x : Symbol) (there : List ℕ) : Type 0 where
    pub has : (i : ℕ) → Among i items → is_before g x i ≡ true → Among (i + 1) there
    pub only : (i : ℕ) → Among i there → Opened g (MovedOver items x) i

  abbrev pub LinkedItems : List State → Type 0
  LinkedItems = Linked g Starts Closed Becomes

  -- ---- closures
  module _ (k : State) (good : ProperSets g k) where
    closure_opened : (Kernel : ℕ → Type 0) → ((e : Entry) → Among e k → Kernel e.item) → (i : ℕ) → Among i (core (closure g lr0_follow k))
        → Opened g Kernel i
    unfolding hands_on
    closure_opened Kernel h i m =
        let (e, n, q) = core_entry (closure g lr0_follow k) m in
        let (t, a) = some_token e.set (closure_proper g lr0_follow k (lr0_follows_narrow g) good e n).1 in
        rw q (closure_only g lr0_follow (λ i t. Opened g Kernel i) Handed handed opened k (λ f n u b. kernel (h f n)) e n t a)
      where
        -- B stands behind the dot of an item that is there
        Handed : ℕ → ℕ → Type 0
        Handed B u = (j : ℕ) × Opened g Kernel j × (symbols_behind g j ≡ nonterminal B ∷ symbols_behind g (j + 1))

        handed : (i : ℕ) (s : TokenSet) → ((t : ℕ) → Has s t → Opened g Kernel i) → closes g i s ≡ true → (u : ℕ) → Has s u
            → Handed (at g (i + 1)).symbol u
        handed i s o a u b = (i, o u b, behind_closes g i s a)

        opened : (i t : ℕ) → Among i (left_sides g) → Handed (at g i).symbol t → Opened g Kernel i
        opened i t among (j, o, b) = opens o b among

    closure_closed : Closed (core (closure g lr0_follow k))
    unfolding entry_of hands_on
    closure_closed i j B β m b among same =
        let (e, n, q) = core_entry (closure g lr0_follow k) m in
        let b' : symbols_behind g e.item ≡ nonterminal B ∷ β = ap (symbols_behind g) (sym q) ∙ b in
        let some : e.set ≡ 0 → ⊥ = (closure_proper g lr0_follow k (lr0_follows_narrow g) good e n).1 in
        let (a, is, _) = closes_behind g e.item e.set B b' some in
        let (t, h) = some_token e.set some in
        let handed = closed_in_closure g lr0_follow k (lr0_follows_narrow g) good e n t a h in
        in_core (left_side_in_closure g lr0_follow k i t among (there (is ∙ sym same) t handed))
      where
        there : {A B : ℕ} → A ≡ B → (t : ℕ) → Has (set_of (closure_sets g lr0_follow k) A) t → Has (set_of (closure_sets g lr0_follow k) B) t
        there q t h = rw q at h

  -- ---- the collection
  -- the start production at dot 0, with every token
  abbrev lr0_kernel : State
  lr0_kernel = record { item = 0; next = 0; set = all (terminal_count g) } ∷ []

  lr0_kernel_good : ProperSets g lr0_kernel
  lr0_kernel_good e m =
      let n : ℕ = terminal_count g in
      let q : e.set ≡ all n = same_set (among_one m) in
      rw q (all_below n, λ z. has_none 0 (rw z at ((has_all n 0).1 (omega arith))))

  good_over : (k : State) → ProperSets g k → (x : Symbol) → ProperSets g (kernel_over g x (closure g lr0_follow k))
  good_over k good x = moved_proper g x (closure g lr0_follow k) (closure_proper g lr0_follow k (lr0_follows_narrow g) good)

  abbrev HasLR0 : Limits → List State → Type 0
  HasLR0 l = HasAutomaton l g lr0_follow (all (terminal_count g)) (ProperSets g) good_over

  moved_item : (x : Symbol) (state : State) (e : Entry) → Among e (kernel_over g x state) → MovedOver (core state) x e.item
  moved_item x state e m = let (f, n, b, q) = kernel_over_entry g x state m in (f.item, in_core n, b, same_item q)

  item_moved : (x : Symbol) (state : State) (i : ℕ) → Among i (core state) → is_before g x i ≡ true → Among (i + 1) (core (kernel_over g x state))
  item_moved x state i m b =
      let (f, k, q) = core_entry state m in
      let b' : is_before g x f.item ≡ true = ap (is_before g x) (sym q) ∙ b in
      rw q (in_core (moved_in_kernel_over g x state k b'))

  kernel_item : (k : State) (i : ℕ) → Among i (core k) → Among i (core (closure g lr0_follow k))
  kernel_item k i m = let (e, n, q) = core_entry k m in rw q (in_core (kernel_in_closure g lr0_follow k e n))

  lr0_linked : (l : Limits) (states : List State) → HasLR0 l states → LinkedItems states
  lr0_linked l states (kernels, auto) = record {
    some = auto.some;
    starts = rw (its_core 0 auto.some, auto.first) (record {
      has = kernel_item lr0_kernel 0 here;
      only = closure_opened lr0_kernel lr0_kernel_good (λ k. k ≡ 0) (λ f k. same_item (among_one k));
    });
    closed = λ s b. rw (its_core s b) (closure_closed (get_or kernels s []) (auto.each s b));
    links = λ s x e m p.
        let b : s < length states = within_states states s m in
        let (below, over) = (auto.linked s b x).leads e m p in
        let below' : e.next < length states = rw (← auto.counted) below in
        (below', becomes s e.next x below' over);
    one = λ s x e f m n p q. (auto.linked s (within_states states s m) x).one e f m n p q;
  }
    where
      its_core : (s : ℕ) → s < length states → core (get_or states s []) ≡ core (closure g lr0_follow (get_or kernels s []))
      its_core s b = sym (core_changed unlinked (λ e. refl) (get_or states s [])) ∙ ap core (auto.items s b)

      becomes : (s t : ℕ) (x : Symbol) → t < length states → get_or kernels t [] ≡ kernel_over g x (get_or states s [])
          → Becomes (core (get_or states s [])) x (core (get_or states t []))
      becomes s t x b q =
          let K : State = kernel_over g x (get_or states s []) in
          let good : ProperSets g K = rw q at (auto.each t b) in
          rw (its_core t b, q) (record {
            has = λ i m p. kernel_item K (i + 1) (item_moved x (get_or states s []) i m p);
            only = closure_opened K good (MovedOver (core (get_or states s [])) x) (moved_item x (get_or states s []));
          })

  -- ---- lane mode
  module _ (l : Limits) (a-state : 0 < l.states) where
    lr0_automaton : Holds (HasLR0 l) (lr0_states l g)
    unfolding lr0_states
    lr0_automaton = collection_linked l g lr0_follow (all (terminal_count g)) (ProperSets g) good_over a-state lr0_kernel_good

    pub lr0_states_few : Holds (Few l g) (lr0_states l g)
    lr0_states_few = holds_also (HasLR0 l) (Few l g) (λ states (kernels, auto). auto.few) (lr0_states l g) lr0_automaton

    pub lanes_linked : Holds LinkedItems (lanes l g)
    lanes_linked =
        lanes_keep l g LinkedItems (resolve_linked g Starts Closed Becomes none_closed l (first_sets g))
        (holds_also (HasLR0 l) LinkedItems (lr0_linked l) (lr0_states l g) lr0_automaton)
      where
        none_closed : Closed []
        none_closed i j B β m = absurd (among_none m)
