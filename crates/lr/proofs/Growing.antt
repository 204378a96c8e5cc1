-- What a transition makes of the state that is being expanded and of the kernels: nothing, a link to a known state, or a state more.
use Prim.Native.Nat.{ℕ, zero, suc, ◌+◌, ◌-◌, ◌≤◌, ◌<◌}
use mathlib.Core.Path.{◌≡◌, refl, sym, ap, ap₂, ◌∙◌}
use mathlib.Core.Bool.{Bool, true, false, not}
use mathlib.Core.List.{List, [], ◌∷◌, ◌++◌}
use native.Mathlib.Omega.{arith}
use native.Mathlib.Decide.{ℕ_discrete}
use lib.ListN.{length, get_or}
use lib.Seq.{get_or-set_same, get_or-set_other}
use borrow.Author.Tests.{eq-eqb, ne_eqb, lt-ltb, le-ltb}
use Rattle.std.specs.Prelude.{Option, Some, None, is_some, Ok, Err}
use Rattle.base.specs.Loops.{place_below}
use Rattle.base.specs.Each.{each_from}
use Rattle.base.specs.Lists.{place_of, is_empty}
use Rattle.base.proofs.Each.{each_same}
use Rattle.base.proofs.EachLeft.{each_length, each_last}
use Rattle.rules.specs.declared.BuildRefusal.TheVariants.{States as TooManyStates}
use Rattle.rules.specs.Limits.{limits}
use Rattle.rules.specs.Records.{Grammar, records}
use Rattle.rules.specs.Tokens.{TokenSet}
use Rattle.rules.specs.Grammar.{Symbol, nonterminal, terminal, is_before}
use Rattle.rules.specs.States.{Entry, State, done, refused, Expansion, kernel_over, same_kernel, lead, add_transition}
use Rattle.room.specs.Areas.{Room, view, with_entries, with_visited, put_visited}
use Rattle.packed.specs.Packed.{packed, low, middle, high}
use Rattle.room.proofs.Lengths.{view_lengths}
use Rattle.packed.proofs.Packs.{low_packed, middle_packed, high_packed}
use Rattle.lookahead.specs.Sets.{set_at}
use Rattle.states.specs.StatesIn.{entry_in, run_in, first_of, state_in, PlacedRun}
use Rattle.states.proofs.States.{set_of_lem, state_run}
use Rattle.states.proofs.Places.{run_placed, placed_same}
use Rattle.lr.specs.Kernels.{symbol_by, first_before, parent_word, parent_of, parent_symbol, kernel_in, kernels_in, Parented, HasKernel, KernelPlace}
use Rattle.lr.specs.Links.{OnlyLinks, Leads}
use Rattle.lr.specs.Expansions.{expansion_in, expanded_to, StillParented, Transition}
use Rattle.lr.proofs.Compare.{moved, kernel_hit, kernel_miss, found, kernel_at_lem, kernel_over_lem, FoundFrom}
use Rattle.lr.proofs.Walks.{below_some, below_none, some_below, none_below}
use Rattle.lr.proofs.Parents.{kernel_other}

-- ---- kernels see items and sets alone
kernel_alike : (g : Grammar) (x : Symbol) (f h : ℕ → Entry) (i n : ℕ) → ((j : ℕ) → ((f j).item ≡ (h j).item) × ((f j).set ≡ (h j).set)) → kernel_over g x (each_from f i n) ≡ kernel_over g x (each_from h i n)
unfolding each_from
kernel_alike g x f h i zero same = refl
kernel_alike g x f h i (suc n) same = go (is_before g x (f i).item) refl (kernel_alike g x f h (suc i) n same)
  where
    go : (b : Bool) → is_before g x (f i).item ≡ b → kernel_over g x (each_from f (suc i) n) ≡ kernel_over g x (each_from h (suc i) n)
        → kernel_over g x (f i ∷ each_from f (suc i) n) ≡ kernel_over g x (h i ∷ each_from h (suc i) n)
    go true t later =
        let (items, sets) = same i in
        let heads : moved (f i) ≡ moved (h i) = ap₂ (λ (a : ℕ) (s : TokenSet). record { item = a + 1; next = 0; set = s }) items sets in
        kernel_hit g x (f i) _ t ∙ ap₂ ◌∷◌ heads later ∙ sym (kernel_hit g x (h i) _ (rw items at t))
    go false t later = kernel_miss g x (f i) _ t ∙ later ∙ sym (kernel_miss g x (h i) _ (rw (same i).0 at t))

-- two rooms with the same places, items, sets and parents
pub record SameKernels (v q : Room) : Type 0 where
  pub firsts : q.first_entries ≡ v.first_entries
  pub alike : (k : ℕ) → ((entry_in q k).item ≡ (entry_in v k).item) × ((entry_in q k).set ≡ (entry_in v k).set)

module _ (v q : Room) (same : SameKernels v q) where
  pub first_is : (s : ℕ) → first_of q s ≡ first_of v s
  first_is s = ap (λ (l : List ℕ). get_or l s 0) same.firsts

  over_same : (g : Grammar) (x : Symbol) (s : ℕ) → kernel_over g x (state_in q s) ≡ kernel_over g x (state_in v s)
  over_same g x s =
      ap (kernel_over g x) (state_run q s ∙ ap₂ (run_in q) (first_is s) (first_is (s + 1)))
      ∙ kernel_alike g x (entry_in q) (entry_in v) (first_of v s) (first_of v (s + 1) - first_of v s) same.alike
      ∙ ap (kernel_over g x) (sym (state_run v s))

  kernel_same : (g : Grammar) (start : TokenSet) (t : ℕ) → parent_word q t ≡ parent_word v t → kernel_in g start q t ≡ kernel_in g start v t
  unfolding kernel_in
  kernel_same g start t e = rw (e, over_same g (parent_symbol v t) (parent_of v t))

  kernels_same : (g : Grammar) (start : TokenSet) (count : ℕ) → ((t : ℕ) → t < count → parent_word q t ≡ parent_word v t) → kernels_in g start q count ≡ kernels_in g start v count
  unfolding kernels_in
  kernels_same g start count e = each_same (kernel_in g start q) (kernel_in g start v) 0 count (λ t h l. kernel_same g start t (e t (omega arith)))

linked_same : (v q : Room) (first end : ℕ) → OnlyLinks v q first end → SameKernels v q
linked_same v q first end only = record {
  firsts = ap (λ (r : Room). r.first_entries) only.others;
  alike = λ k. (only.items k, set_of_lem q k ∙ ap (λ (r : Room). set_at r (128 + k)) only.others ∙ sym (set_of_lem v k));
}

-- ---- a parent more
module _ (v q : Room) (count word : ℕ) (put : q ≡ put_visited count word v) where
  entry_stays : (k : ℕ) → entry_in q k ≡ entry_in v k
  unfolding entry_in
  entry_stays k = rw put

  parent_stays : (t : ℕ) → t < count → parent_word q t ≡ parent_word v t
  parent_stays t h = ap (λ (r : Room). parent_word r t) put ∙ get_or-set_other v.visited count t word 0 (λ e. omega arith)

  parent_there : count < length v.visited → parent_word q count ≡ word
  parent_there h = ap (λ (r : Room). parent_word r count) put ∙ get_or-set_same v.visited count word 0 h

  put_same : SameKernels v q
  put_same = record { firsts = ap (λ (r : Room). r.first_entries) put; alike = λ k. (ap (λ (e : Entry). e.item) (entry_stays k), ap (λ (e : Entry). e.set) (entry_stays k)) }

  state_stays : (s : ℕ) → state_in q s ≡ state_in v s
  unfolding state_in entry_in
  state_stays s = rw put

pub put_run : (record_count : ℕ) (v q : Room) (count word first end : ℕ) → q ≡ put_visited count word v → PlacedRun record_count v first end → PlacedRun record_count q first end
put_run record_count v q count word first end put run = run_placed record_count v q first end (λ k h l. ap (λ (e : Entry). e.item) (entry_stays v q count word put k)) run

-- ---- what the definition says in each case
module _ (g : Grammar) (x : Symbol) (e : Expansion) where
  no_transition : is_empty (kernel_over g x e.entries) ≡ true → add_transition limits g x e ≡ done e
  unfolding add_transition
  no_transition none = rw none

  module _ (t : ℕ) (some : is_empty (kernel_over g x e.entries) ≡ false) (place : place_of (same_kernel (kernel_over g x e.entries)) e.kernels ≡ t) where
    to_known : t < length e.kernels → add_transition limits g x e ≡ done (record { kernels = e.kernels; entries = lead g x t e.entries })
    unfolding add_transition
    to_known h = rw (some, place, lt-ltb t (length e.kernels) h)

    to_none : length e.kernels ≤ t → t ≡ 128 → add_transition limits g x e ≡ refused TooManyStates
    unfolding add_transition limits
    to_none h z = rw (some, place, le-ltb t (length e.kernels) h, eq-eqb t 128 z)

    to_new : length e.kernels ≤ t → (t ≡ 128 → ⊥) → add_transition limits g x e ≡ done (record { kernels = e.kernels ++ (kernel_over g x e.entries ∷ []); entries = lead g x t e.entries })
    unfolding add_transition limits
    to_new h ne = rw (some, place, le-ltb t (length e.kernels) h, ne_eqb t 128 ne)

place_within : {A : Type 0} (test : A → Bool) (xs : List A) → place_of test xs ≤ length xs
unfolding place_of
place_within test [] = omega arith
place_within test (x ∷ xs) = go (test x) refl (place_within test xs)
  where
    go : (b : Bool) → test x ≡ b → place_of test xs ≤ length xs → place_of test (x ∷ xs) ≤ suc (length xs)
    go true e h = rw e (omega arith)
    go false e h = rw e (omega arith)

pub kernels_length : (g : Grammar) (start : TokenSet) (r : Room) (count : ℕ) → length (kernels_in g start r count) ≡ count
unfolding kernels_in
kernels_length g start r count = each_length (kernel_in g start r) 0 count

-- ---- the entries of state s were led to state t
module _ (bytes : List ℕ) (x : Symbol) (s first end t : ℕ) (w after : List ℕ) (ef : first ≡ first_of (view w) s) (ee : end ≡ first_of (view w) (s + 1)) (leads : Leads bytes x first end t w after) where
  links_same : SameKernels (view w) (view after)
  links_same = linked_same (view w) (view after) first end leads.only

  parents_same : (j : ℕ) → parent_word (view after) j ≡ parent_word (view w) j
  parents_same j = ap (λ (r : Room). get_or r.visited j 0) leads.only.others

  kernels_linked : (start : TokenSet) (count : ℕ) → kernels_in (records bytes) start (view after) count ≡ kernels_in (records bytes) start (view w) count
  kernels_linked start count = kernels_same (view w) (view after) links_same (records bytes) start count (λ j l. parents_same j)

  led_state : state_in (view after) s ≡ lead (records bytes) x t (state_in (view w) s)
  led_state =
      state_run (view after) s ∙ ap₂ (run_in (view after)) (first_is (view w) (view after) links_same s ∙ sym ef) (first_is (view w) (view after) links_same (s + 1) ∙ sym ee)
      ∙ leads.run ∙ ap (lead (records bytes) x t) (sym (state_run (view w) s ∙ ap₂ (run_in (view w)) (sym ef) (sym ee)))

  links_parented : (count : ℕ) → length after ≡ length w → Parented bytes (s + 1) count w → Parented bytes (s + 1) count after
  links_parented count size parented = record {
    long = omega (arith, parented.long);
    few = parented.few;
    placed = placed_same _ (s + 1) (view w) (view after) parented.placed links_same.firsts (λ k h. leads.only.items k);
    parents = λ j h l. rw (parents_same j) (parented.parents j h l);
    kinds = λ j h l. rw (parents_same j) (parented.kinds j h l);
  }

-- ---- the word of a parent
module _ (s x word : ℕ) (small : s < 128) (low_x : x < 64) where
  pub over_nonterminal : word ≡ packed s x 0 → (low word ≡ s) × (symbol_by (high word) (middle word) ≡ nonterminal x) × (high word < 2)
  unfolding symbol_by
  over_nonterminal is =
      let kind : high word ≡ 0 = ap high is ∙ high_packed s x 0 (omega arith) (omega arith) in
      let number : middle word ≡ x = ap middle is ∙ middle_packed s x 0 (omega arith) (omega arith) in
      (ap low is ∙ low_packed s x 0 (omega arith) (omega arith), rw (kind, number), omega arith)

  pub over_terminal : word ≡ packed s x 1 → (low word ≡ s) × (symbol_by (high word) (middle word) ≡ terminal x) × (high word < 2)
  unfolding symbol_by
  over_terminal is =
      let kind : high word ≡ 1 = ap high is ∙ high_packed s x 1 (omega arith) (omega arith) in
      let number : middle word ≡ x = ap middle is ∙ middle_packed s x 1 (omega arith) (omega arith) in
      (ap low is ∙ low_packed s x 1 (omega arith) (omega arith), rw (kind, number), omega arith)

-- ---- a state more, whose parent is state s
module _ (bytes : List ℕ) (x : Symbol) (s count word : ℕ) (w w₁ : List ℕ) (small : s < 128) (begun : 0 < count) (room : count < 128) (from : low word ≡ s) (over : symbol_by (high word) (middle word) ≡ x) (low-kind : high word < 2)
    (put : view w₁ ≡ put_visited count word (view w)) (parented : Parented bytes (s + 1) count w) where
  new_word : parent_word (view w₁) count ≡ word
  new_word = parent_there (view w) (view w₁) count word put (omega (arith, (view_lengths w parented.long).visited_length))

  new_parent : parent_of (view w₁) count ≡ s
  new_parent = ap low new_word ∙ from

  new_kind : high (parent_word (view w₁) count) < 2
  new_kind = rw new_word low-kind

  new_kernel : (start : TokenSet) → kernel_in (records bytes) start (view w₁) count ≡ kernel_over (records bytes) x (state_in (view w) s)
  new_kernel start =
      kernel_other (records bytes) [] start (view w₁) count begun
      ∙ ap₂ (kernel_over (records bytes)) (ap (λ (v : ℕ). symbol_by (high v) (middle v)) new_word ∙ over) (ap (state_in (view w₁)) new_parent ∙ state_stays (view w) (view w₁) count word put s)

  kernels_more : (start : TokenSet) → kernels_in (records bytes) start (view w₁) (count + 1) ≡ kernels_in (records bytes) start (view w) count ++ (kernel_over (records bytes) x (state_in (view w) s) ∷ [])
  unfolding kernels_in
  kernels_more start =
      let z : 0 + count ≡ count = omega arith in
      each_last (kernel_in (records bytes) start (view w₁)) 0 count
      ∙ ap₂ (λ (ks : List State) (k : State). ks ++ (k ∷ [])) (kernels_same (view w) (view w₁) (put_same (view w) (view w₁) count word put) (records bytes) start count (parent_stays (view w) (view w₁) count word put))
      (ap (kernel_in (records bytes) start (view w₁)) z ∙ new_kernel start)

  more_parented : length w₁ ≡ length w → Parented bytes (s + 1) (count + 1) w₁
  more_parented size = record {
    long = omega (arith, parented.long);
    few = omega arith;
    placed = placed_same _ (s + 1) (view w) (view w₁) parented.placed (put_same (view w) (view w₁) count word put).firsts (λ k h. ((put_same (view w) (view w₁) count word put).alike k).0);
    parents = λ t h l. elim (ℕ_discrete t count) [
      | yes e ↦ rw (e, new_parent) (omega arith)
      | no ne ↦ rw (parent_stays (view w) (view w₁) count word put t (omega arith)) (parented.parents t h (omega arith))
    ];
    kinds = λ t h l. elim (ℕ_discrete t count) [
      | yes e ↦ rw e new_kind
      | no ne ↦ rw (parent_stays (view w) (view w₁) count word put t (omega arith)) (parented.kinds t h (omega arith))
    ];
  }

-- ---- the place of a kernel, whatever set state 0 begins with: the number of states if no state has it
pub record PlaceAt (bytes : List ℕ) (x : Symbol) (s count : ℕ) (w : List ℕ) (t : ℕ) : Type 0 where
  pub found : (start : TokenSet) → t ≡ place_of (same_kernel (kernel_over (records bytes) x (state_in (view w) s))) (kernels_in (records bytes) start (view w) count)

-- ---- the code's answers
pub own_placed : (bytes : List ℕ) (s count : ℕ) (w : List ℕ) (first end : ℕ) → first ≡ first_of (view w) s → end ≡ first_of (view w) (s + 1) → Parented bytes (s + 1) count w → PlacedRun (length (records bytes)) (view w) first end
own_placed bytes s count w first end ef ee parented = rw (ef, ee) (parented.placed.each s (omega arith))

module _ (bytes : List ℕ) (x : Symbol) (s count : ℕ) (w : List ℕ) (first end : ℕ) (ef : first ≡ first_of (view w) s) (ee : end ≡ first_of (view w) (s + 1)) where
  own_kernel_lem : kernel_over (records bytes) x (state_in (view w) s) ≡ kernel_over (records bytes) x (run_in (view w) first end)
  own_kernel_lem = ap (kernel_over (records bytes) x) (state_run (view w) s ∙ ap₂ (run_in (view w)) (sym ef) (sym ee))

  module _ (parented : Parented bytes (s + 1) count w) where
    module _ (o : Option ℕ) (b : Bool) (is : o ≡ place_below end (first_before (records bytes) x (view w) first end)) (says : is_some o ≡ not b) where
      at_first : FoundFrom (records bytes) x (view w) first end (first_before (records bytes) x (view w) first end)
      at_first = found (records bytes) x (view w) first end _ (own_placed bytes s count w first end ef ee parented).ordered refl

      pub has_kernel : b ≡ false → HasKernel (records bytes) x (view w) s
      unfolding is_empty
      has_kernel e =
          let h : first_before (records bytes) x (view w) first end < end = some_below end _ (ap is_some (sym is) ∙ says ∙ ap not e) in
          rw (own_kernel_lem, at_first.rest, kernel_at_lem (records bytes) x (view w) _ end h (at_first.hit h))

      pub none_added : b ≡ true → Transition bytes x s count w w (Ok count)
      unfolding is_empty expansion_in expanded_to StillParented
      none_added z =
          let over : end ≤ first_before (records bytes) x (view w) first end = none_below end _ (ap is_some (sym is) ∙ says ∙ ap not z) in
          let none : kernel_over (records bytes) x (state_in (view w) s) ≡ [] = own_kernel_lem ∙ at_first.rest ∙ kernel_over_lem (records bytes) x (view w) _ end over in
          record {
            outcome = λ start. sym (no_transition (records bytes) x (expansion_in (records bytes) start (view w) s count) (rw none));
            only = record { others = refl; before = λ k h. refl; behind = λ k h. refl; items = λ k. refl };
            left = (omega arith, parented);
          }

    -- the place that the search answered, by its number
    pub known_place : (r : Option ℕ) (t : ℕ) → KernelPlace bytes x s count w r → r ≡ Some t → PlaceAt bytes x s count w t
    known_place r t place e = record { found = λ start. (below_some count _ t (sym (place.found start) ∙ e)).0 }

    pub known_below : (r : Option ℕ) (t : ℕ) → KernelPlace bytes x s count w r → r ≡ Some t → t < count
    known_below r t place e = let (p, q) = below_some count _ t (sym (place.found 0) ∙ e) in omega arith

    pub no_place : (r : Option ℕ) → KernelPlace bytes x s count w r → r ≡ None → PlaceAt bytes x s count w count
    no_place r place e = record {
      found = λ start.
          let size = kernels_length (records bytes) start (view w) count in
          let within = place_within (same_kernel (kernel_over (records bytes) x (state_in (view w) s))) (kernels_in (records bytes) start (view w) count) in
          omega (arith, below_none count _ (sym (place.found start) ∙ e));
    }

    -- the entries were led to state t, which was known
    module _ (t : ℕ) (place : PlaceAt bytes x s count w t) (some : HasKernel (records bytes) x (view w) s) where
      pub full_refused : count ≤ t → count ≡ 128 → Transition bytes x s count w w (Err TooManyStates)
      unfolding expansion_in expanded_to StillParented
      full_refused h z = record {
        outcome = λ start.
            let size = kernels_length (records bytes) start (view w) count in
            let within = place_within (same_kernel (kernel_over (records bytes) x (state_in (view w) s))) (kernels_in (records bytes) start (view w) count) in
            sym (to_none (records bytes) x (expansion_in (records bytes) start (view w) s count) t some (sym (place.found start)) (omega arith) (omega (arith, place.found start)));
        only = record { others = refl; before = λ k l. refl; behind = λ k l. refl; items = λ k. refl };
        left = tt;
      }

      module _ (after : List ℕ) where
        pub known_led : length after ≡ length w → Leads bytes x first end t w after → t < count → Transition bytes x s count w after (Ok count)
        unfolding expansion_in expanded_to StillParented
        known_led size leads h = record {
          outcome = λ start.
              ap₂ (λ (ks : List State) (es : State). done (record { kernels = ks; entries = es })) (kernels_linked bytes x s first end t w after ef ee leads start count) (led_state bytes x s first end t w after ef ee leads)
              ∙ sym (to_known (records bytes) x (expansion_in (records bytes) start (view w) s count) t some (sym (place.found start)) (rw (kernels_length (records bytes) start (view w) count) h));
          only = record {
            others = ap (with_visited []) leads.only.others;
            before = λ k l. leads.only.before k (omega arith);
            behind = λ k l. leads.only.behind k (omega arith);
            items = leads.only.items;
          };
          left = (omega arith, links_parented bytes x s first end t w after ef ee leads count size parented);
        }

        module _ (w₁ : List ℕ) (word : ℕ) (h : count ≤ t) (ne : count ≡ 128 → ⊥) (small : s < 128) (begun : 0 < count) (from : low word ≡ s) (over : symbol_by (high word) (middle word) ≡ x) (low-kind : high word < 2)
            (put : view w₁ ≡ put_visited count word (view w)) (size₁ : length w₁ ≡ length w) (size : length after ≡ length w₁) (leads : Leads bytes x first end count w₁ after) where
          room : count < 128
          room = omega (arith, parented.few)

          ef₁ : first ≡ first_of (view w₁) s
          ef₁ = ef ∙ sym (first_is (view w) (view w₁) (put_same (view w) (view w₁) count word put) s)

          ee₁ : end ≡ first_of (view w₁) (s + 1)
          ee₁ = ee ∙ sym (first_is (view w) (view w₁) (put_same (view w) (view w₁) count word put) (s + 1))

          new_is : (start : TokenSet) → t ≡ count
          new_is start =
              let length-is = kernels_length (records bytes) start (view w) count in
              let within = place_within (same_kernel (kernel_over (records bytes) x (state_in (view w) s))) (kernels_in (records bytes) start (view w) count) in
              omega (arith, place.found start)

          pub new_led : Transition bytes x s count w after (Ok (count + 1))
          unfolding expansion_in expanded_to StillParented
          new_led = record {
            outcome = λ start.
                let z = new_is start in
                ap₂ (λ (ks : List State) (es : State). done (record { kernels = ks; entries = es }))
                (kernels_linked bytes x s first end count w₁ after ef₁ ee₁ leads start (count + 1) ∙ kernels_more bytes x s count word w w₁ small begun room from over low-kind put parented start)
                (led_state bytes x s first end count w₁ after ef₁ ee₁ leads ∙ ap₂ (lead (records bytes) x) (sym z) (state_stays (view w) (view w₁) count word put s))
                ∙ sym (to_new (records bytes) x (expansion_in (records bytes) start (view w) s count) t some (sym (place.found start)) (omega (arith, kernels_length (records bytes) start (view w) count)) (λ y. ne (omega arith)));
            only = record {
              others = ap (with_visited []) leads.only.others ∙ ap (λ (r : Room). with_entries [] (with_visited [] r)) put;
              before = λ k l. leads.only.before k (omega arith) ∙ entry_stays (view w) (view w₁) count word put k;
              behind = λ k l. leads.only.behind k (omega arith) ∙ entry_stays (view w) (view w₁) count word put k;
              items = λ k. leads.only.items k ∙ ap (λ (e : Entry). e.item) (entry_stays (view w) (view w₁) count word put k);
            };
            left = (omega arith, links_parented bytes x s first end count w₁ after ef₁ ee₁ leads (count + 1) size (more_parented bytes x s count word w w₁ small begun room from over low-kind put parented size₁));
          }
