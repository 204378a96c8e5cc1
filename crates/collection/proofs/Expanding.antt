-- A turn of the collection: the next state is closed and its transitions are added, which is `expand_next` of what lies in the room.
use Prim.Native.Nat.{ℕ, ◌+◌, ◌<◌}
use mathlib.Core.Path.{◌≡◌, refl, sym, ap, ap₂, ◌∙◌}
use mathlib.Core.Bool.{Bool, true, false, not}
use mathlib.Core.List.{List, [], ◌∷◌, ◌++◌}
use native.Mathlib.Omega.{arith}
use native.Mathlib.Decide.{ℕ_discrete}
use lib.ListN.{length, get_or}
use lib.Dec.{ltb}
use borrow.Author.Tests.{not-true, not-false}
use Rattle.std.specs.Prelude.{Option, Some, None, is_some, ok_or, Result, Ok, Err}
use Rattle.base.proofs.Each.{each_at, each_same}
use Rattle.rules.specs.declared.BuildRefusal.{BuildRefusal}
use Rattle.rules.specs.declared.BuildRefusal.TheVariants.{Items as TooManyItems}
use Rattle.rules.specs.Limits.{limits}
use Rattle.rules.specs.Records.{Grammar, records}
use Rattle.rules.specs.Tokens.{TokenSet}
use Rattle.rules.specs.States.{State, done, refused, each_in_turn, Follow, closure, kernel_over, symbols, add_transition, Collection, item_count, expanded, expand_next}
use Rattle.room.specs.Areas.{Room, view}
use Rattle.packed.specs.Packed.{low, middle, high}
use Rattle.states.specs.StatesIn.{first_of, state_in, states_in}
use Rattle.states.proofs.States.{states_length, states_more, state_same}
use Rattle.states.proofs.Places.{firsts_ascend, item_count_lem, states_kept}
use Rattle.closures.specs.Closures.{follow_in}
use Rattle.lr.specs.Kernels.{symbol_by, parent_word, parent_of, kernel_in, kernels_in, Parented}
use Rattle.lr.specs.Expansions.{expansion_in, expanded_to, StillParented, Transitions}
use Rattle.lr.proofs.Parents.{kernel_other}
use Rattle.collection.specs.Collections.{start_of, collection_in, collected_to}
use Rattle.collection.specs.Expands.{closed_next, ClosesNext, ExpandsNext}
use Rattle.collection.proofs.Frames.{only_both, only_next, only_expanded}

-- ---- what the definition says in each case
module _ (g : Grammar) (follow : Follow) (c : Collection) (state : State) (is : closure g follow (get_or c.kernels (length c.states) []) ≡ state) where
  next_refused : ltb 2048 (item_count c.states + length state) ≡ true → expand_next limits g follow c ≡ refused TooManyItems
  unfolding expand_next limits
  next_refused e = rw (is, e)

  next_expanded : ltb 2048 (item_count c.states + length state) ≡ false
      → expand_next limits g follow c ≡ expanded c.states (each_in_turn (add_transition limits g) (symbols g) (record { kernels = c.kernels; entries = state }))
  unfolding expand_next limits
  next_expanded e = rw (is, e)

-- ---- the states so far with the one that was expanded
collected : (g : Grammar) (start : TokenSet) (q : Room) (s : ℕ) (states : List State) (r : Result ℕ BuildRefusal) → states_in q s ≡ states → expanded states (expanded_to g start q s r) ≡ collected_to g start q (s + 1) r
unfolding expanded expanded_to expansion_in collected_to collection_in
collected g start q s states (Ok count) same =
    ap (λ (l : List State). done (record { kernels = kernels_in g start q count; states = l })) (ap (λ (l : List State). l ++ (state_in q s ∷ [])) (sym same) ∙ sym (states_more q s))
collected g start q s states (Err why) same = refl

-- ---- what `ok_or` says of the value that it was given
module _ (o : Option (Unit {0})) (e : BuildRefusal) (r : Result (Unit {0}) BuildRefusal) (is : r ≡ ok_or o e) where
  pub was_some : (x : Unit {0}) → r ≡ Ok x → not (is_some o) ≡ false
  was_some x ok = go o (sym is ∙ ok)
    where
      go : (o : Option (Unit {0})) → ok_or o e ≡ Ok x → not (is_some o) ≡ false
      go (Some y) h = refl
      go None h = let z : Err e ≡ Ok x = h in let y : ◌≡◌ {A = ℕ} 0 1 = cc in absurd (omega arith)

  pub was_none : (why : BuildRefusal) → r ≡ Err why → (not (is_some o) ≡ true) × (why ≡ e)
  was_none why err = go o (sym is ∙ err)
    where
      go : (o : Option (Unit {0})) → ok_or o e ≡ Err why → (not (is_some o) ≡ true) × (why ≡ e)
      go None h = let z : Err e ≡ Err why = h in (refl, cc)
      go (Some y) h = let z : Ok y ≡ Err why = h in let y : ◌≡◌ {A = ℕ} 0 1 = cc in absurd (omega arith)

-- ---- state 0's kernel goes by no room
zero_same : (g : Grammar) (start : TokenSet) (q v : Room) → kernel_in g start q 0 ≡ kernel_in g start v 0
unfolding kernel_in
zero_same g start q v = refl

-- ---- the next state's kernel has a parent among the closed states
pub next_parented : (bytes : List ℕ) (s count : ℕ) (w : List ℕ) → Parented bytes s count w → s < count → Parented bytes s (s + 1) w
next_parented bytes s count w parented h = record {
  long = parented.long;
  few = omega (arith, parented.few);
  placed = parented.placed;
  parents = λ t a b. parented.parents t a (omega arith);
  kinds = λ t a b. parented.kinds t a (omega arith);
}

module _ (bytes : List ℕ) (canonical : Bool) (n s count : ℕ) (w w₁ : List ℕ) (fits : Bool) (parented : Parented bytes s count w) (h : s < count) (next : ClosesNext bytes canonical n s w w₁ fits) where
  abbrev g : Grammar
  g = records bytes

  abbrev start : TokenSet
  start = start_of canonical n

  abbrev follow : Follow
  follow = follow_in g canonical n (view w)

  state_is : closure g follow (get_or (collection_in g start (view w) s count).kernels (length (collection_in g start (view w) s count).states) []) ≡ closed_next bytes canonical n s (view w)
  unfolding collection_in kernels_in
  state_is =
      let z : 0 + s ≡ s = omega arith in
      ap (closure g follow)
      (ap (λ (k : ℕ). get_or (kernels_in g start (view w) count) k []) (states_length (view w) s) ∙ each_at (kernel_in g start (view w)) 0 count s [] h ∙ ap (kernel_in g start (view w)) z)

  size_is : item_count (collection_in g start (view w) s count).states + length (closed_next bytes canonical n s (view w)) ≡ first_of (view w) s + length (closed_next bytes canonical n s (view w))
  unfolding collection_in
  size_is = ap (λ (k : ℕ). k + length (closed_next bytes canonical n s (view w))) (item_count_lem (length g) s (view w) parented.placed)

  pub expansion_refused : not fits ≡ true → ExpandsNext bytes canonical n s count w w₁ (Err TooManyItems)
  unfolding collected_to StillParented
  expansion_refused e =
      let full : ltb 2048 (first_of (view w) s + length (closed_next bytes canonical n s (view w))) ≡ true = not-false _ (sym next.fitted ∙ not-true fits e) in
      record {
        outcome = sym (next_refused g follow (collection_in g start (view w) s count) _ state_is (rw size_is full));
        only = only_next (view w) (view w₁) s next.only;
        left = tt;
      }

  -- ---- the kernels stay when the next state is closed
  parents_same : (t : ℕ) → parent_word (view w₁) t ≡ parent_word (view w) t
  parents_same t = ap (λ (r : Room). parent_word r t) next.only.others

  parent_state_same : (p : ℕ) → p < s → state_in (view w₁) p ≡ state_in (view w) p
  parent_state_same p l =
      state_same (view w) (view w₁) p (next.only.places p (omega arith)) (next.only.places (p + 1) (omega arith))
      (λ k place. next.only.entries k (omega (arith, place.to, firsts_ascend (length g) s (view w) parented.placed (p + 1) s (omega arith) (omega arith))))

  kernel_same : (t : ℕ) → t < count → Dec (t ≡ 0) → kernel_in g start (view w₁) t ≡ kernel_in g start (view w) t
  kernel_same t l (yes z) = rw z (zero_same g start (view w₁) (view w))
  kernel_same t l (no ne) =
      let words : parent_word (view w₁) t ≡ parent_word (view w) t = parents_same t in
      kernel_other g [] start (view w₁) t (omega arith)
      ∙ ap₂ (kernel_over g) (ap (λ (x : ℕ). symbol_by (high x) (middle x)) words) (ap (λ (x : ℕ). state_in (view w₁) (low x)) words ∙ parent_state_same (parent_of (view w) t) (parented.parents t (omega arith) l))
      ∙ sym (kernel_other g [] start (view w) t (omega arith))

  kernels_same : kernels_in g start (view w₁) count ≡ kernels_in g start (view w) count
  unfolding kernels_in
  kernels_same = each_same (kernel_in g start (view w₁)) (kernel_in g start (view w)) 0 count (λ t a b. kernel_same t (omega arith) (ℕ_discrete t 0))

  module _ (e : not fits ≡ false) where
    fit : fits ≡ true
    fit = not-false fits e

    pub closed_parented : length w₁ ≡ length w → Parented bytes (s + 1) count w₁
    closed_parented size = record {
      long = omega (arith, parented.long);
      few = parented.few;
      placed = next.placed fit;
      parents = λ t a b. rw (parents_same t) (omega (arith, parented.parents t a b));
      kinds = λ t a b. rw (parents_same t) (parented.kinds t a b);
    }

    expansion_is : expansion_in g start (view w₁) s count ≡ record { kernels = kernels_in g start (view w) count; entries = closed_next bytes canonical n s (view w) }
    unfolding expansion_in
    expansion_is = ap₂ (λ (ks : List State) (es : State). record { kernels = ks; entries = es }) kernels_same (next.state fit)

    module _ (w₂ : List ℕ) (r : Result ℕ BuildRefusal) (over : Transitions bytes (symbols (records bytes)) s count w₁ w₂ r) where
      states_same : states_in (view w₂) s ≡ states_in (view w) s
      states_same =
          states_kept (length g) s (view w) (view w₂) parented.placed (λ t l. ap (λ (q : Room). first_of q t) over.only.others ∙ next.only.places t l)
          (λ k l. over.only.before k (rw (next.only.places s (omega arith)) l) ∙ next.only.entries k l)

      turn_is : expanded (states_in (view w) s) (expanded_to g start (view w₂) s r) ≡ expand_next limits g follow (collection_in g start (view w) s count)
      unfolding collection_in
      turn_is =
          let room : ltb 2048 (first_of (view w) s + length (closed_next bytes canonical n s (view w))) ≡ false = not-true _ (sym next.fitted ∙ fit) in
          ap (expanded (states_in (view w) s)) (over.outcome start ∙ ap (each_in_turn (add_transition limits g) (symbols g)) expansion_is)
          ∙ sym (next_expanded g follow (collection_in g start (view w) s count) _ state_is (rw size_is room))

      pub expansion_goes : ExpandsNext bytes canonical n s count w w₂ r
      expansion_goes = record {
        outcome = sym (collected g start (view w₂) s (states_in (view w) s) r states_same) ∙ turn_is;
        only = only_both (view w) (view w₁) (view w₂) (only_next (view w) (view w₁) s next.only) (only_expanded (view w₁) (view w₂) s over.only);
        left = over.left;
      }
