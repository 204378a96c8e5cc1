-- Kernels found by their parents: over different symbols they differ, and the search for one goes by numbers of states.
use Prim.Native.Nat.{ℕ, zero, suc, ◌+◌, ◌-◌, ◌≤◌, ◌<◌}
use mathlib.Core.Path.{◌≡◌, refl, sym, ap, ap₂, ◌∙◌}
use mathlib.Core.Bool.{Bool, true, false, not, true≢false}
use mathlib.Core.List.{List, [], ◌∷◌}
use native.Mathlib.Omega.{arith}
use lib.ListN.{length}
use lib.Dec.{eqb}
use borrow.Author.Tests.{eqb-true, ne_eqb}
use Rattle.std.specs.Prelude.{Option}
use Rattle.base.specs.Among.{Among, here}
use Rattle.base.specs.Each.{each_from}
use Rattle.base.specs.Pick.{pick}
use Rattle.base.specs.Loops.{first_from, place_below}
use Rattle.base.specs.Lists.{keep, place_of, is_empty}
use Rattle.base.proofs.Lists.{keep_among}
use Rattle.base.proofs.Members.{map_among}
use Rattle.base.proofs.Tests.{both_true}
use Rattle.base.proofs.Turns.{first_miss}
use Rattle.rules.specs.Records.{Grammar, at, records}
use Rattle.rules.specs.Tokens.{TokenSet}
use Rattle.rules.specs.Grammar.{Symbol, nonterminal, terminal, at_end, symbol_of, same_symbol, is_before}
use Rattle.rules.specs.States.{Entry, State, kernel_over, same_kernel}
use Rattle.room.specs.Areas.{Room, view}
use Rattle.packed.specs.Packed.{low, middle, high}
use Rattle.states.specs.StatesIn.{run_in, first_of, state_in, PlacedRun}
use Rattle.states.proofs.States.{state_run}
use Rattle.lr.specs.Kernels.{symbol_by, parent_word, parent_of, parent_symbol, state_kernel, own_kernel, kernel_in, kernels_in, Parented, HasKernel, Comparable, KernelPlace}
use Rattle.lr.proofs.Compare.{moved}

-- ---- one symbol stands behind a dot
same_symbols : (x y : Symbol) → same_symbol x y ≡ true → x ≡ y
unfolding same_symbol
same_symbols (nonterminal a) (nonterminal b) e = ap nonterminal (eqb-true a b e)
same_symbols (nonterminal a) (terminal b) e = absurd (true≢false (sym e))
same_symbols (terminal a) (nonterminal b) e = absurd (true≢false (sym e))
same_symbols (terminal a) (terminal b) e = ap terminal (eqb-true a b e)

before_is : (g : Grammar) (x : Symbol) (i : ℕ) → is_before g x i ≡ true → symbol_of (at g (i + 1)) ≡ x
unfolding is_before
before_is g x i e = same_symbols _ x (both_true (not (at_end g i)) _ e).1

kernel_items : (g : Grammar) (x : Symbol) (es : State) (e : Entry) → Among e (kernel_over g x es) → (i : ℕ) × (e.item ≡ i + 1) × (is_before g x i ≡ true)
unfolding kernel_over
kernel_items g x es e m =
    let (f, among, is) = map_among moved (keep (λ f. is_before g x f.item) es) m in
    (f.item, ap (λ (y : Entry). y.item) is, (keep_among (λ f. is_before g x f.item) es among).1)

longer : (a : Entry) (later : State) → false ≡ same_kernel (a ∷ later) []
unfolding same_kernel
longer a later = refl

differ : (a b : Entry) (later rest : State) → eqb a.item b.item ≡ false → false ≡ same_kernel (a ∷ later) (b ∷ rest)
unfolding same_kernel
differ a b later rest e = rw e

empty_true : is_empty {A = Entry} [] ≡ true
unfolding is_empty
empty_true = refl

module _ (g : Grammar) (x y : Symbol) (es fs : State) where
  pub kernels_differ : (x ≡ y → ⊥) → is_empty (kernel_over g x es) ≡ false → false ≡ same_kernel (kernel_over g x es) (kernel_over g y fs)
  kernels_differ ne some = go (kernel_over g x es) (kernel_over g y fs) refl refl some
    where
      go : (later rest : State) → kernel_over g x es ≡ later → kernel_over g y fs ≡ rest → is_empty later ≡ false → false ≡ same_kernel later rest
      go [] rest ea eb nonempty = absurd (true≢false (sym empty_true ∙ nonempty))
      go (a ∷ later) [] ea eb nonempty = longer a later
      go (a ∷ later) (b ∷ rest) ea eb nonempty = by_items (eqb a.item b.item) refl
        where
          by_items : (c : Bool) → eqb a.item b.item ≡ c → false ≡ same_kernel (a ∷ later) (b ∷ rest)
          by_items true t =
              let (i, ei, before-x) = kernel_items g x es a (rw ea here) in
              let (j, ej, before-y) = kernel_items g y fs b (rw eb here) in
              let same : i ≡ j = omega (arith, eqb-true a.item b.item t) in
              absurd (ne (sym (before_is g x i before-x) ∙ ap (λ (k : ℕ). symbol_of (at g (k + 1))) same ∙ before_is g y j before-y))
          by_items false t = differ a b later rest t

-- ---- the comparison with state t
pub own_run : (bytes : List ℕ) (x : Symbol) (s t : ℕ) (w : List ℕ) (first end : ℕ) → Comparable bytes x s t w → first ≡ first_of (view w) s → end ≡ first_of (view w) (s + 1) → PlacedRun (length (records bytes)) (view w) first end
own_run bytes x s t w first end able ef ee = rw (ef, ee) able.own

module _ (bytes : List ℕ) (x : Symbol) (s t : ℕ) (w : List ℕ) (word : ℕ) (able : Comparable bytes x s t w) (read : word ≡ parent_word (view w) t) where
  pub symbol_differs : (y : Symbol) → y ≡ symbol_by (high word) (middle word) → (x ≡ y → ⊥)
      → false ≡ same_kernel (kernel_over (records bytes) x (state_in (view w) s)) (kernel_over (records bytes) (parent_symbol (view w) t) (state_in (view w) (parent_of (view w) t)))
  symbol_differs y is ne = kernels_differ (records bytes) _ _ _ _ (λ e. ne (e ∙ sym (is ∙ ap (λ (v : ℕ). symbol_by (high v) (middle v)) read))) able.some

  module _ (p : ℕ) (parent : p ≡ low word) where
    parent_is : p ≡ parent_of (view w) t
    parent_is = parent ∙ ap low read

    pub parent_below : p < 128
    parent_below = rw parent_is able.states.2

    pub parent_within : p ≤ 128
    parent_within = omega (arith, parent_below)

    pub other_run : (other last : ℕ) → other ≡ first_of (view w) p → last ≡ first_of (view w) (p + 1) → PlacedRun (length (records bytes)) (view w) other last
    other_run other last eo el = rw (eo, el, parent_is) able.other

    module _ (first end other last : ℕ) (ef : first ≡ first_of (view w) s) (ee : end ≡ first_of (view w) (s + 1)) (eo : other ≡ first_of (view w) p) (el : last ≡ first_of (view w) (p + 1)) where
      pub kernels_compared : (y : Symbol) (r : Bool) → y ≡ symbol_by (high word) (middle word) → x ≡ y
          → r ≡ same_kernel (kernel_over (records bytes) x (run_in (view w) first end)) (kernel_over (records bytes) x (run_in (view w) other last))
          → r ≡ same_kernel (kernel_over (records bytes) x (state_in (view w) s)) (kernel_over (records bytes) (parent_symbol (view w) t) (state_in (view w) (parent_of (view w) t)))
      kernels_compared y r is same says =
          let symbol : x ≡ parent_symbol (view w) t = same ∙ is ∙ ap (λ (v : ℕ). symbol_by (high v) (middle v)) read in
          let mine : run_in (view w) first end ≡ state_in (view w) s = ap₂ (run_in (view w)) ef ee ∙ sym (state_run (view w) s) in
          let theirs : run_in (view w) other last ≡ state_in (view w) (parent_of (view w) t) =
          ap₂ (run_in (view w)) (eo ∙ ap (first_of (view w)) parent_is) (el ∙ ap (λ (k : ℕ). first_of (view w) (k + 1)) parent_is) ∙ sym (state_run (view w) (parent_of (view w) t)) in
          says ∙ ap₂ same_kernel (ap (kernel_over (records bytes) x) mine) (ap₂ (kernel_over (records bytes)) symbol theirs)

-- ---- the search by numbers of states
place_from : {A : Type 0} (test : A → Bool) (f : ℕ → A) (n i : ℕ) → i + place_of test (each_from f i n) ≡ first_from (λ t. test (f t)) n i
unfolding place_of each_from first_from
place_from test f zero i = omega arith
place_from test f (suc n) i = go (test (f i)) refl (place_from test f n (suc i))
  where
    go : (b : Bool) → test (f i) ≡ b → suc i + place_of test (each_from f (suc i) n) ≡ first_from (λ t. test (f t)) n (suc i) → i + place_of test (each_from f i (suc n)) ≡ first_from (λ t. test (f t)) (suc n) i
    go true e later = rw e (omega arith)
    go false e later = rw e (omega arith)

-- state t has the kernel
unfoldable pub has_kernel_of : Grammar → State → TokenSet → Room → ℕ → Bool
unfolding same_kernel kernel_in
has_kernel_of g kernel start r t = same_kernel kernel (kernel_in g start r t)

module _ (g : Grammar) (kernel : State) (start : TokenSet) (v : Room) where
  kernels_place : (count : ℕ) → place_of (same_kernel kernel) (kernels_in g start v count) ≡ first_from (has_kernel_of g kernel start v) count 0
  unfolding kernels_in has_kernel_of
  kernels_place count =
      let z : place_of (same_kernel kernel) (each_from (kernel_in g start v) 0 count) ≡ 0 + place_of (same_kernel kernel) (each_from (kernel_in g start v) 0 count) = omega arith in
      z ∙ place_from (same_kernel kernel) (kernel_in g start v) count 0

  pub kernel_other : (t : ℕ) → 0 < t → kernel_in g start v t ≡ kernel_over g (parent_symbol v t) (state_in v (parent_of v t))
  unfolding kernel_in
  kernel_other t h = rw (ne_eqb t 0 (λ e. omega arith))

  kernel_zero : kernel_in g start v 0 ≡ record { item = 0; next = 0; set = start } ∷ []
  unfolding kernel_in
  kernel_zero = refl

  has_is : (t : ℕ) → has_kernel_of g kernel start v t ≡ same_kernel kernel (kernel_in g start v t)
  unfolding has_kernel_of
  has_is t = refl

-- no moved dot is at the start
zero_differs : (g : Grammar) (x : Symbol) (es : State) (start : TokenSet) (v : Room) → is_empty (kernel_over g x es) ≡ false → has_kernel_of g (kernel_over g x es) start v 0 ≡ false
zero_differs g x es start v some = has_is g (kernel_over g x es) start v 0 ∙ ap (same_kernel (kernel_over g x es)) (kernel_zero g (kernel_over g x es) start v) ∙ go (kernel_over g x es) refl some
  where
    go : (kernel : State) → kernel_over g x es ≡ kernel → is_empty kernel ≡ false → same_kernel kernel (record { item = 0; next = 0; set = start } ∷ []) ≡ false
    go [] e nonempty = absurd (true≢false (sym empty_true ∙ nonempty))
    go (a ∷ later) e nonempty =
        let (i, is, before) = kernel_items g x es a (rw e here) in
        sym (differ a (record { item = 0; next = 0; set = start }) later [] (ne_eqb a.item 0 (λ z. omega arith)))

-- ---- the search is among the states that have a parent
first_alike : (test other : ℕ → Bool) (n i : ℕ) → ((k : ℕ) → i ≤ k → k < i + n → test k ≡ other k) → first_from test n i ≡ first_from other n i
unfolding first_from
first_alike test other zero i alike = refl
first_alike test other (suc n) i alike = ap₂ (λ (b : Bool) (r : ℕ). pick b i r) (alike i (omega arith) (omega arith)) (first_alike test other n (suc i) (λ k a b. alike k (omega arith) (omega arith)))

pub comparable : (bytes : List ℕ) (x : Symbol) (s count : ℕ) (w : List ℕ) (t : ℕ) → Parented bytes (s + 1) count w → s < 128 → HasKernel (records bytes) x (view w) s → 1 ≤ t → t < count → Comparable bytes x s t w
comparable bytes x s count w t parented small some from to =
    let p = parented.parents t (omega arith) to in
    record {
      long = parented.long;
      states = (small, omega (arith, parented.few), omega arith);
      own = parented.placed.each s (omega arith);
      other = parented.placed.each (parent_of (view w) t) p;
      some = some;
    }

pub kernel_found : (bytes : List ℕ) (x : Symbol) (s count : ℕ) (w : List ℕ) (r : Option ℕ) → 0 < count → HasKernel (records bytes) x (view w) s
    → r ≡ place_below count (first_from (λ t. same_kernel (state_kernel bytes x (view w) s) (own_kernel bytes (view w) t)) (count - 1) 1) → KernelPlace bytes x s count w r
kernel_found bytes x s count w r begun some is = record {
  found = λ start.
      let kernel : State = kernel_over (records bytes) x (state_in (view w) s) in
      let test : ℕ → Bool = has_kernel_of (records bytes) kernel start (view w) in
      let later : first_from test count 0 ≡ first_from test (count - 1) 1 = first_miss _ count (count - 1) 0 (omega arith) (zero_differs (records bytes) x (state_in (view w) s) start (view w) some) in
      let alike : first_from (λ t. same_kernel kernel (own_kernel bytes (view w) t)) (count - 1) 1 ≡ first_from test (count - 1) 1 =
      first_alike _ test (count - 1) 1 (λ t a b. ap (same_kernel kernel) (sym (kernel_other (records bytes) kernel start (view w) t (omega arith))) ∙ sym (has_is (records bytes) kernel start (view w) t)) in
      is ∙ ap (place_below count) (alike ∙ sym later ∙ sym (kernels_place (records bytes) kernel start (view w) count));
}
