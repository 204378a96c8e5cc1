-- The items of an item set are distinct: left sides are, a moved dot stands behind no left side, and the start stands on no right side.
use Prim.Native.Nat.{ℕ, zero, suc, ◌+◌, ◌<◌, ◌≤◌}
use mathlib.Core.Path.{◌≡◌, refl, sym, ap, ◌∙◌}
use mathlib.Core.Logic.{◌⊎◌, inl, inr, ⊎_elim}
use mathlib.Core.Bool.{Bool, true, false, not, true≢false}
use mathlib.Core.List.{List, [], ◌∷◌, ◌++◌, map}
use native.Mathlib.Omega.{arith}
use lib.ListN.{length}
use borrow.Author.Tests.{eqb-false, not-true}
use Rattle.base.specs.Pick.{pick}
use Rattle.base.specs.Among.{Among, here, later}
use Rattle.base.specs.Lists.{numbers_from, up_to, keep}
use Rattle.base.proofs.Lists.{among_none, among_map, keep_among, numbers_among}
use Rattle.base.proofs.Members.{among_append, map_among}
use Rattle.base.proofs.Tests.{both_true}
use Rattle.rules.specs.Limits.{Limits}
use Rattle.rules.proofs.Laws.{not_at_end_within}
use Rattle.rules.specs.Records.{Grammar, at, is_terminal}
use Rattle.rules.specs.Tokens.{TokenSet, Has, is_empty_set}
use Rattle.rules.specs.Grammar.{Symbol, at_start, at_end, is_before, left_sides, start}
use Rattle.rules.specs.First.{Sets, set_of}
use Rattle.rules.specs.States.{Entry, State, Follow, closes, hands_on, entry_of, closure_sets, closure, kernel_over}
use Rattle.sets.proofs.Laws.{some_token}
use Rattle.knuth.specs.Coded.{Checked}
use Rattle.knuth.specs.ItemSets.{canonical_follow, start_kernel, kernel_at, item_set}
use Rattle.knuth.proofs.Dots.{before_not_at_end}
use Rattle.knuth.proofs.Checked.{names_start_first}
use Rattle.knuth.proofs.Kernels.{closure_sets_only}
use Rattle.demands.proofs.Laws.{among_one, same_item, same_set, moved, kernel_over_entry}
use Rattle.demands.proofs.Bare.{unlinked, bare}

-- no two entries have one item
abbrev pub Distinct : State → Type 0
Distinct [] = Unit {0}
Distinct (e ∷ es) = ((f : Entry) → Among f es → e.item ≡ f.item → ⊥) × Distinct es

distinct_append : (es fs : State) → Distinct es → Distinct fs → ((e f : Entry) → Among e es → Among f fs → e.item ≡ f.item → ⊥) → Distinct (es ++ fs)
distinct_append [] fs p q r = q
distinct_append (e ∷ es) fs (h, p) q r =
    ((λ f m. ⊎_elim (h f) (λ k. r e f here k) (among_append es m)), distinct_append es fs p q (λ e f m k. r e f (later m) k))

pub distinct_keep : (test : Entry → Bool) (es : State) → Distinct es → Distinct (keep test es)
unfolding keep
distinct_keep test [] p = tt
distinct_keep test (e ∷ es) (h, p) = by_test (test e) (distinct_keep test es p)
  where
    by_test : (b : Bool) → Distinct (keep test es) → Distinct (pick b (e ∷ keep test es) (keep test es))
    by_test true q = ((λ f m. h f (keep_among test es m).0), q)
    by_test false q = q

-- what is made of the entries one by one, where equal items were equal
distinct_map : (change : Entry → Entry) → ((e f : Entry) → (change e).item ≡ (change f).item → e.item ≡ f.item) → (es : State) → Distinct es
    → Distinct (map change es)
distinct_map change back [] p = tt
distinct_map change back (e ∷ es) (h, p) =
    ((λ f m i. let (f', k, q) = map_among change es m in h f' k (back e f' (i ∙ same_item q))), distinct_map change back es p)

pub distinct_bare : (es : State) → Distinct (bare es) → Distinct es
distinct_bare [] p = tt
distinct_bare (e ∷ es) (h, p) = ((λ f m i. h (unlinked f) (among_map unlinked m) i), distinct_bare es p)

-- ---- left sides
module _ (g : Grammar) (sets : Sets) where
  -- the entries of the records from i on that pass a test
  abbrev entries_from : (ℕ → Bool) → ℕ → ℕ → State
  entries_from test i n = map (entry_of g sets) (keep test (numbers_from i n))

  numbered_distinct : (test : ℕ → Bool) (i n : ℕ) → Distinct (entries_from test i n)
  unfolding keep numbers_from entry_of
  numbered_distinct test i zero = tt
  numbered_distinct test i (suc n) = by_test (test i) (numbered_distinct test (suc i) n)
    where
      others : (f : Entry) → Among f (entries_from test (suc i) n) → i ≡ f.item → ⊥
      others f m e =
          let (j, k, q) = map_among (entry_of g sets) (keep test (numbers_from (suc i) n)) m in
          let above : suc i ≤ j = (numbers_among j (suc i) n (keep_among test (numbers_from (suc i) n) k).0).0 in
          let same : f.item ≡ j = same_item q in
          omega arith

      by_test : (b : Bool) → Distinct (entries_from test (suc i) n)
          → Distinct (map (entry_of g sets) (pick b (i ∷ keep test (numbers_from (suc i) n)) (keep test (numbers_from (suc i) n))))
      by_test true q = (others, q)
      by_test false q = q

  left_sides_distinct : Distinct (map (entry_of g sets) (left_sides g))
  unfolding left_sides up_to
  left_sides_distinct = numbered_distinct (at_start g) 0 (length g)

-- ---- kernels and closures
module _ (l : Limits) (g : Grammar) (checked : Checked l g) (follow : Follow) where
  -- some record that is not the first names the nonterminal
  Named : ℕ → ℕ → Type 0
  Named B u = (i : ℕ) × (i + 1 < length g) × (is_terminal (at g (i + 1)) ≡ false) × ((at g (i + 1)).symbol ≡ B)

  closes_named : (i : ℕ) (s : TokenSet) → ((t : ℕ) → Has s t → Unit {0}) → closes g i s ≡ true → (u : ℕ) → Has (hands_on g follow i s) u
      → Named (at g (i + 1)).symbol u
  unfolding closes Named
  closes_named i s _ a u h =
      let (_, q) = both_true (not (is_empty_set s)) _ a in
      let (p, k) = both_true (not (at_end g i)) (not (is_terminal (at g (i + 1)))) q in
      (i, not_at_end_within g i (not-true _ p), not-true _ k, refl)

  -- so it is not the start
  start_unnamed : (u : ℕ) → Named (start g) u → ⊥
  unfolding Named
  start_unnamed u (i, b, nt, e) =
      let z : i + 1 ≡ 0 = names_start_first g (i + 1) nt e (checked.start_once (i + 1) b) in omega arith

  -- the kernel's items are at no left side but the first
  abbrev PastLeftSides : State → Type 0
  PastLeftSides kernel = (e : Entry) → Among e kernel → (at_start g e.item ≡ false) ⊎ (e.item ≡ 0)

  named : (kernel : State) (B u : ℕ) → Has (set_of (closure_sets g follow kernel) B) u → Named B u
  named kernel B u h = closure_sets_only g follow (λ i t. Unit {0}) Named closes_named (λ i t m a. tt) kernel (λ e m t k. tt) B u h

  -- what a closure adds
  abbrev added : State → State
  added kernel = keep (λ e. not (is_empty_set e.set)) (map (entry_of g (closure_sets g follow kernel)) (left_sides g))

  added_apart : (kernel : State) → PastLeftSides kernel → (e f : Entry) → Among e kernel → Among f (added kernel) → e.item ≡ f.item → ⊥
  unfolding is_empty_set entry_of left_sides start
  added_apart kernel past e f m k q =
      let (j, p) = keep_among (λ (e : Entry). not (is_empty_set e.set)) (map (entry_of g (closure_sets g follow kernel)) (left_sides g)) k in
      let (i, n, r) = map_among (entry_of g (closure_sets g follow kernel)) (left_sides g) j in
      let set : f.set ≡ set_of (closure_sets g follow kernel) (at g i).symbol = same_set r in
      let (t, h) = some_token (set_of (closure_sets g follow kernel) (at g i).symbol) (λ z. eqb-false f.set 0 (not-true _ p) (set ∙ z)) in
      let left_side_lem : at_start g i ≡ true = (keep_among (at_start g) (up_to (length g)) n).1 in
      let same : e.item ≡ i = q ∙ same_item r in
      ⊎_elim (λ no_start. true≢false (sym left_side_lem ∙ ap (at_start g) (sym same) ∙ no_start))
      (λ first. start_unnamed t (named_first (sym same ∙ first) t (named kernel (at g i).symbol t h)))
      (past e m)
    where
      named_first : {i : ℕ} → i ≡ 0 → (t : ℕ) → Named (at g i).symbol t → Named (at g 0).symbol t
      named_first z t h = rw z at h

  closure_distinct : (kernel : State) → PastLeftSides kernel → Distinct kernel → Distinct (closure g follow kernel)
  unfolding closure
  closure_distinct kernel past p =
      let lefts : State = map (entry_of g (closure_sets g follow kernel)) (left_sides g) in
      distinct_append kernel (added kernel) p
      (distinct_keep (λ e. not (is_empty_set e.set)) lefts (left_sides_distinct g (closure_sets g follow kernel))) (added_apart kernel past)

  moved_distinct : (x : Symbol) (state : State) → Distinct state → Distinct (kernel_over g x state)
  unfolding kernel_over
  moved_distinct x state p =
      let before : Entry → Bool = λ e. is_before g x e.item in
      distinct_map moved (λ e f q. omega arith) (keep before state) (distinct_keep before state p)

  moved_past : (x : Symbol) (state : State) → PastLeftSides (kernel_over g x state)
  unfolding at_start at_end
  moved_past x state e m =
      let (f, k, b, q) = kernel_over_entry g x state m in
      inl (ap (λ (e : Entry). at_start g e.item) q ∙ before_not_at_end g x f.item b)

module _ (l : Limits) (g : Grammar) (checked : Checked l g) where
  kernel_distinct : (γ : List Symbol) → PastLeftSides l g checked (canonical_follow g) (kernel_at g γ) × Distinct (kernel_at g γ)
  unfolding kernel_at start_kernel
  kernel_distinct [] = ((λ e m. inr (same_item (among_one m))), ((λ f m. absurd (among_none m)), tt))
  kernel_distinct (x ∷ γ) =
      let follow : Follow = canonical_follow g in
      let (past, p) = kernel_distinct γ in
      let closed : State = closure g follow (kernel_at g γ) in
      (moved_past l g checked follow x closed, moved_distinct l g checked follow x closed (closure_distinct l g checked follow (kernel_at g γ) past p))

  pub item_set_distinct : (γ : List Symbol) → Distinct (item_set g γ)
  unfolding item_set
  item_set_distinct γ = let (past, p) = kernel_distinct γ in closure_distinct l g checked (canonical_follow g) (kernel_at g γ) past p
