-- The rounds of a closure end: one that is not the last adds one of n + 1 tokens to one of m sets. So the closure that `rules` computes
-- has all that its items hand on.
use Prim.Native.Nat.{ℕ, ◌+◌, ◌*◌, ◌^◌, ◌<◌}
use mathlib.Core.Path.{◌≡◌, refl, sym, ap, ◌∙◌}
use mathlib.Core.Bool.{Bool, true, false, ◌&&◌, ◌||◌, not, true≢false}
use mathlib.Core.List.{List, ◌∷◌, nil≢cons, head-eq_of_cons-eq, tail-eq_of_cons-eq}
use native.Mathlib.Omega.{arith}
use borrow.Author.Tests.{ne_eqb, not-true}
use lib.ListN.{length, replicate, length-replicate}
use Rattle.base.specs.Pick.{pick}
use Rattle.base.specs.Among.{Among, here, later}
use Rattle.base.specs.Lists.{fold_over}
use Rattle.base.proofs.Lists.{at_replicate, fold_keeps, each_true}
use Rattle.base.proofs.Tests.{both_true, implied_true}
use Rattle.base.proofs.Until.{Steps, rounds_keep, rounds_end}
use Rattle.rules.proofs.Laws.{not_at_end_within, nonterminal_counted_at}
use Rattle.rules.specs.Records.{Grammar, at, is_terminal}
use Rattle.rules.specs.Tokens.{TokenSet, Has, has, is_empty_set, join, within, without}
use Rattle.rules.specs.Grammar.{Symbol, nonterminal, terminal, symbol_of, at_end, symbols_behind, left_sides, terminal_count, nonterminal_count}
use Rattle.rules.specs.First.{Sets, set_of, join_at, first0, beginning, may_be_empty, first1, add_first, first_settled, first_sets}
use Rattle.rules.specs.States.{Entry, State, Follow, closes, hands_on, close_item, item_closed, close_kernel, close_left_sides, closure_settled, closure_sets}
use Rattle.sets.proofs.Laws.{within_true, none_below, join_below, without_below}
use Rattle.sets.proofs.Tables.{Grows, join_at_grows_lem, join_at_has_lem, join_at_length_lem, Narrow, mass, join_at_rests_lem, join_at_adds_lem, join_at_narrow_lem, InRange, none_in_range, join_at_in_range_lem, mass_in_range}
use Rattle.knuth.specs.ItemSets.{canonical_follow}
use Rattle.knuth.proofs.Productions.{terminals_below, nonterminal_record}
use Rattle.knuth.proofs.Dots.{at_end_behind, not_at_end_behind}
use Rattle.knuth.proofs.FirstSettles.{first0_narrow}

-- a symbol behind the dot: the dot is not at the end
not_at_end : (g : Grammar) (i : ℕ) {x : Symbol} {β : List Symbol} → symbols_behind g i ≡ x ∷ β
    → (at_end g i ≡ false) × (symbol_of (at g (i + 1)) ∷ symbols_behind g (i + 1) ≡ x ∷ β)
not_at_end g i {x} {β} e = by_test (at_end g i) refl
  where
    by_test : (b : Bool) → at_end g i ≡ b → (b ≡ false) × (symbol_of (at g (i + 1)) ∷ symbols_behind g (i + 1) ≡ x ∷ β)
    by_test true p = absurd (nil≢cons (sym (at_end_behind g i p) ∙ e))
    by_test false p = (refl, sym (not_at_end_behind g i p) ∙ e)

closes_below : (g : Grammar) (i : ℕ) (s : TokenSet) → closes g i s ≡ true → (at g (i + 1)).symbol < nonterminal_count g
unfolding closes
closes_below g i s e = by_tests (is_empty_set s) (at_end g i) (is_terminal (at g (i + 1))) refl refl e
  where
    by_tests : (b d k : Bool) → at_end g i ≡ d → is_terminal (at g (i + 1)) ≡ k → (not b && (not d && not k)) ≡ true → (at g (i + 1)).symbol < nonterminal_count g
    by_tests true d k p q h = absurd (true≢false (sym h))
    by_tests false true k p q h = absurd (true≢false (sym h))
    by_tests false false true p q h = absurd (true≢false (sym h))
    by_tests false false false p q h = nonterminal_counted_at g (i + 1) (not_at_end_within g i p) q

-- an item closes exactly if it has a token and a nonterminal stands behind its dot
pub closes_behind : (g : Grammar) (i : ℕ) (s : TokenSet) (B : ℕ) {β : List Symbol} → symbols_behind g i ≡ nonterminal B ∷ β → (s ≡ 0 → ⊥)
    → (closes g i s ≡ true) × ((at g (i + 1)).symbol ≡ B) × (symbols_behind g (i + 1) ≡ β)
unfolding closes is_empty_set
closes_behind g i s B e some =
    let (p, q) = not_at_end g i e in
    let (k, f) = nonterminal_record (at g (i + 1)) B (head-eq_of_cons-eq q) in
    (rw (p, k, ne_eqb s 0 some), f, tail-eq_of_cons-eq q)

pub behind_closes : (g : Grammar) (i : ℕ) (s : TokenSet) → closes g i s ≡ true → symbols_behind g i ≡ nonterminal (at g (i + 1)).symbol ∷ symbols_behind g (i + 1)
unfolding closes symbol_of
behind_closes g i s a =
    let (_, q) = both_true (not (is_empty_set s)) _ a in
    let (p, k) = both_true (not (at_end g i)) (not (is_terminal (at g (i + 1)))) q in
    not_at_end_behind g i (not-true _ p) ∙ ap (λ (b : Bool). pick b (terminal (at g (i + 1)).symbol) (nonterminal (at g (i + 1)).symbol) ∷ symbols_behind g (i + 1)) (not-true (is_terminal (at g (i + 1))) k)

-- no set of a state has a token over n
abbrev pub NarrowState : Grammar → State → Type 0
NarrowState g state = (e : Entry) → Among e state → e.set < 2 ^ (terminal_count g + 1)

module _ (g : Grammar) (follow : Follow) where
  abbrev n : ℕ
  n = terminal_count g

  abbrev m : ℕ
  m = nonterminal_count g

  -- nor has what a closure hands on
  abbrev pub FollowsNarrow : Type 0
  FollowsNarrow = (i : ℕ) (s : TokenSet) → s < 2 ^ (n + 1) → follow (symbols_behind g i) s < 2 ^ (n + 1)

  -- left-side record i with the set of its nonterminal
  abbrev close_left : ℕ → Sets → Sets
  close_left i sets = close_item g follow i (set_of sets (at g i).symbol) sets

  abbrev left_closed : ℕ → Sets → Bool
  left_closed i sets = item_closed g follow sets i (set_of sets (at g i).symbol)

  -- ---- one item
  close_item_grows : (i : ℕ) (s : TokenSet) (sets : Sets) → Grows sets (close_item g follow i s sets)
  unfolding close_item
  close_item_grows i s sets = by_test (closes g i s)
    where
      by_test : (d : Bool) → Grows sets (pick d (join_at (at g (i + 1)).symbol (hands_on g follow i s) sets) sets)
      by_test true = join_at_grows_lem (at g (i + 1)).symbol (hands_on g follow i s) sets
      by_test false = λ a t h. h

  close_item_length : (i : ℕ) (s : TokenSet) (sets : Sets) → length (close_item g follow i s sets) ≡ length sets
  unfolding close_item
  close_item_length i s sets = by_test (closes g i s)
    where
      by_test : (d : Bool) → length (pick d (join_at (at g (i + 1)).symbol (hands_on g follow i s) sets) sets) ≡ length sets
      by_test true = join_at_length_lem _ _ sets
      by_test false = refl

  module _ (narrow : FollowsNarrow) where
    close_item_keeps : (i : ℕ) (s : TokenSet) → s < 2 ^ (n + 1) → (sets : Sets) → InRange n m sets → InRange n m (close_item g follow i s sets)
    unfolding close_item
    close_item_keeps i s b sets r = by_test (closes g i s)
      where
        by_test : (d : Bool) → InRange n m (pick d (join_at (at g (i + 1)).symbol (hands_on g follow i s) sets) sets)
        by_test true = join_at_in_range_lem n m _ _ sets (narrow (i + 1) s b) r
        by_test false = r

    close_item_rests : (i : ℕ) (s : TokenSet) (sets : Sets) → item_closed g follow sets i s ≡ true → close_item g follow i s sets ≡ sets
    unfolding close_item item_closed
    close_item_rests i s sets e = by_test (closes g i s) e
      where
        by_test : (d : Bool) → (not d || within (hands_on g follow i s) (set_of sets (at g (i + 1)).symbol)) ≡ true
            → pick d (join_at (at g (i + 1)).symbol (hands_on g follow i s) sets) sets ≡ sets
        by_test true e = join_at_rests_lem n _ _ sets e
        by_test false e = refl

    close_item_adds : (i : ℕ) (s : TokenSet) → s < 2 ^ (n + 1) → (sets : Sets) → InRange n m sets → item_closed g follow sets i s ≡ false
        → mass n sets < mass n (close_item g follow i s sets)
    unfolding close_item item_closed
    close_item_adds i s b sets (l, h) e = by_test (closes g i s) refl e
      where
        by_test : (d : Bool) → closes g i s ≡ d → (not d || within (hands_on g follow i s) (set_of sets (at g (i + 1)).symbol)) ≡ false
            → mass n sets < mass n (pick d (join_at (at g (i + 1)).symbol (hands_on g follow i s) sets) sets)
        by_test true a e = join_at_adds_lem n _ _ sets (rw l (closes_below g i s a)) (narrow (i + 1) s b) e
        by_test false a e = absurd (true≢false e)

    steps : Steps close_left left_closed (mass n) (InRange n m) (left_sides g)
    steps = record {
      keeps = λ i k sets (l, s). close_item_keeps i (set_of sets (at g i).symbol) (s (at g i).symbol) sets (l, s);
      rests = λ i k sets s e. close_item_rests i (set_of sets (at g i).symbol) sets e;
      adds = λ i k sets (l, s) e. close_item_adds i (set_of sets (at g i).symbol) (s (at g i).symbol) sets (l, s) e;
    }

    close_kernel_keeps : (kernel : State) → NarrowState g kernel → (sets : Sets) → InRange n m sets → InRange n m (close_kernel g follow kernel sets)
    unfolding close_kernel
    close_kernel_keeps kernel small = fold_keeps (λ e sets. close_item g follow e.item e.set sets) (InRange n m) kernel (λ e k sets r. close_item_keeps e.item e.set (small e k) sets r)

    begun_in_range : (kernel : State) → NarrowState g kernel → InRange n m (close_kernel g follow kernel (replicate m 0))
    begun_in_range kernel small = close_kernel_keeps kernel small (replicate m 0) (none_in_range n m)

    -- a closure of a kernel whose sets have no token over n is settled
    pub closure_settled_lem : (kernel : State) → NarrowState g kernel → closure_settled g follow (closure_sets g follow kernel) ≡ true
    unfolding closure_settled closure_sets close_left_sides set_of at
    closure_settled_lem kernel small =
        rounds_end close_left left_closed (mass n) (InRange n m)
        (left_sides g) steps (m * (n + 1)) (mass_in_range n m) (m * (n + 1)) (close_kernel g follow kernel (replicate m 0)) (begun_in_range kernel small) (omega arith)

    pub closure_in_range : (kernel : State) → NarrowState g kernel → InRange n m (closure_sets g follow kernel)
    unfolding closure_sets close_left_sides
    closure_in_range kernel small =
        rounds_keep (closure_settled g follow) close_left (InRange n m) (left_sides g) steps.keeps
        (m * (n + 1)) (close_kernel g follow kernel (replicate m 0)) (begun_in_range kernel small)

    -- ---- what an item hands on is there
    close_item_has : (i : ℕ) (s : TokenSet) (sets : Sets) (u : ℕ) → closes g i s ≡ true → length sets ≡ m → Has (hands_on g follow i s) u
        → Has (set_of (close_item g follow i s sets) (at g (i + 1)).symbol) u
    unfolding close_item
    close_item_has i s sets u a l h = rw a (join_at_has_lem (at g (i + 1)).symbol (hands_on g follow i s) sets u (rw l (closes_below g i s a)) h)

    close_kernel_has : {e : Entry} {kernel : State} → Among e kernel → (sets : Sets) (u : ℕ) → closes g e.item e.set ≡ true → length sets ≡ m
        → Has (hands_on g follow e.item e.set) u → Has (set_of (close_kernel g follow kernel sets) (at g (e.item + 1)).symbol) u
    unfolding close_kernel fold_over
    close_kernel_has {e} (here {xs = es}) sets u a l h =
        fold_keeps (λ f sets. close_item g follow f.item f.set sets) (λ sets. Has (set_of sets (at g (e.item + 1)).symbol) u) es
        (λ f k sets k'. close_item_grows f.item f.set sets (at g (e.item + 1)).symbol u k') (close_item g follow e.item e.set sets) (close_item_has e.item e.set sets u a l h)
    close_kernel_has {e} (later {y = f} k) sets u a l h = close_kernel_has k (close_item g follow f.item f.set sets) u a (close_item_length f.item f.set sets ∙ l) h

    module _ (kernel : State) (small : NarrowState g kernel) where
      pub kernel_closed : {e : Entry} → Among e kernel → (u : ℕ) → closes g e.item e.set ≡ true
          → Has (hands_on g follow e.item e.set) u → Has (set_of (closure_sets g follow kernel) (at g (e.item + 1)).symbol) u
      unfolding closure_sets close_left_sides
      kernel_closed {e} k u a h =
          rounds_keep (closure_settled g follow) close_left (λ sets. Has (set_of sets (at g (e.item + 1)).symbol) u) (left_sides g)
          (λ i j sets k'. close_item_grows i (set_of sets (at g i).symbol) sets (at g (e.item + 1)).symbol u k')
          (m * (n + 1)) (close_kernel g follow kernel (replicate m 0)) (close_kernel_has k (replicate m 0) u a (length-replicate m 0) h)

      pub left_side_closed_lem : (i : ℕ) → Among i (left_sides g) → (u : ℕ) → closes g i (set_of (closure_sets g follow kernel) (at g i).symbol) ≡ true
          → Has (hands_on g follow i (set_of (closure_sets g follow kernel) (at g i).symbol)) u → Has (set_of (closure_sets g follow kernel) (at g (i + 1)).symbol) u
      unfolding closure_settled item_closed
      left_side_closed_lem i k u a h =
          let sets : Sets = closure_sets g follow kernel in
          let each = each_true (λ i. left_closed i sets) k (closure_settled_lem kernel small) in
          (within_true _ _).0 (implied_true (closes g i (set_of sets (at g i).symbol)) _ each a) u h

-- ---- the two modes
pub lr0_follows_narrow : (g : Grammar) → FollowsNarrow g (λ xs s. s)
lr0_follows_narrow g i s b = b

pub first_sets_narrow : (g : Grammar) → Narrow (terminal_count g) (first_sets g)
unfolding first_sets add_first
first_sets_narrow g =
    let n : ℕ = terminal_count g in
    let m : ℕ = nonterminal_count g in
    rounds_keep (first_settled g n) (add_first g n) (Narrow n) (left_sides g)
    (λ i k sets s. join_at_narrow_lem n (at g i).symbol (first0 n sets (symbols_behind g i)) sets (first0_narrow n sets s (symbols_behind g i) (terminals_below g i)) s)
    (m * (n + 1)) (replicate m 0) (λ a. rw (at_replicate {A = ℕ} m 0 a) (none_below (n + 1)))

pub canonical_follows_narrow : (g : Grammar) → FollowsNarrow g (canonical_follow g)
unfolding first1 beginning may_be_empty
canonical_follows_narrow g i s b = by_mark (has first n)
  where
    n : ℕ
    n = terminal_count g

    first : TokenSet
    first = first0 n (first_sets g) (symbols_behind g i)

    small : first < 2 ^ (n + 1)
    small = first0_narrow n (first_sets g) (first_sets_narrow g) (symbols_behind g i) (terminals_below g i)

    by_mark : (d : Bool) → pick d (join (without first n) s) first < 2 ^ (n + 1)
    by_mark true = join_below (n + 1) _ _ (without_below (n + 1) first n small) b
    by_mark false = small
