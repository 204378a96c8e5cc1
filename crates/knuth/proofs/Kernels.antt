-- The closure of any kernel, by any `follow`: it has the kernel and what its entries hand on, and nothing else.
use Prim.Native.Nat.{ℕ, ◌+◌, ◌*◌, ◌^◌, ◌<◌}
use mathlib.Core.Path.{◌≡◌, refl, ap}
use mathlib.Core.Logic.{◌⊎◌, inl, inr, ⊎_elim}
use mathlib.Core.Bool.{Bool, true, false, not}
use mathlib.Core.List.{map}
use lib.ListN.{replicate}
use borrow.Author.Tests.{eqb-false, ne_eqb, not-true}
use Rattle.base.specs.Pick.{pick}
use Rattle.base.specs.Among.{Among}
use Rattle.base.specs.Lists.{keep}
use Rattle.base.proofs.Lists.{among_map, keep_among, among_keep, fold_keeps, at_replicate}
use Rattle.base.proofs.Members.{among_append, append_left, append_right, map_among}
use Rattle.base.proofs.Until.{rounds_keep}
use Rattle.rules.specs.Records.{Grammar, at}
use Rattle.rules.specs.Tokens.{TokenSet, Has, is_empty_set}
use Rattle.rules.specs.Grammar.{Symbol, is_before, left_sides, terminal_count, nonterminal_count}
use Rattle.rules.specs.First.{Sets, set_of, join_at}
use Rattle.rules.specs.States.{Entry, State, Follow, closes, hands_on, close_item, close_kernel, close_left_sides, closure_settled, closure_sets, entry_of, closure, kernel_over}
use Rattle.sets.proofs.Laws.{has_none}
use Rattle.sets.proofs.Tables.{join_at_only_lem}
use Rattle.knuth.proofs.Closures.{NarrowState, FollowsNarrow, kernel_closed, left_side_closed_lem, closure_in_range}

-- each set of a state has a token, and none over n
abbrev pub ProperSets : Grammar → State → Type 0
ProperSets g state = (e : Entry) → Among e state → (e.set < 2 ^ (terminal_count g + 1)) × (e.set ≡ 0 → ⊥)

module _ (g : Grammar) (follow : Follow) (kernel : State) where
  abbrev sets_of : Sets
  sets_of = closure_sets g follow kernel

  -- an entry is one of the kernel, or a left-side record with the set of its nonterminal, if that has a token
  pub closure_entry : (e : Entry) → Among e (closure g follow kernel)
      → Among e kernel ⊎ ((i : ℕ) × Among i (left_sides g) × (e ≡ entry_of g sets_of i) × (e.set ≡ 0 → ⊥))
  unfolding closure is_empty_set
  closure_entry e m = ⊎_elim inl (λ k. inr (left k)) (among_append kernel m)
    where
      left : Among e (keep (λ e. not (is_empty_set e.set)) (map (entry_of g sets_of) (left_sides g)))
          → (i : ℕ) × Among i (left_sides g) × (e ≡ entry_of g sets_of i) × (e.set ≡ 0 → ⊥)
      left k =
          let (j, p) = keep_among (λ (e : Entry). not (is_empty_set e.set)) (map (entry_of g sets_of) (left_sides g)) k in
          let (i, q, r) = map_among (entry_of g sets_of) (left_sides g) j in
          (i, q, r, eqb-false e.set 0 (not-true _ p))

  pub kernel_in_closure : (e : Entry) → Among e kernel → Among e (closure g follow kernel)
  unfolding closure
  kernel_in_closure e m = append_left _ m

  pub left_side_in_closure : (i u : ℕ) → Among i (left_sides g) → Has (set_of sets_of (at g i).symbol) u → Among (entry_of g sets_of i) (closure g follow kernel)
  unfolding closure is_empty_set entry_of
  left_side_in_closure i u m h =
      append_right kernel
      (among_keep (λ (e : Entry). not (is_empty_set e.set)) (among_map (entry_of g sets_of) m) (ap not (ne_eqb (set_of sets_of (at g i).symbol) 0 (λ z. has_none u (rw z at h)))))

  -- ---- what an entry hands on to a nonterminal is in its set
  module _ (narrow : FollowsNarrow g follow) (proper : ProperSets g kernel) where
    pub closed_in_closure : (e : Entry) → Among e (closure g follow kernel) → (u : ℕ) → closes g e.item e.set ≡ true
        → Has (hands_on g follow e.item e.set) u → Has (set_of sets_of (at g (e.item + 1)).symbol) u
    unfolding entry_of
    closed_in_closure e m u a h =
        ⊎_elim (λ k. kernel_closed g follow narrow kernel small k u a h)
        (λ (i, k, q, some).
        let p : e.item ≡ i = ap (λ (e : Entry). e.item) q in
        let s : e.set ≡ set_of sets_of (at g i).symbol = ap (λ (e : Entry). e.set) q in
        rw p (left_side_closed_lem g follow narrow kernel small i k u (rw (p, s) at a) (rw (p, s) at h)))
        (closure_entry e m)
      where
        small : NarrowState g kernel
        small f k = (proper f k).0

    pub closure_proper : ProperSets g (closure g follow kernel)
    unfolding entry_of
    closure_proper e m =
        ⊎_elim (proper e) (λ (i, k, q, some). (rw q ((closure_in_range g follow narrow kernel (λ f j. (proper f j).0)).1 (at g i).symbol), some)) (closure_entry e m)

pub moved_proper : (g : Grammar) (x : Symbol) (state : State) → ProperSets g state → ProperSets g (kernel_over g x state)
unfolding kernel_over
moved_proper g x state proper e m =
    let (f, k, q) = map_among (λ (e : Entry). record { item = e.item + 1; next = 0; set = e.set }) _ m in
    rw q (proper f (keep_among (λ (e : Entry). is_before g x e.item) state k).0)

-- ---- and nothing else: what holds of the kernel's items and tokens, and of a nonterminal's left sides with each token that is handed on to
-- it, holds of the closure's
abbrev pub OnlyItems : (ℕ → ℕ → Type 0) → State → Type 0
OnlyItems Item state = (e : Entry) → Among e state → (t : ℕ) → Has e.set t → Item e.item t

module _ (g : Grammar) (follow : Follow) (Item Handed : ℕ → ℕ → Type 0)
    (handing : (i : ℕ) (s : TokenSet) → ((t : ℕ) → Has s t → Item i t) → closes g i s ≡ true → (u : ℕ) → Has (hands_on g follow i s) u → Handed (at g (i + 1)).symbol u)
    (taking : (i t : ℕ) → Among i (left_sides g) → Handed (at g i).symbol t → Item i t) where
  abbrev OnlySets : Sets → Type 0
  OnlySets sets = (B u : ℕ) → Has (set_of sets B) u → Handed B u

  close_item_only : (i : ℕ) (s : TokenSet) → ((t : ℕ) → Has s t → Item i t) → (sets : Sets) → OnlySets sets → OnlySets (close_item g follow i s sets)
  unfolding close_item
  close_item_only i s only sets h = by_test (closes g i s) refl
    where
      follows : TokenSet
      follows = hands_on g follow i s

      by_test : (d : Bool) → closes g i s ≡ d → OnlySets (pick d (join_at (at g (i + 1)).symbol follows sets) sets)
      by_test true a B u k = ⊎_elim (h B u) (λ (e, f). rw e (handing i s only a u f)) (join_at_only_lem (at g (i + 1)).symbol follows sets B u k)
      by_test false a B u k = h B u k

  pub closure_sets_only : (kernel : State) → OnlyItems Item kernel → OnlySets (closure_sets g follow kernel)
  unfolding closure_sets close_left_sides close_kernel set_of
  closure_sets_only kernel only =
      let m : ℕ = nonterminal_count g in
      let begun : OnlySets (replicate m 0) = λ B u h. absurd (has_none u (rw (at_replicate {A = ℕ} m 0 B) at h)) in
      rounds_keep (closure_settled g follow) (λ i sets. close_item g follow i (set_of sets (at g i).symbol) sets) OnlySets (left_sides g)
      (λ i k sets h. close_item_only i (set_of sets (at g i).symbol) (λ t j. taking i t k (h (at g i).symbol t j)) sets h)
      (m * (terminal_count g + 1)) (close_kernel g follow kernel (replicate m 0))
      (fold_keeps (λ e sets. close_item g follow e.item e.set sets) OnlySets kernel
      (λ e k sets h. close_item_only e.item e.set (only e k) sets h) (replicate m 0) begun)

  pub closure_only : (kernel : State) → OnlyItems Item kernel → OnlyItems Item (closure g follow kernel)
  unfolding entry_of
  closure_only kernel only e m t h =
      ⊎_elim (λ k. only e k t h)
      (λ (i, k, q, some).
      let p : e.item ≡ i = ap (λ (e : Entry). e.item) q in
      let s : e.set ≡ set_of (closure_sets g follow kernel) (at g i).symbol = ap (λ (e : Entry). e.set) q in
      rw p (taking i t k (closure_sets_only kernel only (at g i).symbol t (rw s at h))))
      (closure_entry g follow kernel e m)
