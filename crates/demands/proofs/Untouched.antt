-- Every set of the LR(0) states is `all`: the closure hands `all` on, and a moved dot carries it along.
use Prim.Native.Nat.{ℕ, ◌+◌, ◌<◌, ◌≤◌}
use mathlib.Core.Path.{◌≡◌, refl, ap, ◌∙◌}
use mathlib.Core.Logic.{⊎_elim}
use mathlib.Core.Bool.{true}
use mathlib.Core.List.{List, []}
use native.Mathlib.Omega.{arith}
use lib.ListN.{length, get_or}
use Rattle.base.specs.Among.{Among}
use Rattle.base.proofs.Lists.{among_map}
use Rattle.base.proofs.Places.{within_states}
use Rattle.rules.specs.Limits.{Limits}
use Rattle.rules.specs.Records.{Grammar, at}
use Rattle.rules.specs.Tokens.{TokenSet, Has, all}
use Rattle.rules.specs.Grammar.{Symbol, symbols_behind, left_sides, terminal_count}
use Rattle.rules.specs.First.{Sets, set_of}
use Rattle.rules.specs.States.{Entry, State, closes, hands_on, entry_of, closure_sets, closure, kernel_over, lr0_states}
use Rattle.sets.proofs.Laws.{same_tokens, some_token, has_all, has_none, has_below, all_below}
use Rattle.knuth.proofs.Closures.{closes_behind, behind_closes, lr0_follows_narrow}
use Rattle.knuth.proofs.Kernels.{ProperSets, closure_entry, kernel_in_closure, left_side_in_closure, closed_in_closure, closure_proper, closure_sets_only}
use Rattle.walks.proofs.Outcomes.{Holds, holds_also}
use Rattle.demands.proofs.Laws.{among_one, same_set, kernel_over_entry}
use Rattle.demands.proofs.Bare.{unlinked}
use Rattle.demands.proofs.Collection.{HasAutomaton, collection_linked}
use Rattle.demands.proofs.LR0.{lr0_follow}

-- every set of the state is `all`
abbrev pub Untouched : Grammar → State → Type 0
Untouched g state = (e : Entry) → Among e state → e.set ≡ all (terminal_count g)

module _ (g : Grammar) where
  abbrev n : ℕ
  n = terminal_count g

  abbrev Full : TokenSet → Type 0
  Full s = (t : ℕ) → t ≤ n → Has s t

  untouched_good : (k : State) → Untouched g k → ProperSets g k
  untouched_good k h e m = rw (h e m) (all_below n, λ z. has_none 0 (rw z at ((has_all n 0).1 (omega arith))))

  module _ (k : State) (untouched : Untouched g k) where
    abbrev sets : Sets
    sets = closure_sets g lr0_follow k

    -- the closure has item i with every token, and hands every token on to nonterminal B
    abbrev Item : ℕ → ℕ → Type 0
    Item i t = (e : Entry) × Among e (closure g lr0_follow k) × (e.item ≡ i) × Full e.set

    abbrev Handed : ℕ → ℕ → Type 0
    Handed B u = Full (set_of sets B)

    handed : (i : ℕ) (s : TokenSet) → ((t : ℕ) → Has s t → Item i t) → closes g i s ≡ true → (u : ℕ) → Has (hands_on g lr0_follow i s) u
        → Handed (at g (i + 1)).symbol u
    unfolding hands_on
    handed i s item a u h t b =
        let (e, m, q, full) = item u h in
        let some : e.set ≡ 0 → ⊥ = λ z. has_none 0 (rw z at (full 0 (omega arith))) in
        let (a', is, _) = closes_behind g e.item e.set (at g (i + 1)).symbol (ap (symbols_behind g) q ∙ behind_closes g i s a) some in
        rw (← is) (closed_in_closure g lr0_follow k (lr0_follows_narrow g) (untouched_good k untouched) e m t a' (full t b))

    opening : (i t : ℕ) → Among i (left_sides g) → Handed (at g i).symbol t → Item i t
    unfolding entry_of
    opening i t among full = (entry_of g sets i, left_side_in_closure g lr0_follow k i 0 among (full 0 (omega arith)), refl, full)

    sets_full : (B u : ℕ) → Has (set_of sets B) u → Full (set_of sets B)
    sets_full B u h =
        closure_sets_only g lr0_follow Item Handed handed opening k
        (λ e m t h. (e, kernel_in_closure g lr0_follow k e m, refl, λ t b. rw (untouched e m) ((has_all n t).1 b))) B u h

    closure_untouched : Untouched g (closure g lr0_follow k)
    unfolding entry_of
    closure_untouched e m = ⊎_elim (untouched e) (λ (i, among, q, some). left_side_lem i (same_set q) some) (closure_entry g lr0_follow k e m)
      where
        left_side_lem : (i : ℕ) → e.set ≡ set_of sets (at g i).symbol → (e.set ≡ 0 → ⊥) → e.set ≡ all n
        left_side_lem i s some =
            let (u, h) = some_token (set_of sets (at g i).symbol) (λ z. some (s ∙ z)) in
            let full : Full e.set = rw s (sets_full (at g i).symbol u h) in
            let good = closure_proper g lr0_follow k (lr0_follows_narrow g) (untouched_good k untouched) e m in
            same_tokens e.set (all n) (λ t. (
              (λ h. (has_all n t).1 (omega (arith, has_below (n + 1) e.set t good.0 h))),
              (λ h. full t ((has_all n t).0 h)),
            ))

  untouched_over : (k : State) → Untouched g k → (x : Symbol) → Untouched g (kernel_over g x (closure g lr0_follow k))
  untouched_over k h x e m =
      let (f, j, b, q) = kernel_over_entry g x (closure g lr0_follow k) m in
      same_set q ∙ closure_untouched k h f j

  module _ (l : Limits) (a-state : 0 < l.states) where
    abbrev AllUntouched : List State → Type 0
    AllUntouched states = (t : ℕ) → Untouched g (get_or states t [])

    abbrev HasUntouched : List State → Type 0
    HasUntouched = HasAutomaton l g lr0_follow (all n) (Untouched g) untouched_over

    states_untouched : (states : List State) → HasUntouched states → AllUntouched states
    states_untouched states (kernels, auto) t e m =
        let b : t < length states = within_states states t m in
        closure_untouched (get_or kernels t []) (auto.each t b) (unlinked e) (rw (auto.items t b) at (among_map unlinked m))

    pub lr0_untouched : Holds AllUntouched (lr0_states l g)
    unfolding lr0_states
    lr0_untouched =
        holds_also HasUntouched AllUntouched states_untouched (lr0_states l g)
        (collection_linked l g lr0_follow (all n) (Untouched g) untouched_over a-state (λ e m. same_set (among_one m)))
