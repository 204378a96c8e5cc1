-- A state without its links. What the entries become over a symbol does not look at links, and a kernel that is found again is equal.
use Prim.Native.Nat.{ℕ}
use mathlib.Core.Path.{◌≡◌, refl, sym, ap, ap₂, ◌∙◌}
use mathlib.Core.Logic.{⊎_elim}
use mathlib.Core.Bool.{Bool, true, false, ◌&&◌, false≢true}
use mathlib.Core.List.{[], ◌∷◌, map}
use lib.Dec.{eqb}
use borrow.Author.Tests.{eqb-true}
use Rattle.base.specs.Pick.{pick}
use Rattle.base.specs.Among.{Among, here, later}
use Rattle.base.specs.Lists.{keep}
use Rattle.base.proofs.Members.{map_among}
use Rattle.base.proofs.Tests.{both_true}
use Rattle.rules.specs.Records.{Grammar}
use Rattle.rules.specs.Grammar.{Symbol, is_before}
use Rattle.rules.specs.States.{Entry, State, Follow, entry_of, closure, kernel_over, same_kernel, lead}
use Rattle.knuth.proofs.Kernels.{closure_entry}
use Rattle.demands.proofs.Laws.{same_next, moved, kernel_over_entry}

abbrev pub unlinked : Entry → Entry
unlinked e = record { item = e.item; next = 0; set = e.set }

abbrev pub bare : State → State
bare state = map unlinked state

-- no entry has a link
abbrev pub Bare : State → Type 0
Bare state = (e : Entry) → Among e state → e.next ≡ 0

pub bare_among : {e : Entry} {state : State} → Among e (bare state) → (f : Entry) × Among f state × (e ≡ unlinked f)
bare_among {state = state} m = map_among unlinked state m

same_entry_lem : (e f : Entry) → e.item ≡ f.item → e.next ≡ f.next → e.set ≡ f.set → e ≡ f
same_entry_lem e f p q r = λ i. record { item = p i; next = q i; set = r i }

pub bare_same : (state : State) → Bare state → bare state ≡ state
bare_same [] h = refl
bare_same (e ∷ es) h = ap₂ ◌∷◌ (same_entry_lem (unlinked e) e refl (sym (h e here)) refl) (bare_same es (λ f m. h f (later m)))

pub same_kernel_lem : (k j : State) → Bare k → Bare j → same_kernel k j ≡ true → k ≡ j
unfolding same_kernel
same_kernel_lem [] [] h i e = refl
same_kernel_lem [] (y ∷ ys) h i e = absurd (false≢true e)
same_kernel_lem (x ∷ xs) [] h i e = absurd (false≢true e)
same_kernel_lem (x ∷ xs) (y ∷ ys) h i e =
    let (p, q) = both_true (eqb x.item y.item && eqb x.set y.set) (same_kernel xs ys) e in
    let (p₁, p₂) = both_true (eqb x.item y.item) (eqb x.set y.set) p in
    ap₂ ◌∷◌ (same_entry_lem x y (eqb-true _ _ p₁) (h x here ∙ sym (i y here)) (eqb-true _ _ p₂))
    (same_kernel_lem xs ys (λ f m. h f (later m)) (λ f m. i f (later m)) q)

module _ (g : Grammar) where
  pub kernel_over_bare : (x : Symbol) (state : State) → kernel_over g x (bare state) ≡ kernel_over g x state
  unfolding kernel_over keep
  kernel_over_bare x [] = refl
  kernel_over_bare x (e ∷ es) = by_test (is_before g x e.item) (kernel_over_bare x es)
    where
      kept : State → State
      kept state = keep (λ (f : Entry). is_before g x f.item) state

      by_test : (b : Bool) → map moved (kept (bare es)) ≡ map moved (kept es)
          → map moved (pick b (unlinked e ∷ kept (bare es)) (kept (bare es))) ≡ map moved (pick b (e ∷ kept es) (kept es))
      by_test true h = ap₂ ◌∷◌ refl h
      by_test false h = h

  pub kernel_bare : (x : Symbol) (state : State) → Bare (kernel_over g x state)
  kernel_bare x state e m = let (f, k, b, q) = kernel_over_entry g x state m in same_next q

  pub closure_bare : (follow : Follow) (kernel : State) → Bare kernel → Bare (closure g follow kernel)
  unfolding entry_of
  closure_bare follow kernel h e m = ⊎_elim (h e) (λ (i, k, q, some). same_next q) (closure_entry g follow kernel e m)

  pub lead_bare : (x : Symbol) (s : ℕ) (state : State) → bare (lead g x s state) ≡ bare state
  unfolding lead
  lead_bare x s [] = refl
  lead_bare x s (e ∷ es) = ap₂ ◌∷◌ refl (lead_bare x s es)

  pub kernel_over_led : (x y : Symbol) (s : ℕ) (state : State) → kernel_over g x (lead g y s state) ≡ kernel_over g x state
  kernel_over_led x y s state = sym (kernel_over_bare x (lead g y s state)) ∙ ap (kernel_over g x) (lead_bare y s state) ∙ kernel_over_bare x state
