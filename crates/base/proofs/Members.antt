-- What is among two lists one behind the other, among a list after a store, and among what a function makes of a list; and what holds
-- of all of a list.
use Prim.Native.Nat.{ℕ, zero, suc}
use mathlib.Core.Path.{◌≡◌}
use mathlib.Core.Logic.{◌⊎◌, inl, inr, ⊎_elim}
use mathlib.Core.List.{List, [], ◌∷◌, ◌++◌, map}
use lib.ListN.{get_or, set}
use Rattle.base.specs.Among.{Among, here, later, All}
use Rattle.base.proofs.Lists.{among_none, among_cons}

module _ {A : Type 0} where
  pub among_append : {x : A} (xs : List A) {ys : List A} → Among x (xs ++ ys) → Among x xs ⊎ Among x ys
  among_append [] m = inr m
  among_append {x} (y ∷ xs) m = ⊎_elim (λ e. inl (rw e here)) (λ k. ⊎_elim (λ i. inl (later i)) inr (among_append xs k)) (among_cons m)

  pub append_left : {x : A} {xs : List A} (ys : List A) → Among x xs → Among x (xs ++ ys)
  append_left ys here = here
  append_left ys (later m) = later (append_left ys m)

  pub append_right : {x : A} (xs : List A) {ys : List A} → Among x ys → Among x (xs ++ ys)
  append_right [] m = m
  append_right (y ∷ xs) m = later (append_right xs m)

  pub set_among : {y : A} (xs : List A) (i : ℕ) (x : A) → Among y (set xs i x) → (y ≡ x) ⊎ Among y xs
  set_among [] i x m = inr m
  set_among (z ∷ xs) zero x m = ⊎_elim inl (λ k. inr (later k)) (among_cons m)
  set_among (z ∷ xs) (suc i) x m = ⊎_elim (λ e. inr (rw e here)) (λ k. ⊎_elim inl (λ j. inr (later j)) (set_among xs i x k)) (among_cons m)

pub map_among : {A B : Type 0} (f : A → B) {y : B} (xs : List A) → Among y (map f xs) → (x : A) × Among x xs × (y ≡ f x)
map_among f [] m = absurd (among_none m)
map_among f (x ∷ xs) m = ⊎_elim (λ e. (x, here, e)) (λ k. let (z, i, e) = map_among f xs k in (z, later i, e)) (among_cons m)

-- ---- what holds of all
module _ {A : Type 0} (P : A → Type 0) where
  pub all_at : (xs : List A) (i : ℕ) (d : A) → All P xs → P d → P (get_or xs i d)
  all_at [] i d h p = p
  all_at (x ∷ xs) zero d h p = h x here
  all_at (x ∷ xs) (suc i) d h p = all_at xs i d (λ y m. h y (later m)) p

  pub all_added : (xs : List A) (x : A) → All P xs → P x → All P (xs ++ (x ∷ []))
  all_added xs x h p y m = ⊎_elim (h y) (λ k. ⊎_elim (λ e. rw e p) (λ i. absurd (among_none i)) (among_cons k)) (among_append xs m)

  pub all_set : (xs : List A) (i : ℕ) (x : A) → All P xs → P x → All P (set xs i x)
  all_set xs i x h p y m = ⊎_elim (λ e. rw e p) (h y) (set_among xs i x m)
