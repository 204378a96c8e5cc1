-- Recursions by fuel, turn by turn: what every turn keeps, and when a larger fuel gives the same.
use Prim.Native.Nat.{ℕ, zero, suc, ◌≤◌}
use mathlib.Core.Path.{◌≡◌, refl, sym, ◌∙◌}
use native.Mathlib.Omega.{arith}
use Rattle.base.specs.Turn.{Turn, again, over, after, OnTurn}

-- `go` takes a turn for each fuel
module _ {A B : Type 0} (go : ℕ → A → B) (turn : A → Turn A B) (goes : (fuel : ℕ) (a : A) → go (suc fuel) a ≡ after (go fuel) (turn a))
    (Inv : ℕ → A → Type 0) (Q : B → Type 0) (turns : (fuel : ℕ) (a : A) → Inv (suc fuel) a → OnTurn (Inv fuel) Q (turn a)) where
  -- an invariant that may speak of the fuel left
  pub fuel_keeps : ((a : A) → Inv zero a → Q (go zero a)) → (fuel : ℕ) (a : A) → Inv fuel a → Q (go fuel a)
  fuel_keeps stops zero a i = stops a i
  fuel_keeps stops (suc fuel) a i = rw (goes fuel a) (by_turn (turn a) (turns fuel a i) (fuel_keeps stops fuel))
    where
      by_turn : (t : Turn A B) → OnTurn (Inv fuel) Q t → ((a : A) → Inv fuel a → Q (go fuel a)) → Q (after (go fuel) t)
      by_turn (again a') i more = more a' i
      by_turn (over b) q more = q

  -- no turn goes on when the last fuel is taken: so any larger fuel gives the same
  pub fuel_enough : ((a : A) → Inv zero a → OnTurn (λ _. ⊥) Q (turn a)) → (fuel larger : ℕ) (a : A) → fuel ≤ larger → Inv fuel a
      → go (suc larger) a ≡ go (suc fuel) a
  fuel_enough last zero larger a f i = goes larger a ∙ by_turn (turn a) (last a i) ∙ sym (goes zero a)
    where
      by_turn : (t : Turn A B) → OnTurn (λ _. ⊥) Q t → after (go larger) t ≡ after (go zero) t
      by_turn (again a') i = absurd i
      by_turn (over b) q = refl
  fuel_enough last (suc fuel) zero a f i = absurd (omega arith)
  fuel_enough last (suc fuel) (suc larger) a f i =
      goes (suc larger) a ∙ by_turn (turn a) (turns fuel a i) (fuel_enough last fuel larger) ∙ sym (goes (suc fuel) a)
    where
      by_turn : (t : Turn A B) → OnTurn (Inv fuel) Q t → ((a : A) → fuel ≤ larger → Inv fuel a → go (suc larger) a ≡ go (suc fuel) a)
          → after (go (suc larger)) t ≡ after (go (suc fuel)) t
      by_turn (again a') i more = more a' (omega arith) i
      by_turn (over b) q more = refl
