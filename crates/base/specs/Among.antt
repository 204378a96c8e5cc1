-- What is among a list, and what holds of all that is.
use Rattle.std.specs.Prelude.{List, ◌∷◌}

module _ {A : Type 0} where
  pub data Among (x : A) : List A → Type 0 where
    here : {xs : List A} → Among x (x ∷ xs)
    later : {y : A} {xs : List A} → Among x xs → Among x (y ∷ xs)

  abbrev pub All : (A → Type 0) → List A → Type 0
  All P xs = (x : A) → Among x xs → P x
