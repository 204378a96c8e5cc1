-- Steps over a list that agree wherever an invariant holds.
use mathlib.Core.Path.{◌≡◌, refl, ap, ◌∙◌}
use mathlib.Core.List.{List, [], ◌∷◌}
use Rattle.base.specs.Among.{Among, here, later}
use Rattle.base.specs.Lists.{fold_over}

pub fold_same {ℓ κ} : {A : Type 0} {B : Type ℓ} (Inv : B → Type κ) (step other : A → B → B) (xs : List A)
    → ((x : A) → Among x xs → (b : B) → Inv b → step x b ≡ other x b) → ((x : A) → Among x xs → (b : B) → Inv b → Inv (other x b))
    → (b : B) → Inv b → fold_over step xs b ≡ fold_over other xs b
unfolding fold_over
fold_same Inv step other [] agree keeps b i = refl
fold_same Inv step other (x ∷ xs) agree keeps b i =
    ap (fold_over step xs) (agree x here b i)
    ∙ fold_same Inv step other xs (λ y m. agree y (later m)) (λ y m. keeps y (later m)) (other x b) (keeps x here b i)
