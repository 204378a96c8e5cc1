-- Three numbers put into the cells of an answer, one after the other, fill its first cells.
use Prim.Native.Nat.{ℕ}
use mathlib.Core.Path.{◌≡◌, refl, ap, ◌∙◌}
use mathlib.Core.List.{List, [], ◌∷◌}
use lib.ListN.{set}
use Rattle.splicepost_c.specs.Numbers.{with_numbers}

module _ (a b c : ℕ) where
  set_three : (cells : List ℕ) → set (set (set cells 0 a) 1 b) 2 c ≡ with_numbers (a ∷ b ∷ c ∷ []) cells
  unfolding with_numbers
  set_three [] = refl
  set_three (x ∷ []) = refl
  set_three (x ∷ y ∷ []) = refl
  set_three (x ∷ y ∷ z ∷ rest) = refl

  pub three_put : (cells one two three : List ℕ) → one ≡ set cells 0 a → two ≡ set one 1 b → three ≡ set two 2 c → three ≡ with_numbers (a ∷ b ∷ c ∷ []) cells
  three_put cells one two three first second third =
      third ∙ ap (λ (l : List ℕ). set l 2 c) (second ∙ ap (λ (l : List ℕ). set l 1 b) first) ∙ set_three cells
