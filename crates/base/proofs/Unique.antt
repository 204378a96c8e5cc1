-- A promise that says what the answer is has one answer: two that meet it are equal.
use mathlib.Core.Path.{◌≡◌, sym, ◌∙◌}

pub one_answer {ℓ} : {A : Type ℓ} (promised r s : A) → r ≡ promised → s ≡ promised → r ≡ s
one_answer promised r s e f = e ∙ sym f
