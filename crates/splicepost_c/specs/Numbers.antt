-- Document 01's answers in plain numbers: the one that a call returns, and those that it puts into the cells of the answer.
use Rattle.std.specs.Prelude.{ℕ, List, [], ◌∷◌}
use Rattle.rules.specs.Answers.{Said, coded, built, refused, accepted, stopped}

-- 0, or the number of the refusal
unfoldable pub number : Said → ℕ
number coded = 0
number (built states records) = 0
number (refused refusal place) = refusal
number (accepted steps listed) = 0
number (stopped refusal place steps listed) = refusal

-- the place, and two counts: of states and records, or of steps and productions listed; 0 where there is none
unfoldable pub numbers : Said → List ℕ
numbers coded = 0 ∷ 0 ∷ 0 ∷ []
numbers (built states records) = 0 ∷ states ∷ records ∷ []
numbers (refused refusal place) = place ∷ 0 ∷ 0 ∷ []
numbers (accepted steps listed) = 0 ∷ steps ∷ listed ∷ []
numbers (stopped refusal place steps listed) = place ∷ steps ∷ listed ∷ []

-- numbers in the first cells, as many as there are; the other cells stay
unfoldable pub with_numbers : List ℕ → List ℕ → List ℕ
with_numbers [] cells = cells
with_numbers (n ∷ ns) [] = []
with_numbers (n ∷ ns) (cell ∷ cells) = n ∷ with_numbers ns cells
