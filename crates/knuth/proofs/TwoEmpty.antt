-- 0: S→C C t, 1: C→ε tells Knuth's two wordings of a handle apart. By leftmost complete branches C t has handle (1, 1) and handle (0, 1),
-- with one string left of t and one token behind it, so its handles are not determined. By rightmost steps the grammar is LR(1):
-- `two_empty_is_LR1` of the crate `demands`.
use Prim.Native.Nat.{ℕ}
use mathlib.Core.Path.{◌≡◌, refl}
use mathlib.Core.List.{List, [], ◌∷◌}
use native.Mathlib.Omega.{arith}
use Rattle.rules.specs.Records.{Grammar, records, at}
use Rattle.rules.specs.Grammar.{Symbol, nonterminal, terminal, symbols_behind, start, terminal_count}
use Rattle.rules.proofs.Coding.{◌⟶◌, coded}
use Rattle.knuth.specs.Rules.{Rule}
use Rattle.knuth.specs.Branches.{nothing, stays, LeftmostBranch, whole, deeper, further}
use Rattle.knuth.specs.LR1.{Determined}

abbrev C : Symbol
C = nonterminal 1

abbrev t : Symbol
t = terminal 0

unfoldable pub two_empty : List ℕ
unfolding coded
two_empty = coded ((0 ⟶ C ∷ C ∷ t ∷ []) ∷ (1 ⟶ []) ∷ [])

abbrev g : Grammar
g = records two_empty

rule0 : Rule g 0 (start g) (C ∷ C ∷ t ∷ [])
unfolding records two_empty at symbols_behind start
rule0 = record { left_side = 0; within = omega arith; position = refl; number = refl; left = refl; right = refl }

rule1 : Rule g 1 1 []
unfolding records two_empty at symbols_behind
rule1 = record { left_side = 4; within = omega arith; position = refl; number = refl; left = refl; right = refl }

abbrev BranchHandle : List Symbol → ℕ → ℕ → Type 0
BranchHandle = LeftmostBranch (Rule g) (nonterminal (start g) ∷ [])

-- the second C has the branch, and the first
second_empty : BranchHandle (C ∷ t ∷ []) 1 1
second_empty = deeper rule0 (further (whole rule1 (stays nothing))) nothing

first_empty : BranchHandle (C ∷ t ∷ []) 0 1
first_empty = deeper rule0 (whole rule1 (stays (stays nothing))) nothing

pub branches_not_determined : Determined BranchHandle (terminal_count g) → ⊥
branches_not_determined determined =
    let same_end : ◌≡◌ {A = ℕ} 0 1 = (determined (C ∷ []) (0 ∷ []) (0 ∷ []) 1 0 1 second_empty first_empty refl).0 in
    omega arith
