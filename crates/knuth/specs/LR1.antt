-- Knuth's definition of LR(1), and what it is to have no conflict.
--
-- D. E. Knuth, "On the Translation of Languages from Left to Right", Information and Control 8 (1965), section II, at k = 1. Left what the
-- paper says, in short; right the text below:
--
--   ⊣, a new character; a k-sentential form is a        Eof. One ⊣ stands behind a form and is not written, so the token behind χ in
--   sentential form followed by k characters ⊣          χ u ⊣ is `next Eof u`
--
--   α has handle (n, p): the handle, the leftmost       Handle α n p. By rightmost steps that branch is the last to be put there: S
--   complete branch of the tree, ends with the n-th     derives `form`, the step from `form` to α is by production p, and the right
--   symbol of α and is put there by production p        side that it puts there ends with the n-th symbol
--
--   let α = X₁…XₙXₙ₊₁…Xₙ₊ₖY₁…Yᵤ and                     χ is X₁…Xₙ, so n is its length; u is Xₙ₊₁Y₁…Yᵤ and v is Xₙ₊₁Z₁…Zᵥ, with
--   β = X₁…XₙXₙ₊₁…Xₙ₊ₖZ₁…Zᵥ be k-sentential forms       Xₙ₊₁ in common: next Eof u ≡ next Eof v
--
--   in which none of Xₙ₊₁, …, Xₙ₊ₖ, Y₁, …, Yᵤ,          u and v are lists of tokens
--   Z₁, …, Zᵥ is an intermediate character
--
--   if α has handle (n, p) and β has handle (m, q),     of Handle (χ ++ tokens u) (length χ) p and Handle (χ ++ tokens v) m q it is
--   we require that m = n and q = p                     required that m ≡ length χ and q ≡ p
--
-- In other words, the paper says, any handle is always uniquely determined by the string to its left and the k terminal characters to
-- its right.
--
-- The paper words the handle twice: as the leftmost complete branch of a tree (Branches), and, as "an alternative way", by the derivation
-- that replaces the rightmost intermediate character at each step. The second is taken here. Where no intermediate character stands right
-- of the handle, as in α, the two agree (proofs/Handles.antt). But β's may end before the n-th symbol, and by the first wording with
-- intermediate characters behind it: 0: S→C C t, 1: C→ε, which a parser reads without looking ahead at all, would not be LR(1), since C t
-- would have the handles (1, 1) and (0, 1) (proofs/TwoEmpty.antt).
use Rattle.std.specs.Prelude.{ℕ, ◌≡◌, List, [], ◌∷◌, ◌++◌, length}
use Rattle.rules.specs.Records.{Grammar}
use Rattle.rules.specs.Grammar.{Symbol, nonterminal, terminal, start, terminal_count}
use Rattle.knuth.specs.Derivations.{tokens, next, Step, Derives}
use Rattle.knuth.specs.Items.{At}
use Rattle.knuth.specs.Rules.{Rule}

-- any handle is determined by the string to its left and the token to its right
abbrev pub Determined : (List Symbol → ℕ → ℕ → Type 0) → ℕ → Type 0
Determined HasHandle Eof = (χ : List Symbol) (u v : List ℕ) (p m q : ℕ)
    → HasHandle (χ ++ tokens u) (length χ) p → HasHandle (χ ++ tokens v) m q
    → next Eof u ≡ next Eof v
    → (m ≡ length χ) × (q ≡ p)

module _ (Rule : ℕ → ℕ → List Symbol → Type 0) (S : ℕ) where
  -- the right sentential form φ has handle (n, p)
  pub record Handle (φ : List Symbol) (n p : ℕ) : Type 0 where
    pub form : List Symbol
    pub by : List ℕ
    pub derivation : Derives Rule (nonterminal S ∷ []) by form
    pub last : Step Rule p form φ
    pub end : n ≡ length (last.before ++ last.body)

  module _ (Eof : ℕ) where
    abbrev pub LR1 : Type 0
    LR1 = Determined Handle Eof

    -- no stack of symbols has a conflict: two reductions at one token are by one production, and no token of a reduction is shifted
    pub record Clear : Type 0 where
      pub reduce_reduce : {γ α β : List Symbol} {p q A B t : ℕ} → At Rule S Eof γ p A α [] t → At Rule S Eof γ q B β [] t → p ≡ q
      pub shift_reduce : {γ α β β' : List Symbol} {p q A B t u : ℕ} → At Rule S Eof γ p A α [] t → At Rule S Eof γ q B β (terminal t ∷ β') u → ⊥

-- a coded grammar is LR(1)
abbrev pub IsLR1 : Grammar → Type 0
IsLR1 g = LR1 (Rule g) (start g) (terminal_count g)
