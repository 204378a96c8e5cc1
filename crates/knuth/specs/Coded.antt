-- What a coded grammar is: what refusals 4 to 8 do not find. And what the theorems about the computed FIRST sets ask of a grammar and
-- of a string of symbols; every coded grammar, and what stands behind any dot, has it.
use Rattle.std.specs.Prelude.{ℕ, ◌<◌, ◌≡◌, true, false, ◌||◌, List, [], ◌∷◌, length}
use Rattle.base.specs.Among.{Among}
use Rattle.rules.specs.Limits.{Limits}
use Rattle.rules.specs.Records.{Grammar, at, is_terminal, is_left_side, bad_record, out_of_sequence}
use Rattle.rules.specs.Tokens.{has}
use Rattle.rules.specs.Grammar.{Symbol, nonterminal, terminal, nonterminal_count, names_start, has_production, productive}
use Rattle.knuth.specs.Derivations.{DerivesTokens}
use Rattle.knuth.specs.Rules.{Rule}

-- no refusal from 4 to 8 is met
pub record Checked (l : Limits) (g : Grammar) : Type 0 where
  pub faultless : (i : ℕ) → i < length g → (bad_record l (at g i) || out_of_sequence l g i) ≡ false
  pub start_once : (i : ℕ) → i < length g → names_start g i ≡ false
  pub produced : (a : ℕ) → a < nonterminal_count g → has_production g a ≡ true
  pub collected : (a : ℕ) → a < nonterminal_count g → has (productive g) a ≡ true

-- a is the lowest nonterminal that derives no string of terminals
pub record Barren (g : Grammar) (a : ℕ) : Type 0 where
  pub named : a < nonterminal_count g
  pub derives_none : DerivesTokens (Rule g) (nonterminal a ∷ []) → ⊥
  pub lower_derive : (b : ℕ) → b < a → DerivesTokens (Rule g) (nonterminal b ∷ [])

-- the left sides are nonterminals, as refusal 5 asks
unfoldable pub NonterminalsLeft : Grammar → Type 0
unfolding at is_terminal is_left_side
NonterminalsLeft g = (i : ℕ) → i < length g → is_left_side (at g i) ≡ true → is_terminal (at g i) ≡ false

-- the terminals of xs are below n
abbrev pub TerminalsBelow : ℕ → List Symbol → Type 0
TerminalsBelow n xs = (t : ℕ) → Among (terminal t) xs → t < n
