-- Two answers of a search for a kernel, or of the transitions of a state, that meet the promise are equal; and so are the kernels and the
-- entries that transitions leave. What is left open is only how a number of the room holds an entry or a parent.
use Prim.Native.Nat.{ℕ}
use mathlib.Core.Path.{◌≡◌, sym, ap, ◌∙◌}
use mathlib.Core.List.{List}
use native.Mathlib.Omega.{arith}
use lib.ListN.{length}
use Rattle.std.specs.Prelude.{Option, Result, Ok, Err}
use Rattle.rules.specs.declared.BuildRefusal.{BuildRefusal}
use Rattle.rules.specs.Records.{Grammar, records}
use Rattle.rules.specs.Tokens.{TokenSet}
use Rattle.rules.specs.Grammar.{Symbol}
use Rattle.rules.specs.States.{done, Expansion}
use Rattle.room.specs.Areas.{Room, view}
use Rattle.lr.specs.Kernels.{KernelPlace}
use Rattle.lr.specs.Expansions.{expansion_in, expanded_to, Transitions}
use Rattle.lr.proofs.Growing.{kernels_length}

pub place_one : (bytes : List ℕ) (x : Symbol) (s count : ℕ) (work : List ℕ) (t u : Option ℕ) → KernelPlace bytes x s count work t → KernelPlace bytes x s count work u → t ≡ u
place_one bytes x s count work t u one two = one.found 0 ∙ sym (two.found 0)

-- ---- transitions
same_done : (a b : Expansion) → done a ≡ done b → a ≡ b
same_done a b e = cc

expansion_length : (g : Grammar) (start : TokenSet) (r : Room) (s count : ℕ) → length (expansion_in g start r s count).kernels ≡ count
unfolding expansion_in
expansion_length g start r s count = kernels_length g start r count

answers_same : (g : Grammar) (start : TokenSet) (p q : Room) (s : ℕ) (r a : Result ℕ BuildRefusal) → expanded_to g start p s r ≡ expanded_to g start q s a → r ≡ a
unfolding expanded_to
answers_same g start p q s (Ok count) (Ok other) e =
    ap Ok (sym (expansion_length g start p s count) ∙ ap (λ (x : Expansion). length x.kernels) (same_done _ _ e) ∙ expansion_length g start q s other)
answers_same g start p q s (Ok count) (Err why) e = let z : ◌≡◌ {A = ℕ} 0 1 = cc in absurd (omega arith)
answers_same g start p q s (Err why) (Ok count) e = let z : ◌≡◌ {A = ℕ} 0 1 = cc in absurd (omega arith)
answers_same g start p q s (Err why) (Err other) e = cc

module _ (bytes : List ℕ) (xs : List Symbol) (s count : ℕ) (work w u : List ℕ) (r a : Result ℕ BuildRefusal) (one : Transitions bytes xs s count work w r) (two : Transitions bytes xs s count work u a) where
  pub transitions_outcome_one : (start : TokenSet) → expanded_to (records bytes) start (view w) s r ≡ expanded_to (records bytes) start (view u) s a
  transitions_outcome_one start = one.outcome start ∙ sym (two.outcome start)

  pub transitions_answer_one : r ≡ a
  transitions_answer_one = answers_same (records bytes) 0 (view w) (view u) s r a (transitions_outcome_one 0)
