-- FIRST as `rules` computes it is FIRST as it is meant. With n terminals, `first0` of a string has a terminal exactly if it begins
-- the string, and the mark n exactly if the string derives the empty string; `first1` has a token exactly if it begins the string
-- followed by a token of the lookahead. This holds where the left sides of the grammar are nonterminals, as refusal 5 asks, and the
-- terminals of the string are below n, as those of what stands behind any dot are.
use Prim.Native.Nat.{ℕ, ◌<◌, ◌≤◌}
use mathlib.Core.Path.{◌≡◌, refl}
use mathlib.Core.Logic.{◌⊎◌, inl, inr, ⊎_elim, ◌↔◌}
use mathlib.Core.Bool.{Bool, true, false}
use mathlib.Core.List.{List}
use native.Mathlib.Omega.{arith}
use native.Mathlib.Decide.{ℕ_discrete}
use Rattle.base.specs.Pick.{pick}
use Rattle.base.specs.Among.{here, later}
use Rattle.rules.specs.Limits.{Limits}
use Rattle.rules.specs.Records.{Grammar}
use Rattle.rules.specs.Tokens.{TokenSet, Has, has, single, join, without}
use Rattle.rules.specs.Grammar.{Symbol, symbols_behind, terminal_count}
use Rattle.rules.specs.First.{first0, beginning, may_be_empty, first1, first_sets}
use Rattle.sets.proofs.Laws.{has_true, has_false, has_single, has_join, has_without}
use Rattle.knuth.specs.Rules.{Rule}
use Rattle.knuth.specs.Meaning.{Null, Begins, token, inside, beyond, First}
use Rattle.knuth.specs.Coded.{Checked, TerminalsBelow, NonterminalsLeft}
use Rattle.knuth.proofs.Coded.{checked_left}
use Rattle.knuth.proofs.First.{begins_or_null, first_of}
use Rattle.knuth.proofs.Productions.{terminals_below}
use Rattle.knuth.proofs.FirstSound.{first0_sound, first_sets_sound}
use Rattle.knuth.proofs.FirstSettles.{first_sets_settled}
use Rattle.knuth.proofs.FirstComplete.{null_found, begins_found}

pub record FirstMeant (g : Grammar) (xs : List Symbol) : Type 0 where
  pub empty : Has (first0 (terminal_count g) (first_sets g) xs) (terminal_count g) ↔ Null (Rule g) xs
  pub begins : (t : ℕ) → t < terminal_count g → Has (first0 (terminal_count g) (first_sets g) xs) t ↔ Begins (Rule g) t xs
  pub nothing_else : (t : ℕ) → Has (first0 (terminal_count g) (first_sets g) xs) t → t ≤ terminal_count g
  -- with any lookahead, with one that has a token, and with one token
  pub ahead : (lookahead : TokenSet) (t : ℕ)
      → Has (first1 (terminal_count g) (first_sets g) xs lookahead) t ↔ (Begins (Rule g) t xs ⊎ (Null (Rule g) xs × Has lookahead t))
  pub ahead_some : (lookahead b t : ℕ) → Has lookahead b
      → Has (first1 (terminal_count g) (first_sets g) xs lookahead) t ↔ ((b : ℕ) × Has lookahead b × First (Rule g) xs b t)
  pub ahead_one : (b t : ℕ) → Has (first1 (terminal_count g) (first_sets g) xs (single b)) t ↔ First (Rule g) xs b t

-- only terminals of the grammar begin a string of its symbols
pub begins_below : (g : Grammar) {t : ℕ} {xs : List Symbol} → TerminalsBelow (terminal_count g) xs → Begins (Rule g) t xs → t < terminal_count g
begins_below g {t} below token = below t here
begins_below g below (inside r b) = begins_below g (rw r.right at (terminals_below g r.left_side)) b
begins_below g below (beyond r h b) = begins_below g (λ t m. below t (later m)) b

-- ---- first0
module _ (g : Grammar) (left : NonterminalsLeft g) (xs : List Symbol) (below : TerminalsBelow (terminal_count g) xs) where
  first0_null : Has (first0 (terminal_count g) (first_sets g) xs) (terminal_count g) ↔ Null (Rule g) xs
  first0_null = (
    (first0_sound (Rule g) (terminal_count g) (first_sets g) (first_sets_sound g) xs below).0,
    null_found g (terminal_count g) (first_sets g) (first_sets_settled g left),
  )

  first0_begins : (t : ℕ) → (t ≡ terminal_count g → ⊥) → Has (first0 (terminal_count g) (first_sets g) xs) t ↔ Begins (Rule g) t xs
  first0_begins t ne = (
    (first0_sound (Rule g) (terminal_count g) (first_sets g) (first_sets_sound g) xs below).1 t ne,
    begins_found g (terminal_count g) (first_sets g) (first_sets_settled g left) ne,
  )

  first0_else : (t : ℕ) → Has (first0 (terminal_count g) (first_sets g) xs) t → t ≤ terminal_count g
  first0_else t h = elim (ℕ_discrete t (terminal_count g)) [
    | yes e ↦ omega arith
    | no ne ↦ omega (arith, begins_below g below ((first0_begins t ne).0 h))
  ]

-- ---- the mark dropped, and a lookahead put in its place
module _ (R : ℕ → ℕ → List Symbol → Type 0) (xs : List Symbol) (n t : ℕ) (first lookahead : TokenSet)
    (marked : Has first n ↔ Null R xs) (other : (t ≡ n → ⊥) → Has first t ↔ Begins R t xs) (not-mark : Begins R t xs → t ≡ n → ⊥) where
  abbrev Ahead : Type 0
  Ahead = Begins R t xs ⊎ (Null R xs × Has lookahead t)

  with_mark : Has first n → Has (join (without first n) lookahead) t ↔ Ahead
  with_mark m = (
    (λ h. ⊎_elim (λ w. let (p, ne) = (has_without first n t).0 w in inl ((other ne).0 p)) (λ k. inr (marked.0 m, k)) ((has_join (without first n) lookahead t).0 h)),
    (λ h. (has_join (without first n) lookahead t).1 (⊎_elim (λ b. inl ((has_without first n t).1 ((other (not-mark b)).1 b, not-mark b))) (λ k. inr k.1) h)),
  )

  without_mark : (Has first n → ⊥) → Has first t ↔ Ahead
  without_mark none = (
    (λ h. inl ((other (λ e. none (rw e at h))).0 h)),
    ⊎_elim (λ b. (other (not-mark b)).1 b) (λ k. absurd (none (marked.1 k.0))),
  )

  looked_ahead : Has (pick (has first n) (join (without first n) lookahead) first) t ↔ Ahead
  looked_ahead = by_mark (has first n) refl
    where
      by_mark : (d : Bool) → has first n ≡ d → Has (pick d (join (without first n) lookahead) first) t ↔ Ahead
      by_mark true e = with_mark ((has_true first n).0 e)
      by_mark false e = without_mark ((has_false first n).0 e)

-- ---- first1
module _ (g : Grammar) (left : NonterminalsLeft g) (xs : List Symbol) (below : TerminalsBelow (terminal_count g) xs) where
  first1_begins : (lookahead : TokenSet) (t : ℕ)
      → Has (first1 (terminal_count g) (first_sets g) xs lookahead) t ↔ (Begins (Rule g) t xs ⊎ (Null (Rule g) xs × Has lookahead t))
  unfolding first1 beginning may_be_empty
  first1_begins lookahead t =
      looked_ahead (Rule g) xs (terminal_count g) t (first0 (terminal_count g) (first_sets g) xs) lookahead
      (first0_null g left xs below) (first0_begins g left xs below t) (λ b e. omega (arith, begins_below g below b))

  first1_first : (lookahead b t : ℕ) → Has lookahead b
      → Has (first1 (terminal_count g) (first_sets g) xs lookahead) t ↔ ((b : ℕ) × Has lookahead b × First (Rule g) xs b t)
  first1_first lookahead b t k = (
    (λ h. ⊎_elim (λ c. (b, k, first_of (Rule g) (inl c))) (λ c. (t, c.1, first_of (Rule g) (inr (c.0, refl)))) ((first1_begins lookahead t).0 h)),
    (λ (c, l, f). (first1_begins lookahead t).1 (⊎_elim inl (λ (h, e). inr (h, rw e l)) (begins_or_null (Rule g) f))),
  )

  first1_single : (b t : ℕ) → Has (first1 (terminal_count g) (first_sets g) xs (single b)) t ↔ First (Rule g) xs b t
  first1_single b t =
      let one : Has (single b) b = (has_single b b).1 refl in (
        (λ h. let (c, k, f) = (first1_first (single b) b t one).0 h in rw ((has_single b c).0 k) at f),
        (λ f. (first1_first (single b) b t one).1 (b, one, f)),
      )

  pub first_meant : FirstMeant g xs
  first_meant = record {
    empty = first0_null g left xs below;
    begins = λ t h. first0_begins g left xs below t (λ e. omega arith);
    nothing_else = first0_else g left xs below;
    ahead = first1_begins;
    ahead_some = first1_first;
    ahead_one = first1_single;
  }

-- of what stands behind any dot of a coded grammar
pub first_behind_dot : (l : Limits) (g : Grammar) → Checked l g → (i : ℕ) → FirstMeant g (symbols_behind g i)
first_behind_dot l g c i = first_meant g (checked_left l g c) (symbols_behind g i) (terminals_below g i)
