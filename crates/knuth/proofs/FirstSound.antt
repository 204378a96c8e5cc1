-- The computed FIRST sets hold nothing but what FIRST means: a token of a set begins, and the mark says that the empty string is derived.
use Prim.Native.Nat.{ℕ, ◌+◌, ◌*◌}
use mathlib.Core.Path.{◌≡◌, refl}
use mathlib.Core.Logic.{⊎_elim}
use mathlib.Core.Bool.{Bool, true, false}
use mathlib.Core.List.{List, [], ◌∷◌}
use native.Mathlib.Omega.{arith}
use lib.ListN.{replicate}
use Rattle.base.specs.Pick.{pick}
use Rattle.base.specs.Among.{here, later}
use Rattle.base.proofs.Lists.{after_set, at_replicate}
use Rattle.base.proofs.Until.{rounds_keep}
use Rattle.rules.specs.Records.{Grammar}
use Rattle.rules.specs.Tokens.{TokenSet, Has, has, join, without}
use Rattle.rules.specs.Grammar.{Symbol, nonterminal, terminal, symbols_behind, left_sides, terminal_count, nonterminal_count}
use Rattle.rules.specs.First.{Sets, set_of, join_at, first0, add_first, first_settled, first_sets}
use Rattle.sets.proofs.Laws.{has_true, has_false, has_none, has_single, has_eof, has_join, has_without}
use Rattle.knuth.specs.Rules.{Rule}
use Rattle.knuth.specs.Meaning.{Null, null, null_nonterminal, Begins, token, inside}
use Rattle.knuth.specs.Coded.{TerminalsBelow}
use Rattle.knuth.proofs.First.{null_append, begins_front, begins_behind}
use Rattle.knuth.proofs.Productions.{rule_of_left_side, terminals_below}

module _ (R : ℕ → ℕ → List Symbol → Type 0) (n : ℕ) where
  -- a set says of a string nothing but what is so
  abbrev pub Tells : List Symbol → TokenSet → Type 0
  Tells xs s = (Has s n → Null R xs) × ((t : ℕ) → (t ≡ n → ⊥) → Has s t → Begins R t xs)

  abbrev pub Sound : Sets → Type 0
  Sound sets = (a : ℕ) → Tells (nonterminal a ∷ []) (set_of sets a)

  tells_rule : {p a : ℕ} {η : List Symbol} (s : TokenSet) → R p a η → Tells η s → Tells (nonterminal a ∷ []) s
  tells_rule s r k = ((λ h. null_nonterminal r (k.0 h) null), (λ t ne h. inside r (k.1 t ne h)))

  tells_join : {xs : List Symbol} (a b : TokenSet) → Tells xs a → Tells xs b → Tells xs (join a b)
  tells_join a b p q = ((λ h. ⊎_elim p.0 q.0 ((has_join a b n).0 h)), (λ t ne h. ⊎_elim (p.1 t ne) (q.1 t ne) ((has_join a b t).0 h)))

  tells_none : (xs : List Symbol) → Tells xs 0
  tells_none xs = ((λ h. absurd (has_none n h)), (λ t ne h. absurd (has_none t h)))

  -- ---- first0
  tells_beyond : {a : ℕ} {xs : List Symbol} (s r : TokenSet) → Has s n → Tells (nonterminal a ∷ []) s → Tells xs r
      → Tells (nonterminal a ∷ xs) (join (without s n) r)
  tells_beyond {xs = xs} s r m p q =
      let nothing = p.0 m in (
        (λ h. ⊎_elim (λ w. absurd (((has_without s n n).0 w).1 refl)) (λ k. null_append R nothing (q.0 k)) ((has_join (without s n) r n).0 h)),
        (λ t ne h. ⊎_elim (λ w. begins_front R xs (p.1 t ne ((has_without s n t).0 w).0)) (λ k. begins_behind R nothing (q.1 t ne k)) ((has_join (without s n) r t).0 h)),
      )

  tells_inside : {a : ℕ} (xs : List Symbol) (s : TokenSet) → (Has s n → ⊥) → Tells (nonterminal a ∷ []) s → Tells (nonterminal a ∷ xs) s
  tells_inside xs s m p = ((λ h. absurd (m h)), (λ t ne h. begins_front R xs (p.1 t ne h)))

  pub first0_sound : (sets : Sets) → Sound sets → (xs : List Symbol) → TerminalsBelow n xs → Tells xs (first0 n sets xs)
  unfolding first0
  first0_sound sets s [] b = ((λ h. null), (λ t ne h. absurd (ne ((has_eof n t).0 h))))
  first0_sound sets s (terminal u ∷ xs) b =
      ((λ h. absurd (omega (arith, (has_single u n).0 h, b u here))), (λ t ne h. rw ((has_single u t).0 h) token))
  first0_sound sets s (nonterminal a ∷ xs) b = by_mark (has (set_of sets a) n) refl (first0_sound sets s xs (λ t m. b t (later m)))
    where
      by_mark : (d : Bool) → has (set_of sets a) n ≡ d → Tells xs (first0 n sets xs)
          → Tells (nonterminal a ∷ xs) (pick d (join (without (set_of sets a) n) (first0 n sets xs)) (set_of sets a))
      by_mark true e k = tells_beyond (set_of sets a) (first0 n sets xs) ((has_true _ _).0 e) (s a) k
      by_mark false e k = tells_inside xs (set_of sets a) ((has_false _ _).0 e) (s a)

  sound_join : {p a : ℕ} {η : List Symbol} (s : TokenSet) (sets : Sets) → R p a η → Tells η s → Sound sets → Sound (join_at a s sets)
  unfolding join_at set_of
  sound_join {a = a} s sets r k o =
      after_set (λ b q. Tells (nonterminal b ∷ []) q) sets a _ 0 (tells_join (set_of sets a) s (o a) (tells_rule s r k)) o

-- the FIRST sets of every grammar
pub first_sets_sound : (g : Grammar) → Sound (Rule g) (terminal_count g) (first_sets g)
unfolding first_sets add_first set_of
first_sets_sound g =
    let n : ℕ = terminal_count g in
    rounds_keep (first_settled g n) (add_first g n) (Sound (Rule g) n) (left_sides g)
    (λ i m sets s. sound_join (Rule g) n (first0 n sets (symbols_behind g i)) sets (rule_of_left_side g i m)
    (first0_sound (Rule g) n sets s (symbols_behind g i) (terminals_below g i)) s)
    (nonterminal_count g * (n + 1)) (replicate (nonterminal_count g) 0)
    (λ a. rw (at_replicate {A = ℕ} (nonterminal_count g) 0 a) (tells_none (Rule g) n (nonterminal a ∷ [])))
