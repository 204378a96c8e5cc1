-- Settled sets hold all that FIRST means: every token that begins, and the mark wherever the empty string is derived.
use Prim.Native.Nat.{ℕ}
use mathlib.Core.Path.{◌≡◌, refl}
use mathlib.Core.Logic.{inl, inr}
use mathlib.Core.Bool.{Bool, true, false, false≢true}
use mathlib.Core.List.{List, ◌∷◌}
use Rattle.base.specs.Pick.{pick}
use Rattle.base.proofs.Lists.{each_true}
use Rattle.rules.specs.Records.{Grammar, at}
use Rattle.rules.specs.Tokens.{Has, has, join, within, without}
use Rattle.rules.specs.Grammar.{Symbol, nonterminal, symbols_behind}
use Rattle.rules.specs.First.{Sets, set_of, first0, first_settled}
use Rattle.sets.proofs.Laws.{has_true, has_single, has_eof, has_join, has_without, within_true}
use Rattle.knuth.specs.Rules.{Rule}
use Rattle.knuth.specs.Meaning.{Null, null, null_nonterminal, Begins, token, inside, beyond}
use Rattle.knuth.proofs.Productions.{left_side_of_rule}

module _ (g : Grammar) (n : ℕ) (sets : Sets) (settled : first_settled g n sets ≡ true) where
  -- a left side has what its right side has
  left_has : {p a : ℕ} {η : List Symbol} → Rule g p a η → (t : ℕ) → Has (first0 n sets η) t → Has (set_of sets a) t
  unfolding first_settled
  left_has r t h =
      let e = each_true (λ i. within (first0 n sets (symbols_behind g i)) (set_of sets (at g i).symbol)) (left_side_of_rule g r) settled in
      let f : within (first0 n sets (symbols_behind g r.left_side)) (set_of sets (at g r.left_side).symbol) ≡ true = e in
      (within_true _ _).0 (rw (r.left, r.right) at f) t h

  -- what first0 of a nonterminal and a suffix has
  has_beyond : (a t : ℕ) (xs : List Symbol) → Has (set_of sets a) n → Has (first0 n sets xs) t → Has (first0 n sets (nonterminal a ∷ xs)) t
  unfolding first0
  has_beyond a t xs m h = by_mark (has (set_of sets a) n) ((has_true (set_of sets a) n).1 m)
    where
      by_mark : (d : Bool) → d ≡ true → Has (pick d (join (without (set_of sets a) n) (first0 n sets xs)) (set_of sets a)) t
      by_mark true e = (has_join (without (set_of sets a) n) (first0 n sets xs) t).1 (inr h)
      by_mark false e = absurd (false≢true e)

  has_inside : (a t : ℕ) (xs : List Symbol) → (t ≡ n → ⊥) → Has (set_of sets a) t → Has (first0 n sets (nonterminal a ∷ xs)) t
  unfolding first0
  has_inside a t xs ne h = by_mark (has (set_of sets a) n)
    where
      by_mark : (d : Bool) → Has (pick d (join (without (set_of sets a) n) (first0 n sets xs)) (set_of sets a)) t
      by_mark true = (has_join (without (set_of sets a) n) (first0 n sets xs) t).1 (inl ((has_without (set_of sets a) n t).1 (h, ne)))
      by_mark false = h

  pub null_found : {xs : List Symbol} → Null (Rule g) xs → Has (first0 n sets xs) n
  unfolding first0
  null_found null = (has_eof n n).1 refl
  null_found (null_nonterminal {A = a} {φ = xs} r h k) = has_beyond a n xs (left_has r n (null_found h)) (null_found k)

  pub begins_found : {t : ℕ} {xs : List Symbol} → (t ≡ n → ⊥) → Begins (Rule g) t xs → Has (first0 n sets xs) t
  unfolding first0
  begins_found {t} ne token = (has_single t t).1 refl
  begins_found {t} ne (inside {A = a} {φ = xs} r b) = has_inside a t xs ne (left_has r t (begins_found ne b))
  begins_found {t} ne (beyond {A = a} {φ = xs} r h b) = has_beyond a t xs (left_has r n (null_found h)) (begins_found ne b)
