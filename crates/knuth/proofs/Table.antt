-- Knuth's table: there is at most one; it has no action exactly where the stack awaits no such token and does not reduce; a grammar that
-- has it has no conflict; and a grammar without conflict has it, if it is decided what a stack awaits and where it reduces.
use Prim.Native.Nat.{ℕ}
use mathlib.Core.Path.{◌≡◌, refl, sym, ◌∙◌}
use mathlib.Core.Logic.{◌↔◌}
use mathlib.Core.Option.{Option, none, some}
use mathlib.Core.List.{List, [], ◌∷◌}
use native.Mathlib.Omega.{arith}
use Rattle.rules.specs.Grammar.{Symbol, nonterminal, terminal}
use Rattle.rules.specs.Run.{Act, shift, reduce, no_act, Table}
use Rattle.knuth.specs.Items.{At, Awaits, Reduces}
use Rattle.knuth.specs.LR1.{Clear}
use Rattle.knuth.specs.Table.{KnuthTable, act_decided, goto_decided, decided}

-- ---- actions are told apart
module _ {S : Type 0} where
  shift≢reduce : {s : S} {p : ℕ} → shift s ≡ reduce p → ⊥
  shift≢reduce e = let z : ◌≡◌ {A = ℕ} 0 1 = cc in omega arith

  shift≢no_act : {s : S} → shift s ≡ no_act → ⊥
  shift≢no_act e = let z : ◌≡◌ {A = ℕ} 0 1 = cc in omega arith

  reduce≢no_act : {p : ℕ} → ◌≡◌ {A = Act S} (reduce p) no_act → ⊥
  reduce≢no_act e = let z : ◌≡◌ {A = ℕ} 0 1 = cc in omega arith

  same_reduce : {p q : ℕ} → ◌≡◌ {A = Act S} (reduce p) (reduce q) → p ≡ q
  same_reduce e = cc

  some≢none : {s : S} → some s ≡ none → ⊥
  some≢none e = let z : ◌≡◌ {A = ℕ} 0 1 = cc in omega arith

  same_shift : {s s' : S} → shift s ≡ shift s' → s ≡ s'
  same_shift e = cc

  same_some : {s s' : S} → some s ≡ some s' → s ≡ s'
  same_some e = cc

module _ (Rule : ℕ → ℕ → List Symbol → Type 0) (S Eof : ℕ) where
  -- ---- where nothing is to be done
  module _ {table : Table (List Symbol)} (knuth : KnuthTable Rule S Eof table) where
    pub no_action : (γ : List Symbol) (t : ℕ)
        → (table.act γ t ≡ no_act) ↔ ((Awaits Rule S Eof γ (terminal t) → ⊥) × ((p : ℕ) → Reduces Rule S Eof γ p t → ⊥))
    no_action γ t = (
      (λ e. (
        (λ a. shift≢no_act (sym ((knuth.shifts γ (terminal t ∷ γ) t).1 (refl, a)) ∙ e)),
        (λ p r. reduce≢no_act (sym ((knuth.reduces γ t p).1 r) ∙ e)),
      )),
      (λ (no_shift, no_reduction). go no_shift no_reduction (table.act γ t) refl),
    )
      where
        go : (Awaits Rule S Eof γ (terminal t) → ⊥) → ((p : ℕ) → Reduces Rule S Eof γ p t → ⊥)
            → (x : Act (List Symbol)) → table.act γ t ≡ x → table.act γ t ≡ no_act
        go no_shift no_reduction (shift to) e = absurd (no_shift ((knuth.shifts γ to t).0 e).1)
        go no_shift no_reduction (reduce p) e = absurd (no_reduction p ((knuth.reduces γ t p).0 e))
        go no_shift no_reduction no_act e = e

    pub no_goto : (γ : List Symbol) (A : ℕ) → (table.goto γ A ≡ none) ↔ (Awaits Rule S Eof γ (nonterminal A) → ⊥)
    no_goto γ A = ((λ e a. some≢none (sym ((knuth.goes γ (nonterminal A ∷ γ) A).1 (refl, a)) ∙ e)), (λ no_item. go no_item (table.goto γ A) refl))
      where
        go : (Awaits Rule S Eof γ (nonterminal A) → ⊥) → (x : Option (List Symbol)) → table.goto γ A ≡ x → table.goto γ A ≡ none
        go no_item (some to) e = absurd (no_item ((knuth.goes γ to A).0 e).1)
        go no_item none e = e

  -- ---- at most one
  module _ {a b : Table (List Symbol)} (ka : KnuthTable Rule S Eof a) (kb : KnuthTable Rule S Eof b) where
    same_act : (γ : List Symbol) (t : ℕ) → a.act γ t ≡ b.act γ t
    same_act γ t = go (a.act γ t) refl
      where
        go : (x : Act (List Symbol)) → a.act γ t ≡ x → a.act γ t ≡ b.act γ t
        go (shift to) e = e ∙ sym ((kb.shifts γ to t).1 ((ka.shifts γ to t).0 e))
        go (reduce p) e = e ∙ sym ((kb.reduces γ t p).1 ((ka.reduces γ t p).0 e))
        go no_act e = e ∙ sym ((no_action kb γ t).1 ((no_action ka γ t).0 e))

    same_goto : (γ : List Symbol) (A : ℕ) → a.goto γ A ≡ b.goto γ A
    same_goto γ A = go (a.goto γ A) refl
      where
        go : (x : Option (List Symbol)) → a.goto γ A ≡ x → a.goto γ A ≡ b.goto γ A
        go (some to) e = e ∙ sym ((kb.goes γ to A).1 ((ka.goes γ to A).0 e))
        go none e = e ∙ sym ((no_goto kb γ A).1 ((no_goto ka γ A).0 e))

    pub one_knuth_table : a ≡ b
    one_knuth_table = λ i. record {
      act = λ γ t. same_act γ t i;
      goto = λ γ A. same_goto γ A i;
      bottom = (ka.bottom ∙ sym kb.bottom) i;
    }

  -- ---- only without conflict
  pub table→clear : {table : Table (List Symbol)} → KnuthTable Rule S Eof table → Clear Rule S Eof
  table→clear {table} knuth = record {
    reduce_reduce = λ {γ} {t = t} i j. same_reduce (sym (item_reduces i) ∙ item_reduces j);
    shift_reduce = λ {γ} {t = t} i j.
        shift≢reduce (sym ((knuth.shifts γ (terminal t ∷ γ) t).1 (refl, record { production = _; left = _; α = _; β = _; token = _; item = j })) ∙ item_reduces i);
  }
    where
      item_reduces : {γ α : List Symbol} {p A t : ℕ} → At Rule S Eof γ p A α [] t → table.act γ t ≡ reduce p
      item_reduces {γ} {p = p} {t = t} i = (knuth.reduces γ t p).1 (record { left = _; α = _; item = i })

  -- ---- and always without conflict, if it is decided what a stack awaits and where it reduces
  module _ (awaits : (γ : List Symbol) (x : Symbol) → Dec (Awaits Rule S Eof γ x)) (reduces : (γ : List Symbol) (t : ℕ) → Dec ((p : ℕ) × Reduces Rule S Eof γ p t))
      (clear : Clear Rule S Eof) where
    shifts_by : (γ to : List Symbol) (t : ℕ) (d : Dec (Awaits Rule S Eof γ (terminal t))) (r : Dec ((p : ℕ) × Reduces Rule S Eof γ p t))
        → (act_decided Rule S Eof γ t d r ≡ shift to) ↔ ((to ≡ terminal t ∷ γ) × Awaits Rule S Eof γ (terminal t))
    shifts_by γ to t (yes a) r = ((λ e. (same_shift (sym e), a)), (λ (e, _). rw e))
    shifts_by γ to t (no n) (yes r) = ((λ e. absurd (shift≢reduce (sym e))), (λ (_, a). absurd (n a)))
    shifts_by γ to t (no n) (no m) = ((λ e. absurd (shift≢no_act (sym e))), (λ (_, a). absurd (n a)))

    reduces_by : (γ : List Symbol) (t p : ℕ) (d : Dec (Awaits Rule S Eof γ (terminal t))) (r : Dec ((p : ℕ) × Reduces Rule S Eof γ p t))
        → (act_decided Rule S Eof γ t d r ≡ reduce p) ↔ Reduces Rule S Eof γ p t
    reduces_by γ t p (yes a) r = ((λ e. absurd (shift≢reduce e)), (λ r. absurd (clear.shift_reduce r.item a.item)))
    reduces_by γ t p (no n) (yes (q, r)) = ((λ e. rw (← same_reduce e) r), (λ r'. rw (clear.reduce_reduce r.item r'.item)))
    reduces_by γ t p (no n) (no m) = ((λ e. absurd (reduce≢no_act (sym e))), (λ r. absurd (m (p, r))))

    goes_by : (γ to : List Symbol) (A : ℕ) (d : Dec (Awaits Rule S Eof γ (nonterminal A)))
        → (goto_decided Rule S Eof γ A d ≡ some to) ↔ ((to ≡ nonterminal A ∷ γ) × Awaits Rule S Eof γ (nonterminal A))
    goes_by γ to A (yes a) = ((λ e. (same_some (sym e), a)), (λ (e, _). rw e))
    goes_by γ to A (no n) = ((λ e. absurd (some≢none (sym e))), (λ (_, a). absurd (n a)))

    pub clear→table : KnuthTable Rule S Eof (decided Rule S Eof awaits reduces)
    clear→table = record {
      bottom = refl;
      shifts = λ γ to t. shifts_by γ to t (awaits γ (terminal t)) (reduces γ t);
      reduces = λ γ t p. reduces_by γ t p (awaits γ (terminal t)) (reduces γ t);
      goes = λ γ to A. goes_by γ to A (awaits γ (nonterminal A));
    }
