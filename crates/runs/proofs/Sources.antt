-- Where an item comes from: the stack under its read part awaits its left side, or is empty and the item is the start's. So a completed
-- item of production 0 has the whole stack, and any other can be popped.
use Prim.Native.Nat.{ℕ, suc, ◌<◌, ◌≤◌}
use mathlib.Core.Path.{◌≡◌, refl, sym, ap, ap₂, ◌∙◌}
use mathlib.Core.Logic.{◌⊎◌, inl, inr}
use mathlib.Core.List.{List, [], ◌∷◌, ◌++◌, reverse, reverse_aux, append-nil, reverse-append}
use native.Mathlib.Omega.{arith}
use lib.ListN.{length, drop, length-append, length-reverse}
use lib.Seq.{drop-append_seam}
use Rattle.base.specs.Among.{Among, here, later}
use Rattle.rules.specs.Limits.{Limits}
use Rattle.rules.specs.Records.{Grammar}
use Rattle.rules.specs.Grammar.{Symbol, nonterminal, symbols_behind, start, terminal_count, left_of}
use Rattle.rules.specs.Run.{side_length}
use Rattle.knuth.specs.Rules.{Rule}
use Rattle.knuth.specs.Coded.{Checked}
use Rattle.knuth.specs.Items.{At, begin, move, close, Awaits}
use Rattle.runs.specs.Honest.{Viable, Completed}
use Rattle.runs.proofs.ProductionNumbers.{side_length_lem, production_left, start_has_zero, zero_has_start, rule_zero, start_behind_none}

-- what stands behind the dot is on the right side
pub behind_among : {x : Symbol} (α β : List Symbol) → Among x β → Among x (reverse_aux α β)
behind_among [] β m = m
behind_among (y ∷ α) β m = behind_among α (y ∷ β) (later m)

module _ (Rule : ℕ → ℕ → List Symbol → Type 0) (S Eof : ℕ) where
  -- at γ the item A → α · β has α on top, and under it what awaits A, or nothing if the item is the start's
  pub record Source (γ : List Symbol) (p A : ℕ) (α β : List Symbol) (t : ℕ) : Type 0 where
    pub under : List Symbol
    pub stack : γ ≡ α ++ under
    pub rule : Rule p A (reverse_aux α β)
    pub from : ((under ≡ []) × (A ≡ S) × (t ≡ Eof)) ⊎ Awaits Rule S Eof under (nonterminal A)

  pub source : {γ α β : List Symbol} {p A t : ℕ} → At Rule S Eof γ p A α β t → Source γ p A α β t
  source (begin r) = record { under = []; stack = refl; rule = r; from = inl (refl, refl, refl) }
  source (move i) = let o = source i in record { under = o.under; stack = ap₂ ◌∷◌ refl o.stack; rule = o.rule; from = o.from }
  source (close {γ} i r f) =
      record { under = γ; stack = refl; rule = r; from = inr (record { production = _; left = _; α = _; β = _; token = _; item = i }) }

-- ---- of a coded grammar
module _ (l : Limits) (g : Grammar) (checked : Checked l g) where
  abbrev S : ℕ
  S = start g

  abbrev Eof : ℕ
  Eof = terminal_count g

  awaits_same : {γ : List Symbol} {A B : ℕ} → A ≡ B → Awaits (Rule g) S Eof γ (nonterminal A) → Awaits (Rule g) S Eof γ (nonterminal B)
  awaits_same e a = rw e at a

  -- the empty stack has an item
  pub empty_viable : 0 < length g → Viable g []
  empty_viable h = record { production = 0; left = S; α = []; β = symbols_behind g 0; token = Eof; item = begin (rule_zero l g checked h) }

  -- no stack awaits the start
  start_not_awaited : {γ : List Symbol} → Awaits (Rule g) S Eof γ (nonterminal S) → ⊥
  start_not_awaited a = start_behind_none l g checked (source (Rule g) S Eof a.item).rule (behind_among a.α (nonterminal S ∷ a.β) here)

  -- an item of production 0 has all of the stack before its dot, and the token Eof
  pub start_item : {γ α β : List Symbol} {A t : ℕ} → At (Rule g) S Eof γ 0 A α β t → (γ ≡ α) × (A ≡ S) × (t ≡ Eof)
  start_item {γ} {α} {β} {A} {t} i = go o.from
    where
      o : Source (Rule g) S Eof γ 0 A α β t
      o = source (Rule g) S Eof i

      is_start : A ≡ S
      is_start = zero_has_start l g checked o.rule

      go : ((o.under ≡ []) × (A ≡ S) × (t ≡ Eof)) ⊎ Awaits (Rule g) S Eof o.under (nonterminal A) → (γ ≡ α) × (A ≡ S) × (t ≡ Eof)
      go (inl (u, _, e)) = (o.stack ∙ ap (λ δ. α ++ δ) u ∙ append-nil α, is_start, e)
      go (inr a) = absurd (start_not_awaited (awaits_same is_start a))

  -- the right side of p is on the stack, and what stands under it awaits the left side
  pub record Popped (γ : List Symbol) (p : ℕ) : Type 0 where
    pub under : List Symbol
    pub side : List Symbol
    pub stack : reverse γ ≡ reverse under ++ side
    pub is_under : drop (side_length g p) γ ≡ under
    pub rule : Rule g p (left_of g p) side
    pub fits : side_length g p ≤ length γ
    pub awaits : Awaits (Rule g) S Eof under (nonterminal (left_of g p))

  pub popped : {γ : List Symbol} {p : ℕ} → Completed g γ (suc p) → Popped γ (suc p)
  popped {γ} {p} c =
      let o = source (Rule g) S Eof c.item in
      let e₁ : side_length g (suc p) ≡ length c.α = side_length_lem l g checked o.rule ∙ length-reverse c.α in
      let e₂ : left_of g (suc p) ≡ c.left = production_left l g checked o.rule in
      record {
        under = o.under;
        side = reverse c.α;
        stack = ap reverse o.stack ∙ reverse-append c.α o.under;
        is_under = ap₂ (λ (n : ℕ) δ. drop n δ) e₁ o.stack ∙ drop-append_seam c.α o.under;
        rule = rw e₂ o.rule;
        fits = omega (arith, e₁, ap length o.stack, length-append c.α o.under);
        awaits = awaits_same (sym e₂) (go o o.from);
      }
    where
      go : (o : Source (Rule g) S Eof γ (suc p) c.left c.α [] c.token)
          → ((o.under ≡ []) × (c.left ≡ S) × (c.token ≡ Eof)) ⊎ Awaits (Rule g) S Eof o.under (nonterminal c.left)
          → Awaits (Rule g) S Eof o.under (nonterminal c.left)
      go o (inl (_, e, _)) = absurd (let z = start_has_zero l g checked (rw e at o.rule) in omega arith)
      go o (inr a) = a
