-- Derivation trees and rightmost derivations of tokens are the same: a tree's productions, children first, are the derivation's
-- reversed.
use Prim.Native.Nat.{ℕ}
use mathlib.Core.Path.{◌≡◌, refl, sym, ◌∙◌, ap, ap₂}
use mathlib.Core.List.{List, [], ◌∷◌, ◌++◌, reverse, append_assoc, append-nil, reverse_aux-eq, reverse-append}
use Rattle.rules.specs.Grammar.{Symbol, nonterminal, terminal}
use Rattle.knuth.specs.Derivations.{tokens, Step, Derives, done, step, Trees, none, leaf, node}
use Rattle.knuth.proofs.Derivations.{tokens_append, derives_then, derives_between, derives_behind, rule_step}

module _ (Rule : ℕ → ℕ → List Symbol → Type 0) where
  -- ---- from trees to derivations: the rightmost tree is derived first
  pub derivation_of_trees : {φ : List Symbol} {ps w : List ℕ} → Trees Rule φ ps w → Derives Rule φ (reverse ps) (tokens w)
  derivation_of_trees none = done
  derivation_of_trees (leaf {t} y) = derives_behind Rule (terminal t ∷ []) (derivation_of_trees y)
  derivation_of_trees (node {p} {A} {η} {φ} {ps} {qs} {u} {v} r y z) =
      let later : Derives Rule (nonterminal A ∷ φ) (reverse qs) (nonterminal A ∷ tokens v) =
      derives_behind Rule (nonterminal A ∷ []) (derivation_of_trees z) in
      let inside : Derives Rule (nonterminal A ∷ tokens v) (p ∷ reverse ps) (tokens u ++ tokens v) =
      step (rule_step Rule [] v r) (derives_between Rule [] v (derivation_of_trees y)) in
      let e : reverse qs ++ (p ∷ reverse ps) ≡ reverse (ps ++ (p ∷ qs)) =
      rw (reverse-append ps (p ∷ qs), reverse_aux-eq qs (p ∷ [])) (sym (append_assoc (reverse qs) (p ∷ []) (reverse ps))) in
      rw (tokens_append, ← e) (derives_then Rule later inside)

  -- ---- trees side by side
  pub trees_append : {φ ψ : List Symbol} {ps qs u v : List ℕ} → Trees Rule φ ps u → Trees Rule ψ qs v → Trees Rule (φ ++ ψ) (ps ++ qs) (u ++ v)
  trees_append none z = z
  trees_append (leaf y) z = leaf (trees_append y z)
  trees_append (node r y y') z = simp append_assoc (node r y (trees_append y' z))

  -- trees of a string that is cut in two
  pub record Cut (φ ψ : List Symbol) (ps w : List ℕ) : Type 0 where
    pub productions : List ℕ
    pub productions' : List ℕ
    pub leaves : List ℕ
    pub leaves' : List ℕ
    pub front : Trees Rule φ productions leaves
    pub back : Trees Rule ψ productions' leaves'
    pub all_productions : ps ≡ productions ++ productions'
    pub all_leaves : w ≡ leaves ++ leaves'

  pub cut_trees : (φ : List Symbol) {ψ : List Symbol} {ps w : List ℕ} → Trees Rule (φ ++ ψ) ps w → Cut φ ψ ps w
  cut_trees [] {ψ} {ps} {w} y = record {
    productions = [];
    productions' = ps;
    leaves = [];
    leaves' = w;
    front = none;
    back = y;
    all_productions = refl;
    all_leaves = refl;
  }
  cut_trees (terminal t ∷ φ) (leaf y) =
      let c = cut_trees φ y in
      record {
        productions = c.productions;
        productions' = c.productions';
        leaves = t ∷ c.leaves;
        leaves' = c.leaves';
        front = leaf c.front;
        back = c.back;
        all_productions = c.all_productions;
        all_leaves = ap₂ ◌∷◌ refl c.all_leaves;
      }
  cut_trees (nonterminal A ∷ φ) (node {p} {ps = ps} {u = u} r y z) =
      let c = cut_trees φ z in
      record {
        productions = ps ++ (p ∷ c.productions);
        productions' = c.productions';
        leaves = u ++ c.leaves;
        leaves' = c.leaves';
        front = node r y c.front;
        back = c.back;
        all_productions = ap {B = List ℕ} (λ qs. ps ++ (p ∷ qs)) c.all_productions ∙ sym (append_assoc ps (p ∷ c.productions) c.productions');
        all_leaves = ap {B = List ℕ} (λ v. u ++ v) c.all_leaves ∙ sym (append_assoc u c.leaves c.leaves');
      }

  -- ---- from derivations to trees: each step, from the last, puts a node over its right side
  pub trees_of_tokens : (w : List ℕ) → Trees Rule (tokens w) [] w
  trees_of_tokens [] = none
  trees_of_tokens (t ∷ w) = leaf (trees_of_tokens w)

  no_productions : (v : List ℕ) {ps w : List ℕ} → Trees Rule (tokens v) ps w → ps ≡ []
  no_productions [] none = refl
  no_productions (t ∷ v) (leaf y) = no_productions v y

  trees_along : {φ ψ : List Symbol} {ps qs v w : List ℕ} → φ ≡ ψ → ps ≡ qs → w ≡ v → Trees Rule ψ qs v → Trees Rule φ ps w
  trees_along e₁ e₂ e₃ y = rw (e₁, e₂, e₃) y

  trees_before_step : {p : ℕ} {φ ψ : List Symbol} {ps w : List ℕ} → Step Rule p φ ψ → Trees Rule ψ ps w → Trees Rule φ (ps ++ (p ∷ [])) w
  trees_before_step {p} {ps = ps} {w = w} s y =
      let c = cut_trees s.before (rw s.to at y) in
      let d = cut_trees s.body c.back in
      let e : ps ≡ c.productions ++ (d.productions ++ []) =
      c.all_productions ∙ ap {B = List ℕ} (λ qs. c.productions ++ qs)
      (d.all_productions ∙ ap {B = List ℕ} (λ qs. d.productions ++ qs) (no_productions s.behind d.back)) in
      let e₁ : ps ++ (p ∷ []) ≡ c.productions ++ (d.productions ++ (p ∷ [])) =
      ap {B = List ℕ} (λ qs. qs ++ (p ∷ [])) e ∙ simp (append_assoc, append-nil) in
      let e₂ : w ≡ c.leaves ++ (d.leaves ++ d.leaves') = c.all_leaves ∙ ap {B = List ℕ} (λ v. c.leaves ++ v) d.all_leaves in
      trees_along s.from e₁ e₂ (trees_append c.front (node s.rule d.front (rw (no_productions s.behind d.back) at d.back)))

  pub trees_before : {φ ψ : List Symbol} {ps qs w : List ℕ} → Derives Rule φ ps ψ → Trees Rule ψ qs w → Trees Rule φ (qs ++ reverse ps) w
  trees_before {qs} done y = rw append-nil y
  trees_before {qs} (step {p} {ps} s d) y =
      rw (reverse_aux-eq ps (p ∷ []), ← append_assoc qs (reverse ps) (p ∷ [])) (trees_before_step s (trees_before d y))

  pub trees_of_derivation : {φ : List Symbol} {ps : List ℕ} (w : List ℕ) → Derives Rule φ ps (tokens w) → Trees Rule φ (reverse ps) w
  trees_of_derivation w d = trees_before d (trees_of_tokens w)
