-- Strings of symbols: two ways to cut one, and strings that end in tokens.
use Prim.Native.Nat.{ℕ}
use mathlib.Core.Path.{◌≡◌, refl, sym, ap, ap₂}
use mathlib.Core.Logic.{◌⊎◌, inl, inr}
use mathlib.Core.List.{List, [], ◌∷◌, ◌++◌, nil≢cons, cons≢nil, head-eq_of_cons-eq, tail-eq_of_cons-eq}
use native.Mathlib.Omega.{arith}
use lib.ListN.{length, length-append}
use Rattle.rules.specs.Grammar.{Symbol, nonterminal, terminal}
use Rattle.knuth.specs.Derivations.{tokens}

-- ---- φ ψ is also μ x ν: the symbol x stands in φ or in ψ
abbrev pub Stands : List Symbol → List Symbol → List Symbol → Symbol → List Symbol → Type 0
Stands φ ψ μ x ν =
    ((ν' : List Symbol) × (φ ≡ μ ++ (x ∷ ν')) × (ν ≡ ν' ++ ψ)) ⊎ ((μ' : List Symbol) × (μ ≡ φ ++ μ') × (ψ ≡ μ' ++ (x ∷ ν)))

pub where_stands : (φ ψ μ : List Symbol) (x : Symbol) (ν : List Symbol) → φ ++ ψ ≡ μ ++ (x ∷ ν) → Stands φ ψ μ x ν
where_stands [] ψ μ x ν e = inr (μ, refl, e)
where_stands (y ∷ φ) ψ [] x ν e = inl (φ, ap₂ ◌∷◌ (head-eq_of_cons-eq e) refl, sym (tail-eq_of_cons-eq e))
where_stands (y ∷ φ) ψ (z ∷ μ) x ν e = go (where_stands φ ψ μ x ν (tail-eq_of_cons-eq e))
  where
    go : Stands φ ψ μ x ν → Stands (y ∷ φ) ψ (z ∷ μ) x ν
    go (inl r) = inl (r.0, ap₂ ◌∷◌ (head-eq_of_cons-eq e) r.1, r.2)
    go (inr r) = inr (r.0, ap₂ ◌∷◌ (sym (head-eq_of_cons-eq e)) r.1, r.2)

pub no_nonterminal_in_tokens : (v : List ℕ) (μ : List Symbol) (A : ℕ) (ν : List Symbol) → tokens v ≡ μ ++ (nonterminal A ∷ ν) → ⊥
no_nonterminal_in_tokens [] [] A ν e = nil≢cons e
no_nonterminal_in_tokens [] (x ∷ μ) A ν e = nil≢cons e
no_nonterminal_in_tokens (t ∷ v) [] A ν e = let z : ◌≡◌ {A = ℕ} 0 1 = cc (head-eq_of_cons-eq e) in omega arith
no_nonterminal_in_tokens (t ∷ v) (x ∷ μ) A ν e = no_nonterminal_in_tokens v μ A ν (tail-eq_of_cons-eq e)

-- ---- strings that end in tokens
tokens_injective : (u v : List ℕ) → tokens u ≡ tokens v → u ≡ v
tokens_injective [] [] e = refl
tokens_injective [] (t ∷ v) e = absurd (nil≢cons e)
tokens_injective (t ∷ u) [] e = absurd (cons≢nil e)
tokens_injective (t ∷ u) (s ∷ v) e =
    let h : t ≡ s = cc (head-eq_of_cons-eq e) in
    ap₂ ◌∷◌ h (tokens_injective u v (tail-eq_of_cons-eq e))

pub tokens_cut : (u : List ℕ) (φ : List Symbol) (v : List ℕ) → tokens u ≡ φ ++ tokens v → (z : List ℕ) × (φ ≡ tokens z) × (u ≡ z ++ v)
tokens_cut u [] v e = ([], refl, tokens_injective u v e)
tokens_cut [] (x ∷ φ) v e = absurd (nil≢cons e)
tokens_cut (t ∷ u) (x ∷ φ) v e =
    let (z, h, k) = tokens_cut u φ v (tail-eq_of_cons-eq e) in
    (t ∷ z, ap₂ ◌∷◌ (sym (head-eq_of_cons-eq e)) h, ap₂ ◌∷◌ refl k)

pub tokens_apart : (φ : List Symbol) {ψ : List Symbol} (w : List ℕ) → φ ++ ψ ≡ tokens w → (u : List ℕ) × (v : List ℕ) × (φ ≡ tokens u) × (ψ ≡ tokens v) × (w ≡ u ++ v)
tokens_apart [] w e = ([], w, refl, e, refl)
tokens_apart (x ∷ φ) [] e = absurd (cons≢nil e)
tokens_apart (x ∷ φ) (t ∷ w) e =
    let (u, v, e₁, e₂, e₃) = tokens_apart φ w (tail-eq_of_cons-eq e) in
    (t ∷ u, v, ap₂ ◌∷◌ (head-eq_of_cons-eq e) e₁, e₂, ap₂ ◌∷◌ refl e₃)

-- φ u and ψ v are one string, and φ ends one token or more past ψ
pub record Past (φ : List Symbol) (u : List ℕ) (ψ : List Symbol) (v : List ℕ) : Type 0 where
  pub token : ℕ
  pub more : List ℕ
  pub longer : φ ≡ ψ ++ (terminal token ∷ tokens more)
  pub rest : v ≡ token ∷ (more ++ u)

past_empty : (u : List ℕ) (x : Symbol) (φ : List Symbol) (v : List ℕ) → tokens u ≡ (x ∷ φ) ++ tokens v → Past (x ∷ φ) v [] u
past_empty [] x φ v e = absurd (nil≢cons e)
past_empty (t ∷ u) x φ v e =
    let (z, h, k) = tokens_cut u φ v (tail-eq_of_cons-eq e) in
    record { token = t; more = z; longer = ap₂ ◌∷◌ (sym (head-eq_of_cons-eq e)) h; rest = ap₂ ◌∷◌ refl k }

past_cons : {x y : Symbol} {φ ψ : List Symbol} {u v : List ℕ} → x ≡ y → Past φ u ψ v → Past (x ∷ φ) u (y ∷ ψ) v
past_cons h p = record { token = p.token; more = p.more; longer = ap₂ ◌∷◌ h p.longer; rest = p.rest }

-- one string cut twice before tokens: at one place, or at one past the other
abbrev pub Ends : List Symbol → List ℕ → List Symbol → List ℕ → Type 0
Ends φ u ψ v = ((φ ≡ ψ) × (u ≡ v)) ⊎ Past φ u ψ v ⊎ Past ψ v φ u

pub ends : (φ ψ : List Symbol) (u v : List ℕ) → φ ++ tokens u ≡ ψ ++ tokens v → Ends φ u ψ v
ends [] [] u v e = inl (refl, tokens_injective u v e)
ends [] (y ∷ ψ) u v e = inr (inr (past_empty u y ψ v e))
ends (x ∷ φ) [] u v e = inr (inl (past_empty v x φ u (sym e)))
ends (x ∷ φ) (y ∷ ψ) u v e = go (ends φ ψ u v (tail-eq_of_cons-eq e))
  where
    h : x ≡ y
    h = head-eq_of_cons-eq e

    go : Ends φ u ψ v → Ends (x ∷ φ) u (y ∷ ψ) v
    go (inl (e₁, e₂)) = inl (ap₂ ◌∷◌ h e₁, e₂)
    go (inr (inl p)) = inr (inl (past_cons h p))
    go (inr (inr p)) = inr (inr (past_cons (sym h) p))

past_longer : {φ ψ : List Symbol} {u v : List ℕ} → Past φ u ψ v → length φ ≡ length ψ → ⊥
past_longer {φ} {ψ} p e = omega (arith, ap length p.longer, length-append ψ (terminal p.token ∷ tokens p.more))

pub same_end : (φ ψ : List Symbol) (u v : List ℕ) → φ ++ tokens u ≡ ψ ++ tokens v → length φ ≡ length ψ → (φ ≡ ψ) × (u ≡ v)
same_end φ ψ u v e l = go (ends φ ψ u v e)
  where
    go : Ends φ u ψ v → (φ ≡ ψ) × (u ≡ v)
    go (inl same) = same
    go (inr (inl p)) = absurd (past_longer p l)
    go (inr (inr p)) = absurd (past_longer p (sym l))
