-- Knuth's two wordings of a handle. What rightmost steps put there last is the leftmost complete branch of a tree; and the leftmost complete
-- branch of a tree is what rightmost steps put there last, if nothing but tokens stands behind it.
use Prim.Native.Nat.{ℕ, suc, ◌+◌, ◌≤◌}
use mathlib.Core.Path.{◌≡◌, refl, sym, ◌∙◌, ap}
use mathlib.Core.List.{List, [], ◌∷◌, ◌++◌, reverse, append_assoc, nil≢cons, cons≢nil, head-eq_of_cons-eq, tail-eq_of_cons-eq}
use native.Mathlib.Omega.{arith}
use lib.ListN.{length, drop, length-append}
use lib.Seq.{drop-append_seam, drop-append-le}
use Rattle.rules.specs.Grammar.{Symbol, nonterminal, terminal}
use Rattle.knuth.specs.Derivations.{tokens, Step, Derives, done, step, Trees, none, leaf, node}
use Rattle.knuth.specs.Branches.{Grown, nothing, stays, grows, LeftmostBranch, whole, deeper, further}
use Rattle.knuth.specs.LR1.{Determined, Handle, LR1}
use Rattle.knuth.proofs.Strings.{tokens_apart}
use Rattle.knuth.proofs.Derivations.{derives_then, derives_between, derives_behind, step_between, rule_step}
use Rattle.knuth.proofs.Trees.{derivation_of_trees}

module _ (Rule : ℕ → ℕ → List Symbol → Type 0) where
  -- ---- trees beside one another
  all_stay : (φ : List Symbol) → Grown Rule φ φ
  all_stay [] = nothing
  all_stay (x ∷ φ) = stays (all_stay φ)

  branch_behind : (δ : List Symbol) {φ ψ : List Symbol} {m n p : ℕ} → m ≡ length δ + n → LeftmostBranch Rule φ ψ n p → LeftmostBranch Rule (δ ++ φ) (δ ++ ψ) m p
  branch_behind [] {m = m} {n = n} e b = let q : m ≡ n = omega arith in rw q b
  branch_behind (x ∷ δ) {m = m} {n = n} e b = let q : m ≡ suc (length δ + n) = omega arith in rw q (further (branch_behind δ refl b))

  cut_grown : (φ : List Symbol) {χ ψ : List Symbol} → Grown Rule (φ ++ χ) ψ
      → (ψ₁ : List Symbol) × (ψ₂ : List Symbol) × (ψ ≡ ψ₁ ++ ψ₂) × Grown Rule φ ψ₁ × Grown Rule χ ψ₂
  cut_grown [] {ψ = ψ} y = ([], ψ, refl, nothing, y)
  cut_grown (x ∷ φ) (stays y) = let (ψ₁, ψ₂, e, a, b) = cut_grown φ y in (x ∷ ψ₁, ψ₂, ap (λ ψ. x ∷ ψ) e, stays a, b)
  cut_grown (nonterminal A ∷ φ) (grows {χ = κ} r y z) =
      let (ψ₁, ψ₂, e, a, b) = cut_grown φ z in
      (κ ++ ψ₁, ψ₂, ap (λ ψ. κ ++ ψ) e ∙ sym (append_assoc κ ψ₁ ψ₂), grows r y a, b)

  no_branch_of_tokens : (w : List ℕ) {ψ : List Symbol} {n p : ℕ} → LeftmostBranch Rule (tokens w) ψ n p → ⊥
  no_branch_of_tokens [] h = elim h [ ]
  no_branch_of_tokens (t ∷ w) (further b) = no_branch_of_tokens w b

  cut_branch : (φ : List Symbol) (w : List ℕ) {ψ : List Symbol} {n p : ℕ} → LeftmostBranch Rule (φ ++ tokens w) ψ n p
      → (ψ₁ : List Symbol) × (ψ₂ : List Symbol) × (ψ ≡ ψ₁ ++ ψ₂) × LeftmostBranch Rule φ ψ₁ n p × Grown Rule (tokens w) ψ₂
  cut_branch [] w b = absurd (no_branch_of_tokens w b)
  cut_branch (x ∷ φ) w (further b) = let (ψ₁, ψ₂, e, a, y) = cut_branch φ w b in (x ∷ ψ₁, ψ₂, ap (λ ψ. x ∷ ψ) e, further a, y)
  cut_branch (nonterminal A ∷ φ) w (whole {η = κ} r y) =
      let (ψ₁, ψ₂, e, a, b) = cut_grown φ y in
      (κ ++ ψ₁, ψ₂, ap (λ ψ. κ ++ ψ) e ∙ sym (append_assoc κ ψ₁ ψ₂), whole r a, b)
  cut_branch (nonterminal A ∷ φ) w (deeper {χ = κ} r b y) =
      let (ψ₁, ψ₂, e, a, z) = cut_grown φ y in
      (κ ++ ψ₁, ψ₂, ap (λ ψ. κ ++ ψ) e ∙ sym (append_assoc κ ψ₁ ψ₂), deeper r b a, z)

  -- ---- from steps to a branch: with each step taken back, from the last, its right side becomes a branch
  grown_unstepped : (δ χ : List Symbol) {η ψ : List Symbol} {p A : ℕ} → Rule p A η → Grown Rule (δ ++ (η ++ χ)) ψ → Grown Rule (δ ++ (nonterminal A ∷ χ)) ψ
  grown_unstepped [] χ {η} r y = let (ψ₁, ψ₂, e, a, b) = cut_grown η y in rw e (grows r a b)
  grown_unstepped (x ∷ δ) χ r (stays y) = stays (grown_unstepped δ χ r y)
  grown_unstepped (nonterminal B ∷ δ) χ r (grows q y z) = grows q y (grown_unstepped δ χ r z)

  branch_unstepped : (δ : List Symbol) (w : List ℕ) {η ψ : List Symbol} {p q n A : ℕ} → Rule q A η
      → LeftmostBranch Rule (δ ++ (η ++ tokens w)) ψ n p → LeftmostBranch Rule (δ ++ (nonterminal A ∷ tokens w)) ψ n p
  branch_unstepped [] w {η} r b = let (ψ₁, ψ₂, e, a, y) = cut_branch η w b in rw e (deeper r a y)
  branch_unstepped (x ∷ δ) w r (further b) = further (branch_unstepped δ w r b)
  branch_unstepped (nonterminal B ∷ δ) w r (whole q y) = whole q (grown_unstepped δ (tokens w) r y)
  branch_unstepped (nonterminal B ∷ δ) w r (deeper q b y) = deeper q b (grown_unstepped δ (tokens w) r y)

  branch_of_steps : {φ χ ψ : List Symbol} {ps : List ℕ} {p : ℕ} → Derives Rule φ ps χ → (s : Step Rule p χ ψ) → LeftmostBranch Rule φ ψ (length (s.before ++ s.body)) p
  branch_of_steps done s =
      rw (s.from, s.to) (branch_behind s.before (length-append s.before s.body) (whole s.rule (all_stay (tokens s.behind))))
  branch_of_steps (step q d) s = rw q.from (branch_unstepped q.before q.behind q.rule (rw q.to at (branch_of_steps d s)))

  pub handle_is_branch : {S : ℕ} {φ : List Symbol} {n p : ℕ} → Handle Rule S φ n p → LeftmostBranch Rule (nonterminal S ∷ []) φ n p
  handle_is_branch h = rw h.end (branch_of_steps h.derivation h.last)

  -- so the first wording refuses whatever the second does
  pub branches_determined→LR1 : {S Eof : ℕ} → Determined (LeftmostBranch Rule (nonterminal S ∷ [])) Eof → LR1 Rule S Eof
  branches_determined→LR1 determined χ u v p m q h k e = determined χ u v p m q (handle_is_branch h) (handle_is_branch k) e

  -- ---- from a branch to steps: what grows to tokens is derived first
  leaf_of : {x : Symbol} {t : ℕ} {φ : List Symbol} {ps w : List ℕ} → x ≡ terminal t → Trees Rule φ ps w → Trees Rule (x ∷ φ) ps (t ∷ w)
  leaf_of e y = rw e (leaf y)

  node_of : {p A : ℕ} {η φ : List Symbol} {ps qs u v w : List ℕ} → Rule p A η → w ≡ u ++ v → Trees Rule η ps u → Trees Rule φ qs v
      → Trees Rule (nonterminal A ∷ φ) (ps ++ (p ∷ qs)) w
  node_of r e y z = rw e (node r y z)

  trees_of_grown : {φ ψ : List Symbol} → Grown Rule φ ψ → (w : List ℕ) → ψ ≡ tokens w → (ps : List ℕ) × Trees Rule φ ps w
  trees_of_grown nothing [] e = ([], none)
  trees_of_grown nothing (t ∷ w) e = absurd (nil≢cons e)
  trees_of_grown (stays y) [] e = absurd (cons≢nil e)
  trees_of_grown (stays y) (t ∷ w) e =
      let (ps, z) = trees_of_grown y w (tail-eq_of_cons-eq e) in
      (ps, leaf_of (head-eq_of_cons-eq e) z)
  trees_of_grown (grows {p = p} {χ = κ} r y z) w e =
      let (u, v, e₁, e₂, e₃) = tokens_apart κ w e in
      let (ps, a) = trees_of_grown y u e₁ in
      let (qs, b) = trees_of_grown z v e₂ in
      (ps ++ (p ∷ qs), node_of r e₃ a b)

  grown_derives : {φ : List Symbol} (w : List ℕ) → Grown Rule φ (tokens w) → (ps : List ℕ) × Derives Rule φ ps (tokens w)
  grown_derives w y = let (ps, z) = trees_of_grown y w refl in (reverse ps, derivation_of_trees Rule z)

  branch_ends : {φ ψ : List Symbol} {n p : ℕ} → LeftmostBranch Rule φ ψ n p → n ≤ length ψ
  branch_ends (whole {η = η} {ψ = ψ} r y) = omega (arith, length-append η ψ)
  branch_ends (deeper {χ = κ} {ψ = ψ} r b y) = omega (arith, branch_ends b, length-append κ ψ)
  branch_ends (further b) = omega (arith, branch_ends b)

  -- φ derives ψ by rightmost steps; the last is by production p, and the right side that it puts there ends with the n-th symbol
  record PutLast (φ ψ : List Symbol) (n p : ℕ) : Type 0 where
    form : List Symbol
    by : List ℕ
    derivation : Derives Rule φ by form
    last : Step Rule p form ψ
    end : n ≡ length (last.before ++ last.body)

  put_whole : {p A : ℕ} {φ ψ : List Symbol} (η : List Symbol) (u : List ℕ) → Rule p A η → Grown Rule φ ψ → drop (length η) (η ++ ψ) ≡ tokens u
      → PutLast (nonterminal A ∷ φ) (η ++ ψ) (length η) p
  put_whole {A = A} {ψ = ψ} η u r y e =
      let q : ψ ≡ tokens u = sym (drop-append_seam η ψ) ∙ e in
      let (ps, d) = grown_derives u (rw q at y) in
      rw q (record { form = nonterminal A ∷ tokens u; by = ps; derivation = derives_behind Rule (nonterminal A ∷ []) d; last = rule_step Rule [] u r; end = refl })

  put_deeper : {p q A n : ℕ} {η φ χ ψ : List Symbol} (u : List ℕ) → Rule q A η → n ≤ length χ → ((w : List ℕ) → drop n χ ≡ tokens w → PutLast η χ n p) → Grown Rule φ ψ
      → drop n (χ ++ ψ) ≡ tokens u → PutLast (nonterminal A ∷ φ) (χ ++ ψ) n p
  put_deeper {A = A} {n = n} {χ = χ} {ψ = ψ} u r h inner y e =
      let (w, v, e₁, e₂, _) = tokens_apart (drop n χ) u (sym (drop-append-le n χ ψ h) ∙ e) in
      let l = inner w e₁ in
      let (ps, d) = grown_derives v (rw e₂ at y) in
      rw e₂ (record {
        form = l.form ++ tokens v;
        by = _;
        derivation = derives_then Rule (derives_behind Rule (nonterminal A ∷ []) d) (step (rule_step Rule [] v r) (derives_between Rule [] v l.derivation));
        last = step_between Rule [] v l.last;
        end = l.end;
      })

  put_further : {p n : ℕ} {φ ψ : List Symbol} (x : Symbol) → PutLast φ ψ n p → PutLast (x ∷ φ) (x ∷ ψ) (suc n) p
  put_further x l =
      let s = l.last in
      record {
        form = x ∷ l.form;
        by = l.by;
        derivation = derives_behind Rule (x ∷ []) l.derivation;
        last = record {
          before = x ∷ s.before;
          head = s.head;
          body = s.body;
          behind = s.behind;
          rule = s.rule;
          from = ap (λ φ. x ∷ φ) s.from;
          to = ap (λ φ. x ∷ φ) s.to;
        };
        end = ap suc l.end;
      }

  -- nothing but tokens stands behind the n-th symbol
  put_last : {φ ψ : List Symbol} {n p : ℕ} → LeftmostBranch Rule φ ψ n p → (u : List ℕ) → drop n ψ ≡ tokens u → PutLast φ ψ n p
  put_last (whole {η = η} r y) u e = put_whole η u r y e
  put_last (deeper r b y) u e = put_deeper u r (branch_ends b) (λ w q. put_last b w q) y e
  put_last (further {x = x} b) u e = put_further x (put_last b u e)

  pub branch_is_handle : {S : ℕ} (χ : List Symbol) (u : List ℕ) {p : ℕ} → LeftmostBranch Rule (nonterminal S ∷ []) (χ ++ tokens u) (length χ) p
      → Handle Rule S (χ ++ tokens u) (length χ) p
  branch_is_handle χ u b =
      let l = put_last b u (drop-append_seam χ (tokens u)) in
      record { form = l.form; by = l.by; derivation = l.derivation; last = l.last; end = l.end }
