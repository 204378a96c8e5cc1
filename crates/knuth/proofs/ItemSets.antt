-- The item set of a stack of symbols, as `rules`' closures and transitions compute it, has Knuth's items of the stack and no others. So it
-- is decided what a stack awaits and where it reduces, and every coded grammar that is LR(1) has Knuth's table.
use Prim.Native.Nat.{ℕ, ◌+◌, ◌<◌}
use mathlib.Core.Path.{◌≡◌, refl, sym, ap, ◌∙◌}
use mathlib.Core.Logic.{⊎_elim}
use mathlib.Core.Bool.{Bool, true, false, ◌&&◌, not, true≢false}
use mathlib.Core.List.{List, [], ◌∷◌}
use native.Mathlib.Omega.{arith}
use lib.ListN.{length}
use borrow.Author.Tests.{eqb-false, not-true}
use Rattle.base.specs.Among.{Among, here}
use Rattle.base.specs.Lists.{some_of}
use Rattle.base.proofs.Lists.{among_none, among_cons, among_map, keep_among, among_keep}
use Rattle.base.proofs.Members.{map_among}
use Rattle.base.proofs.Tests.{both_true, some_true, true_some}
use Rattle.rules.specs.Limits.{Limits}
use Rattle.rules.specs.Records.{Grammar, at}
use Rattle.rules.specs.Tokens.{TokenSet, Has, has, is_empty_set, eof}
use Rattle.rules.specs.Grammar.{Symbol, nonterminal, at_end, is_before, symbols_behind, left_sides, start, terminal_count}
use Rattle.rules.specs.First.{Sets, set_of}
use Rattle.rules.specs.Run.{Table}
use Rattle.rules.specs.States.{Entry, closes, hands_on, closure_sets, entry_of, kernel_over}
use Rattle.sets.proofs.Laws.{has_true, has_none, has_eof, single_below, some_token}
use Rattle.knuth.specs.Rules.{Rule}
use Rattle.knuth.specs.Meaning.{First}
use Rattle.knuth.specs.Coded.{Checked}
use Rattle.knuth.specs.Entries.{HasItem, AtItem}
use Rattle.knuth.specs.Items.{At, begin, move, close, Awaits, Reduces}
use Rattle.knuth.specs.LR1.{Clear}
use Rattle.knuth.specs.Table.{KnuthTable, decided}
use Rattle.knuth.specs.ItemSets.{canonical_follow, start_kernel, kernel_at, item_set}
use Rattle.knuth.proofs.Checked.{same_production, start_is_first, first_is_left_side}
use Rattle.knuth.proofs.Productions.{rule_of_left_side, left_side_of_rule}
use Rattle.knuth.proofs.FirstSets.{first_behind_dot}
use Rattle.knuth.proofs.Dots.{before_not_at_end, before_behind, symbol_behind, end_behind, at_end_behind}
use Rattle.knuth.proofs.Table.{clear→table}
use Rattle.knuth.proofs.Closures.{closes_behind, behind_closes, canonical_follows_narrow}
use Rattle.knuth.proofs.Kernels.{ProperSets, OnlyItems, kernel_in_closure, left_side_in_closure, closed_in_closure, closure_proper, moved_proper, closure_only}

module _ (g : Grammar) where
  abbrev n : ℕ
  n = terminal_count g

  abbrev sets_at : List Symbol → Sets
  sets_at γ = closure_sets g (canonical_follow g) (kernel_at g γ)

  kernel_entry : (γ : List Symbol) (e : Entry) → Among e (kernel_at g γ) → Among e (item_set g γ)
  unfolding item_set
  kernel_entry γ e m = kernel_in_closure g (canonical_follow g) (kernel_at g γ) e m

  -- ---- the sets of a kernel and of its closure are proper
  start_proper : ProperSets g (start_kernel g)
  unfolding start_kernel
  start_proper e m = ⊎_elim (λ q. rw q (single_below (n + 1) n (omega arith), λ z. has_none n (rw z at ((has_eof n n).1 refl)))) (λ k. absurd (among_none k)) (among_cons m)

  set_proper : (γ : List Symbol) → ProperSets g (kernel_at g γ) → ProperSets g (item_set g γ)
  unfolding item_set
  set_proper γ proper = closure_proper g (canonical_follow g) (kernel_at g γ) (canonical_follows_narrow g) proper

  kernel_proper : (γ : List Symbol) → ProperSets g (kernel_at g γ)
  unfolding kernel_at item_set
  kernel_proper [] = start_proper
  kernel_proper (x ∷ γ) = moved_proper g x (item_set g γ) (set_proper γ (kernel_proper γ))

  pub items_proper : (γ : List Symbol) → ProperSets g (item_set g γ)
  items_proper γ = set_proper γ (kernel_proper γ)

module _ (l : Limits) (g : Grammar) (checked : Checked l g) where
  -- ---- the item set has every item of the stack
  abbrev S : ℕ
  S = start g

  has_start : {p : ℕ} {η : List Symbol} → Rule g p S η → HasItem g (item_set g []) p η (n g)
  unfolding kernel_at start_kernel
  has_start r =
      let z : r.left_side ≡ 0 = start_is_first l g checked r in
      record {
        entry = record { item = 0; next = 0; set = eof (n g) };
        among = kernel_entry g [] _ here;
        number = rw z at r.number;
        behind = rw z at r.right;
        token = (has_eof (n g) (n g)).1 refl;
      }

  has_moved_lem : (γ : List Symbol) {β : List Symbol} {p t : ℕ} (x : Symbol) → HasItem g (item_set g γ) p (x ∷ β) t → HasItem g (item_set g (x ∷ γ)) p β t
  unfolding kernel_at kernel_over item_set
  has_moved_lem γ x h =
      let e : Entry = h.entry in
      let (before, rest) = symbol_behind g e.item h.behind in
      record {
        entry = record { item = e.item + 1; next = 0; set = e.set };
        among = kernel_entry g (x ∷ γ) _ (among_map _ (among_keep (λ (e : Entry). is_before g x e.item) h.among before));
        number = same_production l g checked e.item (before_not_at_end g x e.item before) ∙ h.number;
        behind = rest;
        token = h.token;
      }

  has_closed : (γ : List Symbol) {β η : List Symbol} {p q B t u : ℕ} → HasItem g (item_set g γ) p (nonterminal B ∷ β) t → Rule g q B η → First (Rule g) β t u
      → HasItem g (item_set g γ) q η u
  unfolding entry_of item_set
  has_closed γ {β} {B = B} {t = t} {u = u} h r f =
      let e : Entry = h.entry in
      let some : e.set ≡ 0 → ⊥ = λ z. has_none t (rw z at h.token) in
      let (a, b, rest) = closes_behind g e.item e.set B h.behind some in
      let first : Has (hands_on g (canonical_follow g) e.item e.set) u =
      ((first_behind_dot l g checked (e.item + 1)).ahead_some e.set t u h.token).1 (t, h.token, rw rest f) in
      let here : Has (set_of (sets_at g γ) B) u = rw b at (closed_in_closure g (canonical_follow g) (kernel_at g γ) (canonical_follows_narrow g) (kernel_proper g γ) e h.among u a first) in
      record {
        entry = entry_of g (sets_at g γ) r.left_side;
        among = left_side_in_closure g (canonical_follow g) (kernel_at g γ) r.left_side u (left_side_of_rule g r) (rw r.left here);
        number = r.number;
        behind = r.right;
        token = rw r.left here;
      }

  pub items_found : {γ α β : List Symbol} {p A t : ℕ} → At (Rule g) S (n g) γ p A α β t → HasItem g (item_set g γ) p β t
  items_found (begin r) = has_start r
  items_found (move {γ = γ} {x = x} i) = has_moved_lem γ x (items_found i)
  items_found (close {γ = γ} i r f) = has_closed γ (items_found i) r f

  -- ---- and no others
  -- an item of γ hands u on to B: B stands behind its dot, and u begins what follows B
  record Handed (γ : List Symbol) (B u : ℕ) : Type 0 where
    production : ℕ
    left : ℕ
    α : List Symbol
    β : List Symbol
    token : ℕ
    item : At (Rule g) S (n g) γ production left α (nonterminal B ∷ β) token
    first : First (Rule g) β token u

  -- the productions of a nonterminal that a token is handed on to are at work
  left_side_sound : (γ : List Symbol) (i t : ℕ) → Among i (left_sides g) → Handed γ (at g i).symbol t → AtItem g γ i t
  left_side_sound γ i t k a = record { left = (at g i).symbol; α = []; item = close a.item (rule_of_left_side g i k) a.first }

  closes_sound : (γ : List Symbol) (i : ℕ) (s : TokenSet) → ((t : ℕ) → Has s t → AtItem g γ i t) → closes g i s ≡ true
      → (u : ℕ) → Has (hands_on g (canonical_follow g) i s) u → Handed γ (at g (i + 1)).symbol u
  unfolding closes hands_on is_empty_set
  closes_sound γ i s sound a u h =
      let (t, k) = some_token s (eqb-false s 0 (not-true _ (both_true (not (is_empty_set s)) _ a).0)) in
      let (b, k', f) = ((first_behind_dot l g checked (i + 1)).ahead_some s t u k).0 h in
      let j : AtItem g γ i b = sound b k' in
      record {
        production = (at g i).production;
        left = j.left;
        α = j.α;
        β = symbols_behind g (i + 1);
        token = b;
        item = rw (behind_closes g i s a) at j.item;
        first = f;
      }

  set_sound : (γ : List Symbol) → OnlyItems (AtItem g γ) (kernel_at g γ) → OnlyItems (AtItem g γ) (item_set g γ)
  unfolding item_set
  set_sound γ sound = closure_only g (canonical_follow g) (AtItem g γ) (Handed γ) (closes_sound γ) (left_side_sound γ) (kernel_at g γ) sound

  moved_sound : (γ : List Symbol) (x : Symbol) → OnlyItems (AtItem g γ) (item_set g γ) → OnlyItems (AtItem g (x ∷ γ)) (kernel_over g x (item_set g γ))
  unfolding kernel_over
  moved_sound γ x sound e m t h =
      let (f, k, q) = map_among (λ (e : Entry). record { item = e.item + 1; next = 0; set = e.set }) _ m in
      let (j, before) = keep_among (λ (e : Entry). is_before g x e.item) (item_set g γ) k in
      let s : e.set ≡ f.set = ap (λ (e : Entry). e.set) q in
      let i : AtItem g γ f.item t = sound f j t (rw s at h) in
      let read : At (Rule g) S (n g) γ (at g f.item).production i.left i.α (x ∷ symbols_behind g (f.item + 1)) t = rw (before_behind g f.item before) at i.item in
      rw q (record { left = i.left; α = x ∷ i.α; item = rw (same_production l g checked f.item (before_not_at_end g x f.item before)) (move read) })

  module _ (some : 0 < length g) where
    start_sound : OnlyItems (AtItem g []) (start_kernel g)
    unfolding start_kernel start
    start_sound e m t h = ⊎_elim (λ q. rw q (begun (rw q at h))) (λ k. absurd (among_none k)) (among_cons m)
      where
        begun : Has (eof (n g)) t → AtItem g [] 0 t
        begun k = record { left = S; α = []; item = rw ((has_eof (n g) t).0 k) (begin (rule_of_left_side g 0 (first_is_left_side l g checked some))) }

    kernel_sound : (γ : List Symbol) → OnlyItems (AtItem g γ) (kernel_at g γ)
    unfolding kernel_at item_set
    kernel_sound [] = start_sound
    kernel_sound (x ∷ γ) = moved_sound γ x (set_sound γ (kernel_sound γ))

    pub items_sound : (γ : List Symbol) → OnlyItems (AtItem g γ) (item_set g γ)
    items_sound γ = set_sound γ (kernel_sound γ)

    -- ---- so it is decided what a stack awaits and where it reduces
    pub awaits_decided : (γ : List Symbol) (x : Symbol) → Dec (Awaits (Rule g) S (n g) γ x)
    awaits_decided γ x = by_test (some_of (λ e. is_before g x e.item) (item_set g γ)) refl
      where
        by_test : (b : Bool) → some_of (λ e. is_before g x e.item) (item_set g γ) ≡ b → Dec (Awaits (Rule g) S (n g) γ x)
        by_test true e =
            let (f, m, before) = some_true (λ (e : Entry). is_before g x e.item) (item_set g γ) e in
            let (t, h) = some_token f.set (items_proper g γ f m).1 in
            let i = items_sound γ f m t h in
            yes (record {
              production = (at g f.item).production;
              left = i.left;
              α = i.α;
              β = symbols_behind g (f.item + 1);
              token = t;
              item = rw (before_behind g f.item before) at i.item;
            })
        by_test false e = no (λ a.
            let h = items_found a.item in
            true≢false (sym (true_some (λ (e : Entry). is_before g x e.item) h.among (symbol_behind g h.entry.item h.behind).0) ∙ e))

    pub reduces_decided : (γ : List Symbol) (t : ℕ) → Dec ((p : ℕ) × Reduces (Rule g) S (n g) γ p t)
    reduces_decided γ t = by_test (some_of (λ e. at_end g e.item && has e.set t) (item_set g γ)) refl
      where
        by_test : (b : Bool) → some_of (λ e. at_end g e.item && has e.set t) (item_set g γ) ≡ b → Dec ((p : ℕ) × Reduces (Rule g) S (n g) γ p t)
        by_test true e =
            let (f, m, k) = some_true (λ (e : Entry). at_end g e.item && has e.set t) (item_set g γ) e in
            let (end, h) = both_true (at_end g f.item) _ k in
            let i = items_sound γ f m t ((has_true f.set t).0 h) in
            yes ((at g f.item).production, record { left = i.left; α = i.α; item = rw (at_end_behind g f.item end) at i.item })
        by_test false e = no (λ (p, r).
            let h = items_found r.item in
            let k : (at_end g h.entry.item && has h.entry.set t) ≡ true = rw (end_behind g h.entry.item h.behind) ((has_true h.entry.set t).1 h.token) in
            true≢false (sym (true_some (λ (e : Entry). at_end g e.item && has e.set t) h.among k) ∙ e))

    -- ---- every coded grammar without conflict has Knuth's table
    abbrev pub knuth_table : Table (List Symbol)
    knuth_table = decided (Rule g) S (n g) awaits_decided reduces_decided

    pub clear_has_table : Clear (Rule g) S (n g) → KnuthTable (Rule g) S (n g) knuth_table
    clear_has_table clear = clear→table (Rule g) S (n g) awaits_decided reduces_decided clear
