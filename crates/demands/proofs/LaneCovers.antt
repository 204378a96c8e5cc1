-- The least sets of linked states cover Knuth's items: a state that a stack reaches has, with least sets, every item of the stack.
use Prim.Native.Nat.{ℕ, ◌+◌, ◌<◌}
use mathlib.Core.Path.{◌≡◌, sym, ap, ◌∙◌}
use mathlib.Core.Bool.{Bool, true, ◌||◌, not}
use mathlib.Core.List.{List, [], ◌∷◌}
use lib.ListN.{length, get_or}
use lib.Dec.{eqb}
use borrow.Author.Tests.{eq-eqb, ne_eqb}
use Rattle.base.specs.Among.{Among}
use Rattle.base.proofs.Lists.{each_true}
use Rattle.base.proofs.Tests.{both_true, implied_true}
use Rattle.base.proofs.Places.{within_states}
use Rattle.rules.specs.Limits.{Limits}
use Rattle.rules.specs.Records.{Grammar, at, is_left_side}
use Rattle.rules.specs.Tokens.{TokenSet, Has, within, is_empty_set}
use Rattle.rules.specs.Grammar.{Symbol, nonterminal, at_start, is_before, is_left_side_of, symbols_behind, start, terminal_count}
use Rattle.rules.specs.First.{first_sets}
use Rattle.rules.specs.States.{Entry, State, closes, hands_on}
use Rattle.rules.specs.FinalCheck.{have_set, have_at, moves, is_behind_dot, closing, entry_moved, entry_closed, entry_settled, least_sets}
use Rattle.sets.proofs.Laws.{has_none, within_true}
use Rattle.knuth.specs.Coded.{Checked}
use Rattle.knuth.specs.Entries.{HasItem}
use Rattle.knuth.specs.Items.{At, begin, move, close}
use Rattle.knuth.specs.Meaning.{First}
use Rattle.knuth.specs.Rules.{Rule}
use Rattle.knuth.proofs.Closures.{closes_behind}
use Rattle.knuth.proofs.Dots.{symbol_behind, before_not_at_end}
use Rattle.knuth.proofs.FirstSets.{first_behind_dot}
use Rattle.knuth.proofs.Checked.{same_production, start_is_first}
use Rattle.knuth.proofs.Productions.{left_side_of_rule}
use Rattle.runs.specs.Good.{Reach, at_bottom, over}
use Rattle.demands.proofs.Linked.{core, in_core}
use Rattle.demands.proofs.Least.{Shaped, least_sets_shaped, least_entry_settled, alike_entry, alike_item}
use Rattle.demands.proofs.LR0.{LinkedItems}

-- where every entry that passes the test has the tokens, one does that is there
had : (test : ℕ → Bool) (tokens : TokenSet) (state : State) (e : Entry) (t : ℕ) → have_set test tokens state ≡ true → Among e state → test e.item ≡ true
    → Has tokens t → Has e.set t
unfolding have_set
had test tokens state e t all m p h =
    (within_true tokens e.set).0 (implied_true (test e.item) _ (each_true (λ (e : Entry). not (test e.item) || within tokens e.set) m all) p) t h

module _ (l : Limits) (g : Grammar) (checked : Checked l g) (states : List State) (linked : LinkedItems g states) where
  abbrev least : List State
  least = least_sets g (first_sets g) states

  shaped : Shaped g states least
  shaped = least_sets_shaped g states linked.some

  abbrev S : ℕ
  S = start g

  abbrev n : ℕ
  n = terminal_count g

  -- what an entry with a token hands on is there, over its symbol and in its own state
  moves_has : (s : ℕ) (e : Entry) (x : Symbol) (t : ℕ) → s < length states → Among e (get_or least s []) → is_before g x e.item ≡ true → Has e.set t
      → have_set (eqb (e.item + 1)) e.set (get_or least e.next []) ≡ true
  unfolding entry_settled entry_moved moves is_empty_set have_at
  moves_has s e x t b m before h =
      let (p, _) = both_true (entry_moved g (first_sets g) least e) _ (least_entry_settled g states s e b m) in
      implied_true (moves g e) _ p (rw (ne_eqb e.set 0 (λ z. has_none t (rw z at h)), before_not_at_end g x e.item before))

  closes_has : (s : ℕ) (e : Entry) (B : ℕ) (β : List Symbol) (t : ℕ) → s < length states → Among e (get_or least s [])
      → symbols_behind g e.item ≡ nonterminal B ∷ β → Has e.set t
      → have_set (is_behind_dot g e.item) (closing g (first_sets g) e) (get_or least s []) ≡ true
  unfolding entry_settled entry_closed have_at
  closes_has s e B β t b m behind h =
      let (_, p) = both_true (entry_moved g (first_sets g) least e) (entry_closed g (first_sets g) least s e) (least_entry_settled g states s e b m) in
      implied_true (closes g e.item e.set) _ p (closes_behind g e.item e.set B behind (λ z. has_none t (rw z at h))).0

  -- ---- the start, a moved dot, and a closed nonterminal
  least_start : {p : ℕ} {η : List Symbol} → Rule g p S η → HasItem g (get_or least 0 []) p η n
  least_start r =
      let z : r.left_side ≡ 0 = start_is_first l g checked r in
      let (e, m, q) = alike_item (get_or states 0 []) (get_or least 0 []) 0 (shaped.shape 0) linked.starts.has in
      let i : r.left_side ≡ e.item = z ∙ sym q in
      record { entry = e; among = m; number = rw i at r.number; behind = rw i at r.right; token = shaped.started e m q }

  least_moved : (s : ℕ) {p t : ℕ} {β : List Symbol} (x : Symbol) (f : Entry) → Among f (get_or states s []) → is_before g x f.item ≡ true
      → HasItem g (get_or least s []) p (x ∷ β) t → HasItem g (get_or least f.next []) p β t
  least_moved s {t = t} x f m b h =
      let e : Entry = h.entry in
      let (before, rest) = symbol_behind g e.item h.behind in
      let (e', k, i, next) = alike_entry (get_or states s []) (get_or least s []) e (shaped.shape s) h.among in
      let before' : is_before g x e'.item ≡ true = rw i before in
      let within : s < length states = within_states states s m in
      let same : e.next ≡ f.next = sym next ∙ linked.one s x e' f k m before' b in
      let there : Among (e'.item + 1) (core (get_or states f.next [])) = (linked.links s x f m b).1.has e'.item (in_core k) before' in
      let (c, j, q) = alike_item (get_or states f.next []) (get_or least f.next []) (e'.item + 1) (shaped.shape f.next) there in
      let q' : c.item ≡ e.item + 1 = q ∙ ap (λ (i : ℕ). i + 1) i in
      let all : have_set (eqb (e.item + 1)) e.set (get_or least f.next []) ≡ true = rw same at (moves_has s e x t within h.among before h.token) in
      record {
        entry = c;
        among = j;
        number = rw q' (same_production l g checked e.item (before_not_at_end g x e.item before) ∙ h.number);
        behind = rw q' rest;
        token = had (eqb (e.item + 1)) e.set (get_or least f.next []) c t all j (eq-eqb _ _ (sym q')) h.token;
      }

  least_closed : (s : ℕ) {β η : List Symbol} {p q B t u : ℕ} → HasItem g (get_or least s []) p (nonterminal B ∷ β) t → Rule g q B η → First (Rule g) β t u
      → HasItem g (get_or least s []) q η u
  unfolding is_behind_dot is_left_side_of at_start is_left_side closing hands_on
  least_closed s {β} {B = B} {t = t} {u = u} h r f =
      let e : Entry = h.entry in
      let (_, named, rest) = closes_behind g e.item e.set B h.behind (λ z. has_none t (rw z at h.token)) in
      let (e', k, i, _) = alike_entry (get_or states s []) (get_or least s []) e (shaped.shape s) h.among in
      let within : s < length states = within_states states s k in
      let behind' : symbols_behind g e'.item ≡ nonterminal B ∷ β = rw i h.behind in
      let there = linked.closed s within r.left_side e'.item B β (in_core k) behind' (left_side_of_rule g r) r.left in
      let (c, j, q) = alike_item (get_or states s []) (get_or least s []) r.left_side (shaped.shape s) there in
      let handed : TokenSet = closing g (first_sets g) e in
      let all : have_set (is_behind_dot g e.item) handed (get_or least s []) ≡ true = closes_has s e B β t within h.among h.behind h.token in
      let first : Has handed u = ((first_behind_dot l g checked (e.item + 1)).ahead_some e.set t u h.token).1 (t, h.token, rw rest f) in
      let its : eqb (at g r.left_side).symbol (at g (e.item + 1)).symbol ≡ true = eq-eqb _ _ (r.left ∙ sym named) in
      let starts : is_behind_dot g e.item c.item ≡ true = rw (q, eq-eqb (at g r.left_side).position 0 r.position) its in
      record {
        entry = c;
        among = j;
        number = rw q r.number;
        behind = rw q r.right;
        token = had (is_behind_dot g e.item) handed (get_or least s []) c u all j starts first;
      }

  pub least_sets_cover : {γ α β : List Symbol} {s p A t : ℕ} → Reach g states γ s → At (Rule g) S n γ p A α β t → HasItem g (get_or least s []) p β t
  least_sets_cover at_bottom (begin r) = least_start r
  least_sets_cover (over {s = s} {x = x} {e = e} r m b) (move i) = least_moved s x e m b (least_sets_cover r i)
  least_sets_cover {s = s} r (close i rule f) = least_closed s (least_sets_cover r i) rule f
