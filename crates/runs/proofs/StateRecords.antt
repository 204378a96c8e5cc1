-- What the records of states say: a shift or a goto for each symbol that an entry stands before, a reduction for each token of a completed
-- entry, and nothing else.
use Prim.Native.Nat.{ℕ, zero, suc, ◌+◌, ◌<◌}
use mathlib.Core.Path.{◌≡◌}
use mathlib.Core.Logic.{⊎_elim}
use mathlib.Core.Bool.{true}
use mathlib.Core.List.{List, [], ◌∷◌, map}
use native.Mathlib.Omega.{arith}
use lib.ListN.{length, get_or}
use Rattle.base.specs.Among.{Among, here, later}
use Rattle.base.specs.Lists.{keep, concat, up_to}
use Rattle.base.proofs.Lists.{among_none, among_cons, among_map, keep_among, among_keep, up_to_among_lem}
use Rattle.base.proofs.Members.{among_append, append_left, append_right, map_among}
use Rattle.rules.specs.Records.{Grammar, at}
use Rattle.rules.specs.Tokens.{has}
use Rattle.rules.specs.Grammar.{Symbol, nonterminal, terminal, at_end, is_before, terminal_count, nonterminal_count}
use Rattle.rules.specs.States.{Entry, State, reductions}
use Rattle.rules.specs.Table.{TableRecord, table_record, transition_over, shift_records, goto_records, reduce_records, state_records, records_from, table_of}

-- ---- among many lists
pub concat_among : {A B : Type 0} (f : A → List B) {y : B} (xs : List A) → Among y (concat (map f xs)) → (x : A) × Among x xs × Among y (f x)
unfolding concat
concat_among f [] m = absurd (among_none m)
concat_among f (x ∷ xs) m = ⊎_elim (λ k. (x, here, k)) (λ k. let (z, i, j) = concat_among f xs k in (z, later i, j)) (among_append (f x) m)

among_concat : {A B : Type 0} (f : A → List B) {x : A} {y : B} (xs : List A) → Among x xs → Among y (f x) → Among y (concat (map f xs))
unfolding concat
among_concat f [] h k = elim h [ ]
among_concat f (x ∷ xs) here k = append_left _ k
among_concat f (z ∷ xs) (later m) k = append_right (f z) (among_concat f xs m k)

-- ---- what a record says of its state
pub data Says (g : Grammar) (s : ℕ) (state : State) (r : TableRecord) : Type 0 where
  a_shift : (t : ℕ) (e : Entry) → t < terminal_count g → Among e state → is_before g (terminal t) e.item ≡ true → r ≡ table_record s 0 t e.next → Says g s state r
  a_goto : (a : ℕ) (e : Entry) → a < nonterminal_count g → Among e state → is_before g (nonterminal a) e.item ≡ true → r ≡ table_record s 1 a e.next → Says g s state r
  a_reduction : (t : ℕ) (e : Entry) → t < terminal_count g + 1 → Among e state → at_end g e.item ≡ true → has e.set t ≡ true
      → r ≡ table_record s 2 t (at g e.item).production → Says g s state r

transition_among : (s kind y : ℕ) {r : TableRecord} (es : List Entry) → Among r (transition_over s kind y es) → (e : Entry) × Among e es × (r ≡ table_record s kind y e.next)
unfolding transition_over
transition_among s kind y [] m = absurd (among_none m)
transition_among s kind y (e ∷ es) m = ⊎_elim (λ q. (e, here, q)) (λ k. absurd (among_none k)) (among_cons m)

among_transition : (s kind y : ℕ) {e : Entry} (es : List Entry) → Among e es → (f : Entry) × Among (table_record s kind y f.next) (transition_over s kind y es)
unfolding transition_over
among_transition s kind y [] m = elim m [ ]
among_transition s kind y (e ∷ es) m = (e, here)

module _ (g : Grammar) (s : ℕ) (state : State) where
  -- the record over one symbol, where some entry stands before it; x is `terminal` or `nonterminal`
  abbrev pub transition : ℕ → (ℕ → Symbol) → ℕ → List TableRecord
  transition kind x y = transition_over s kind y (keep (λ (e : Entry). is_before g (x y) e.item) state)

  -- the completed entries with a token, and their records
  abbrev pub completed_with : ℕ → List Entry
  completed_with t = keep (λ (e : Entry). has e.set t) (reductions g state)

  abbrev pub reduction : ℕ → Entry → TableRecord
  reduction t e = table_record s 2 t (at g e.item).production

  pub transition_says : (kind : ℕ) (x : ℕ → Symbol) (y : ℕ) {r : TableRecord} → Among r (transition kind x y)
      → (e : Entry) × Among e state × (is_before g (x y) e.item ≡ true) × (r ≡ table_record s kind y e.next)
  transition_says kind x y m =
      let (e, n, q) = transition_among s kind y _ m in
      let (o, before) = keep_among (λ (e : Entry). is_before g (x y) e.item) state n in
      (e, o, before, q)

  record_says : {r : TableRecord} → Among r (state_records g s state) → Says g s state r
  unfolding state_records shift_records goto_records reduce_records reductions
  record_says {r} m = ⊎_elim by_shift (λ k. ⊎_elim by_goto by_reduction (among_append (goto_records g s state) k)) (among_append (shift_records g s state) m)
    where
      by_shift : Among r (shift_records g s state) → Says g s state r
      by_shift k =
          let (t, i, j) = concat_among (transition 0 terminal) (up_to (terminal_count g)) k in
          let (e, o, before, q) = transition_says 0 terminal t j in
          a_shift t e ((up_to_among_lem t (terminal_count g)).0 i) o before q

      by_goto : Among r (goto_records g s state) → Says g s state r
      by_goto k =
          let (a, i, j) = concat_among (transition 1 nonterminal) (up_to (nonterminal_count g)) k in
          let (e, o, before, q) = transition_says 1 nonterminal a j in
          a_goto a e ((up_to_among_lem a (nonterminal_count g)).0 i) o before q

      by_reduction : Among r (reduce_records g s state) → Says g s state r
      by_reduction k =
          let (t, i, j) = concat_among (λ (t : ℕ). map (reduction t) (completed_with t)) (up_to (terminal_count g + 1)) k in
          let (e, n, q) = map_among (reduction t) (completed_with t) j in
          let (o, token) = keep_among (λ (e : Entry). has e.set t) (reductions g state) n in
          let (p, end) = keep_among (λ (e : Entry). at_end g e.item) state o in
          a_reduction t e ((up_to_among_lem t (terminal_count g + 1)).0 i) p end token q

  -- ---- and an entry has its records
  transition_has_record : (kind : ℕ) (x : ℕ → Symbol) (n y : ℕ) {e : Entry} → y < n → Among e state → is_before g (x y) e.item ≡ true
      → (f : Entry) × Among (table_record s kind y f.next) (concat (map (transition kind x) (up_to n)))
  transition_has_record kind x n y h m before =
      let (f, k) = among_transition s kind y _ (among_keep (λ (e : Entry). is_before g (x y) e.item) m before) in
      (f, among_concat (transition kind x) (up_to n) ((up_to_among_lem y n).1 h) k)

  pub shift_has_record : (t : ℕ) {e : Entry} → t < terminal_count g → Among e state → is_before g (terminal t) e.item ≡ true
      → (f : Entry) × Among (table_record s 0 t f.next) (state_records g s state)
  unfolding state_records shift_records
  shift_has_record t h m before = let (f, k) = transition_has_record 0 terminal (terminal_count g) t h m before in (f, append_left _ k)

  pub goto_has_record : (a : ℕ) {e : Entry} → a < nonterminal_count g → Among e state → is_before g (nonterminal a) e.item ≡ true
      → (f : Entry) × Among (table_record s 1 a f.next) (state_records g s state)
  unfolding state_records goto_records
  goto_has_record a h m before =
      let (f, k) = transition_has_record 1 nonterminal (nonterminal_count g) a h m before in
      (f, append_right (shift_records g s state) (append_left _ k))

  pub reduction_has_record : (t : ℕ) {e : Entry} → t < terminal_count g + 1 → Among e state → at_end g e.item ≡ true → has e.set t ≡ true
      → Among (reduction t e) (state_records g s state)
  unfolding state_records reduce_records reductions
  reduction_has_record t h m end token =
      let k = among_keep (λ (e : Entry). has e.set t) (among_keep (λ (e : Entry). at_end g e.item) m end) token in
      append_right (shift_records g s state) (append_right (goto_records g s state)
      (among_concat (λ (t : ℕ). map (reduction t) (completed_with t)) (up_to (terminal_count g + 1)) ((up_to_among_lem t (terminal_count g + 1)).1 h) (among_map (reduction t) k)))

-- ---- the records of all states
from_among : (g : Grammar) (k : ℕ) {r : TableRecord} (states : List State) → Among r (records_from g k states)
    → (i : ℕ) × (i < length states) × Among r (state_records g (k + i) (get_or states i []))
unfolding records_from
from_among g k [] m = absurd (among_none m)
from_among g k (state ∷ states) m =
    ⊎_elim (λ j. let e : k + 0 ≡ k = omega arith in (0, omega arith, rw e j))
    (λ j.
    let (i, h, n) = from_among g (suc k) states j in
    let e : k + suc i ≡ suc k + i = omega arith in
    (suc i, omega arith, rw e n))
    (among_append (state_records g k state) m)

among_from : (g : Grammar) (k i : ℕ) {r : TableRecord} (states : List State) → i < length states → Among r (state_records g (k + i) (get_or states i []))
    → Among r (records_from g k states)
unfolding records_from
among_from g k i [] h m = absurd (omega arith)
among_from g k zero (state ∷ states) h m = let e : k + 0 ≡ k = omega arith in append_left _ (rw e at m)
among_from g k (suc i) (state ∷ states) h m =
    let e : k + suc i ≡ suc k + i = omega arith in
    append_right (state_records g k state) (among_from g (suc k) i states (omega arith) (rw e at m))

module _ (g : Grammar) (states : List State) where
  pub table_says : {r : TableRecord} → Among r (table_of g states) → (s : ℕ) × (s < length states) × Says g s (get_or states s []) r
  unfolding table_of
  table_says m =
      let (s, h, k) = from_among g 0 states m in
      let e : 0 + s ≡ s = omega arith in
      (s, h, record_says g s (get_or states s []) (rw e at k))

  pub in_table : (s : ℕ) {r : TableRecord} → s < length states → Among r (state_records g s (get_or states s [])) → Among r (table_of g states)
  unfolding table_of
  in_table s h m = let e : 0 + s ≡ s = omega arith in among_from g 0 s states h (rw e m)
