-- The loops of the conflict count, turn by turn, and the tests in them.
use Prim.Native.Nat.{ℕ, zero, suc, ◌+◌, ◌-◌, ◌<◌, ◌≤◌}
use mathlib.Core.Path.{◌≡◌, refl, sym, ap, ap₂, ◌∙◌}
use mathlib.Core.Bool.{Bool, true, false, not, cond, ◌&&◌}
use mathlib.Core.List.{List, [], ◌∷◌, map}
use native.Mathlib.Omega.{arith}
use native.Mathlib.Nat.{sub-zero}
use native.Mathlib.Numerals.{add-one}
use lib.ListN.{length}
use borrow.Author.Tests.{not-true, not-false}
use Rattle.std.specs.List.{range_with_len, filter}
use Rattle.std.proofs.lemmas.List.FromFn.{length-range_with_len}
use Rattle.base.specs.Pick.{pick}
use Rattle.base.specs.Each.{each_from}
use Rattle.base.specs.Lists.{up_to, sum, keep}
use Rattle.base.proofs.EachLeft.{each_none, each_more, each_some_turn, each_some_found, each_some_end}
use Rattle.base.proofs.Ranges.{filter_up_to}
use Rattle.base.proofs.Lists.{keep_keep}
use Rattle.rules.specs.Limits.{max_entries}
use Rattle.rules.specs.Records.{Grammar, records}
use Rattle.rules.specs.Tokens.{TokenSet, has, disjoint}
use Rattle.rules.specs.Grammar.{terminal, at_end, is_before, terminal_count}
use Rattle.rules.specs.States.{Entry, State, reductions, shifts, meeting, conflicts_at, conflict_count}
use Rattle.grammar.specs.Asked.{Faultless}
use Rattle.room.specs.Areas.{Room}
use Rattle.room.specs.Bounds.{FewTerminals}
use Rattle.room.specs.Slots.{entry_slot}
use Rattle.lookahead.specs.Sets.{set_at, has_token}
use Rattle.grammar.proofs.Coded.{terminal_count_below}
use Rattle.states.specs.StatesIn.{entry_in, run_in, first_of, state_in, states_in}
use Rattle.states.proofs.States.{set_of_lem, state_run}
use Rattle.conflicts.specs.Counts.{is_shifted, is_held, held_shifts, meets_reduction, conflicts_of, conflicts_from, is_held_in, held_shifts_in, meets_in, meeting_in, conflicts_in}
use Rattle.conflicts.proofs.Counts.{counted_by_entry}

-- ---- a terminal is shifted
module _ (g : Grammar) (t : ℕ) (r : Room) (k end : ℕ) (v : Bool) where
  pub shifted_turn : (i : ℕ) (b : Bool) → k < end → is_shifted g (run_in r k end) t ≡ v → i ≡ (entry_in r k).item → b ≡ is_before g (terminal t) i → b ≡ false
      → is_shifted g (run_in r (k + 1) end) t ≡ v
  unfolding is_shifted
  shifted_turn i b h e is p z = each_some_turn (λ (x : Entry). is_before g (terminal t) x.item) (entry_in r) end k v b h e (p ∙ ap (is_before g (terminal t)) is) z

  pub shifted_found : (i : ℕ) (b : Bool) → k < end → is_shifted g (run_in r k end) t ≡ v → i ≡ (entry_in r k).item → b ≡ is_before g (terminal t) i → b ≡ true → true ≡ v
  unfolding is_shifted
  shifted_found i b h e is p z = each_some_found (λ (x : Entry). is_before g (terminal t) x.item) (entry_in r) end k v b h e (p ∙ ap (is_before g (terminal t)) is) z

  pub shifted_end : end ≤ k → is_shifted g (run_in r k end) t ≡ v → false ≡ v
  unfolding is_shifted
  shifted_end h e = each_some_end (λ (x : Entry). is_before g (terminal t) x.item) (entry_in r) end k v h e

-- ---- and in the set of the entry at place k
module _ (g : Grammar) (t : ℕ) (r : Room) (first end k slot : ℕ) (c : Bool) (at : slot ≡ entry_slot k) (contained : c ≡ has_token slot t r) where
  held_as : has (entry_in r k).set t ≡ c
  held_as = ap (λ (s : TokenSet). has s t) (set_of_lem r k) ∙ sym (contained ∙ ap (λ (s : ℕ). has_token s t r) at)

  pub held_out : c ≡ false → false ≡ is_held_in g r first end k t
  unfolding is_held
  held_out z = rw (held_as, z) (go (is_shifted g (run_in r first end) t))
    where
      go : (b : Bool) → false ≡ (b && false)
      go true = refl
      go false = refl

  pub held_shifted : (b : Bool) → c ≡ true → b ≡ is_shifted g (run_in r first end) t → b ≡ is_held_in g r first end k t
  unfolding is_held
  held_shifted b z shifted = rw (held_as, z, ← shifted) (go b)
    where
      go : (b : Bool) → b ≡ (b && true)
      go true = refl
      go false = refl

-- no more pass a test than there are
pub few_pass : {A : Type 0} (test : A → Bool) (xs : List A) → length (filter test xs) ≤ length xs
few_pass test [] = omega arith
few_pass test (x ∷ xs) = by_test (test x) (few_pass test xs)
  where
    by_test : (b : Bool) → length (filter test xs) ≤ length xs → length (cond b (x ∷ filter test xs) (filter test xs)) ≤ length (x ∷ xs)
    by_test true h = omega arith
    by_test false h = omega arith

pub held_counted : (g : Grammar) (r : Room) (n first end k c : ℕ) → n ≡ terminal_count g → c ≡ length (filter (is_held_in g r first end k) (range_with_len 0 n))
    → (c ≡ held_shifts_in g r first end k) × (c ≤ n)
unfolding is_held held_shifts shifts is_shifted
held_counted g r n first end k c e f =
    let state : State = run_in r first end in
    let s : TokenSet = (entry_in r k).set in
    let all_of : filter (is_held g state s) (range_with_len 0 n) ≡ keep (is_held g state s) (up_to (terminal_count g)) = filter_up_to (is_held g state s) n ∙ ap (λ (m : ℕ). keep (is_held g state s) (up_to m)) e in (
      f ∙ ap length (all_of ∙ sym (keep_keep (has s) (is_shifted g state) (up_to (terminal_count g)))),
      omega (arith, f, few_pass (is_held_in g r first end k) (range_with_len 0 n), length-range_with_len 0 n),
    )

-- ---- the entry at place j is a reduction, and its set meets that of k
ends_as : (g : Grammar) (r : Room) (j i : ℕ) (c : Bool) → i ≡ (entry_in r j).item → c ≡ at_end g i → at_end g (entry_in r j).item ≡ c
ends_as g r j i c is last = sym (last ∙ ap (at_end g) is)

module _ (g : Grammar) (r : Room) (k j i : ℕ) (c : Bool) (is : i ≡ (entry_in r j).item) (last : c ≡ at_end g i) where
  pub meets_not : c ≡ false → false ≡ meets_in g r k j
  unfolding meets_reduction
  meets_not z = rw (ends_as g r j i c is last, z)

  pub meets_as : (x y : ℕ) (b : Bool) → c ≡ true → x ≡ entry_slot k → y ≡ entry_slot j → b ≡ disjoint (set_at r x) (set_at r y) → not b ≡ meets_in g r k j
  unfolding meets_reduction
  meets_as x y b z at-k at_j apart = rw (ends_as g r j i c is last, z, set_of_lem r k, set_of_lem r j, ← at-k, ← at_j, ← apart)

-- what passes of the entries of a run, by their places
passed_in : (test : Entry → Bool) (f : ℕ → Entry) (i n : ℕ) → length (filter (λ j. test (f j)) (range_with_len i n)) ≡ length (keep test (each_from f i n))
unfolding keep each_from
passed_in test f i zero = refl
passed_in test f i (suc n) = by_test (test (f i)) (rw add-one (passed_in test f (suc i) n))
  where
    by_test : (b : Bool) → length (filter (λ j. test (f j)) (range_with_len (i + 1) n)) ≡ length (keep test (each_from f (suc i) n))
        → length (cond b (i ∷ filter (λ j. test (f j)) (range_with_len (i + 1) n)) (filter (λ j. test (f j)) (range_with_len (i + 1) n)))
        ≡ length (pick b (f i ∷ keep test (each_from f (suc i) n)) (keep test (each_from f (suc i) n)))
    by_test true e = ap suc e
    by_test false e = e

pub meeting_counted : (g : Grammar) (r : Room) (k end c : ℕ) → end ≤ max_entries → c ≡ length (filter (meets_in g r k) (range_with_len (k + 1) (end - (k + 1))))
    → (c ≡ meeting_in g r k end) × (c ≤ max_entries)
unfolding meeting reductions meets_reduction
meeting_counted g r k end c h f =
    let s : TokenSet = (entry_in r k).set in (
      f ∙ passed_in (meets_reduction g s) (entry_in r) (k + 1) (end - (k + 1)) ∙ ap length (sym (keep_keep (λ (e : Entry). not (disjoint s e.set)) (λ (e : Entry). at_end g e.item) (run_in r (k + 1) end))),
      omega (arith, f, few_pass (meets_in g r k) (range_with_len (k + 1) (end - (k + 1))), length-range_with_len (k + 1) (end - (k + 1))),
    )

-- ---- the conflicts of an entry
module _ (g : Grammar) (r : Room) (first end k i : ℕ) (c : Bool) (is : i ≡ (entry_in r k).item) (last : c ≡ at_end g i) where
  pub no_reduction : not c ≡ true → 0 ≡ conflicts_in g r first end k
  unfolding conflicts_of
  no_reduction z = rw (ends_as g r k i c is last, not-true c z)

  pub reduction : (a b : ℕ) → not c ≡ false → a ≡ held_shifts_in g r first end k → b ≡ meeting_in g r k end → a + b ≡ conflicts_in g r first end k
  unfolding conflicts_of
  reduction a b z p q = rw (ends_as g r k i c is last, not-false c z, p, q)

-- ---- of a state, at place k
pub conflicts_start : (g : Grammar) (state : State) → 0 + conflicts_from g state state ≡ conflicts_at g state
conflicts_start g state = let l = counted_by_entry g state in omega arith

module _ (g : Grammar) (r : Room) where
  pub conflicts_turn : (state : State) (k end a d t : ℕ) → k < end → a + conflicts_from g state (run_in r k end) ≡ t → d ≡ conflicts_of g state (entry_in r k) (run_in r (k + 1) end)
      → a + d + conflicts_from g state (run_in r (k + 1) end) ≡ t
  unfolding conflicts_from
  conflicts_turn state k end a d t h e p =
      let l : a + (conflicts_of g state (entry_in r k) (run_in r (k + 1) end) + conflicts_from g state (run_in r (k + 1) end)) ≡ t = rw (each_more (entry_in r) end k h) at e in
      omega arith

  pub conflicts_end : (s first k end a : ℕ) → first ≡ first_of r s → end ≡ first_of r (s + 1) → end ≤ k
      → a + conflicts_from g (run_in r first end) (run_in r k end) ≡ conflicts_at g (run_in r first end) → a ≡ conflicts_at g (state_in r s)
  unfolding conflicts_from
  conflicts_end s first k end a p q h e =
      let l : a + 0 ≡ conflicts_at g (run_in r first end) = rw (each_none (entry_in r) end k h) at e in
      let same : run_in r first end ≡ state_in r s = ap₂ (run_in r) p q ∙ sym (state_run r s) in
      let m = ap (conflicts_at g) same in
      omega arith

  -- ---- of all states
  pub all_start : (count : ℕ) → 0 + sum (map (conflicts_at g) (each_from (state_in r) 0 (count - 0))) ≡ conflict_count g (states_in r count)
  unfolding conflict_count states_in
  all_start count =
      let l : sum (map (conflicts_at g) (each_from (state_in r) 0 (count - 0))) ≡ conflict_count g (states_in r count) = rw sub-zero in
      omega arith

pub few_terminals : (bytes : List ℕ) (n : ℕ) → Faultless bytes → n ≡ terminal_count (records bytes) → FewTerminals n
few_terminals bytes n fine e = rw e (terminal_count_below (records bytes) fine)
