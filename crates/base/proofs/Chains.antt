-- What `find`, `any` and `all` over a range answer, by the turns of the loop that each stands for: `answer k` is what is answered from
-- k on. The closure gives a test's answer at each number and stays as it was.
use Prim.Native.Nat.{ℕ, zero, suc, ◌+◌, ◌-◌, ◌≤◌, ◌<◌}
use mathlib.Core.Path.{◌≡◌, refl, sym, ap, ◌∙◌}
use mathlib.Core.Bool.{Bool, true, false}
use native.Mathlib.Omega.{arith}
use lib.ListN.{length, get_or}
use borrow.Author.Rules.{rules}
use borrow.Author.Tests.{tests}
use denote.Ref.{Bor}
use denote.Param.Members.{Mut}
use Rattle.std.specs.declared.ops.Range.{Range}
use Rattle.std.proofs.Common.{Option, Some, None, List, not, subst, ◌⊎◌, inl, inr}
use Rattle.std.proofs.lemmas.Bool.{cases_lt}
use Rattle.std.proofs.lemmas.List.FromFn.{length-range_with_len, get_or-range_with_len}
use Rattle.std.specs.Option.{MatchOption}
use Rattle.std.specs.Fn.{Called, CalledAt}
use Rattle.std.specs.Iterator.{YieldsThen}
use Rattle.std.specs.List.{FoldsTo, AllWithin, HoldsAt, range_with_len}
use Rattle.std.specs.Bool.{MatchBool, ⊤}
use Rattle.std.proofs.iter.Yields.{nat_range_steps}
use Rattle.std.proofs.lemmas.Iterator.{first_from_Range, YieldsList-from_range, cases_from_any, cases_from_all}
use Rattle.base.specs.Loops.{place_below, first_from, any_from}
use Rattle.base.specs.Lists.{some_of, each_of}
use Rattle.base.specs.Each.{each_from}
use Rattle.base.proofs.EachLeft.{each_more, each_none, each_some_found, each_some_turn, each_some_end}
use Rattle.base.proofs.Turns.{first_found, first_turn, first_over, any_found, any_turn, any_end}

-- numbers that do not pass leave the answer to those behind them
skip : {A : Type 0} (test : ℕ → Bool) (answer : ℕ → A) (stop : Bool) (end : ℕ)
    → ((k : ℕ) → k < end → test k ≡ stop → answer k ≡ answer (k + 1))
    → (n k : ℕ) → k + n ≤ end → ((m : ℕ) → k ≤ m → m < k + n → test m ≡ stop) → answer k ≡ answer (k + n)
skip test answer stop end turn zero k h none = ap answer (omega arith)
skip test answer stop end turn (suc n) k h none =
    turn k (omega arith) (none k (omega arith) (omega arith))
    ∙ skip test answer stop end turn n (k + 1) (omega arith) (λ m a b. none m (omega arith) (omega arith))
    ∙ ap answer (omega arith)

-- `find`: the place that the loop answers, which is the range's end if there is none
pub found_by_turns : {F : Type 0} {g : Mut F (Bor ℕ × Unit {0}) Bool} (s u : Range ℕ) (f : F) (r : Option ℕ) (test : ℕ → Bool) (answer : ℕ → ℕ)
    → (xs : List ℕ) × (j : F) × YieldsThen nat_range_steps s xs r u × FoldsTo (λ p x q. CalledAt g p x false q) f xs j × MatchOption r ⊤ (λ x. (h : F) × CalledAt g j x true h)
    → s.start ≤ s.end
    → ((x : ℕ) (q : F) (b : Bool) → CalledAt g f x b q → (q ≡ f) × (b ≡ test x))
    → ((k : ℕ) → k < s.end → test k ≡ true → answer k ≡ k)
    → ((k : ℕ) → k < s.end → test k ≡ false → answer k ≡ answer (k + 1))
    → answer s.end ≡ s.end
    → r ≡ place_below s.end (answer s.start)
found_by_turns s u f r test answer ran up gives at turn over =
    by r (first_from_Range s u f r (λ x. test x ≡ true) (λ x. test x ≡ false) ran (λ x q c. sym (gives x q true c).1) (λ x q c. ((gives x q false c).0, sym (gives x q false c).1)))
  where
    by : (o : Option ℕ) → MatchOption o ((k : ℕ) → s.start ≤ k → k < s.end → test k ≡ false)
        (λ i. (s.start ≤ i) × (i < s.end) × (test i ≡ true) × ((k : ℕ) → s.start ≤ k → k < i → test k ≡ false)) → o ≡ place_below s.end (answer s.start)
    by None h =
        let e : answer s.start ≡ s.end = skip test answer false s.end turn (s.end - s.start) s.start (omega arith) (λ m a b. h m a (omega arith)) ∙ ap answer (omega arith) ∙ over in
        rw e (search (rules, tests))
    by (Some i) h =
        let e : answer s.start ≡ i = skip test answer false s.end turn (i - s.start) s.start (omega arith) (λ m a b. h.3 m a (omega arith)) ∙ ap answer (omega arith) ∙ at i h.1 h.2 in
        rw e (search (rules, tests))

-- the numbers of a range, by their places
placed : (P : ℕ → Type 0) (s : Range ℕ) (k d : ℕ) → s.start ≤ k → k < s.end → P (get_or (range_with_len s.start (s.end - s.start)) (k - s.start) d) → P k
placed P s k d a b h = subst P (omega (arith, get_or-range_with_len s.start (s.end - s.start) (k - s.start) d (omega arith))) h

-- an answer is the one that ends the loop, or the other
ends : (b stop : Bool) → (b ≡ stop) ⊎ (b ≡ not stop)
ends true true = inl refl
ends true false = inr refl
ends false true = inr refl
ends false false = inl refl

-- the turns of a loop that answers at the first test with the answer `stop`
module _ (s : Range ℕ) (test answer : ℕ → Bool) (stop : Bool)
    (at : (k : ℕ) → k < s.end → test k ≡ stop → answer k ≡ stop)
    (turn : (k : ℕ) → k < s.end → test k ≡ not stop → answer k ≡ answer (k + 1))
    (over : (k : ℕ) → s.end ≤ k → answer k ≡ not stop) where
  none : AllWithin (λ x. test x ≡ not stop) (range_with_len s.start (s.end - s.start)) 0 (length (range_with_len s.start (s.end - s.start))) → answer s.start ≡ not stop
  none h = by (cases_lt s.start s.end)
    where
      by : (s.start < s.end) ⊎ (s.end ≤ s.start) → answer s.start ≡ not stop
      by (inr a) = over s.start a
      by (inl a) =
          skip test answer (not stop) s.end turn (s.end - s.start) s.start (omega arith)
          (λ m b c. placed (λ x. test x ≡ not stop) s m 0 b (omega arith) (h (m - s.start) 0 (omega arith) (omega (arith, length-range_with_len s.start (s.end - s.start)))))
          ∙ over (s.start + (s.end - s.start)) (omega arith)

  reach : (n k : ℕ) → k + n < s.end → test (k + n) ≡ stop → answer k ≡ stop
  reach zero k h e = at k (omega arith) (ap test (omega arith) ∙ e)
  reach (suc n) k h e =
      let more : answer (k + 1) ≡ stop = reach n (k + 1) (omega arith) (ap test (omega arith) ∙ e) in
      elim (ends (test k) stop) [ inl a ↦ at k (omega arith) a | inr a ↦ turn k (omega arith) a ∙ more ]

  one : (i : ℕ) → i < length (range_with_len s.start (s.end - s.start)) → HoldsAt (λ x. test x ≡ stop) (range_with_len s.start (s.end - s.start)) i → answer s.start ≡ stop
  one i h e = reach i s.start (omega (arith, length-range_with_len s.start (s.end - s.start)))
      (placed (λ x. test x ≡ stop) s (s.start + i) 0 (omega arith) (omega (arith, length-range_with_len s.start (s.end - s.start)))
      (subst (λ j. test (get_or (range_with_len s.start (s.end - s.start)) j 0) ≡ stop) (omega arith) (e 0)))

-- `any`
pub any_by_turns : {F : Type 0} {g : Mut F (ℕ × Unit {0}) Bool} (s u : Range ℕ) (f : F) (r : Bool) (test answer : ℕ → Bool)
    → (xs : List ℕ) × (o : Option ℕ) × (j : F) × YieldsThen nat_range_steps s xs o u × FoldsTo (λ p x q. Called g p (x, tt) false q) f xs j × MatchOption o (r ≡ false) (λ x. (r ≡ true) × ((h : F) × Called g j (x, tt) true h))
    → ((x : ℕ) (q : F) (b : Bool) → Called g f (x, tt) b q → (q ≡ f) × (b ≡ test x))
    → ((k : ℕ) → k < s.end → test k ≡ true → answer k ≡ true)
    → ((k : ℕ) → k < s.end → test k ≡ false → answer k ≡ answer (k + 1))
    → ((k : ℕ) → s.end ≤ k → answer k ≡ false)
    → r ≡ answer s.start
any_by_turns s u f r test answer ran gives at turn over =
    by r (cases_from_any u f r (λ x. test x ≡ true) (λ x. test x ≡ false) ran (YieldsList-from_range s.start s.end _ refl refl) (λ x q c. sym (gives x q true c).1) (λ x q c. ((gives x q false c).0, sym (gives x q false c).1)))
  where
    by : (b : Bool) → MatchBool b ((k : ℕ) × (k < length (range_with_len s.start (s.end - s.start))) × HoldsAt (λ x. test x ≡ true) (range_with_len s.start (s.end - s.start)) k) (AllWithin (λ x. test x ≡ false) (range_with_len s.start (s.end - s.start)) 0 (length (range_with_len s.start (s.end - s.start)))) → b ≡ answer s.start
    by true h = sym (one s test answer true at turn over h.0 h.1 h.2)
    by false h = sym (none s test answer true at turn over h)

-- `all`
pub all_by_turns : {F : Type 0} {g : Mut F (ℕ × Unit {0}) Bool} (s u : Range ℕ) (f : F) (r : Bool) (test answer : ℕ → Bool)
    → (xs : List ℕ) × (o : Option ℕ) × (j : F) × YieldsThen nat_range_steps s xs o u × FoldsTo (λ p x q. Called g p (x, tt) true q) f xs j × MatchOption o (r ≡ true) (λ x. (r ≡ false) × ((h : F) × Called g j (x, tt) false h))
    → ((x : ℕ) (q : F) (b : Bool) → Called g f (x, tt) b q → (q ≡ f) × (b ≡ test x))
    → ((k : ℕ) → k < s.end → test k ≡ false → answer k ≡ false)
    → ((k : ℕ) → k < s.end → test k ≡ true → answer k ≡ answer (k + 1))
    → ((k : ℕ) → s.end ≤ k → answer k ≡ true)
    → r ≡ answer s.start
all_by_turns s u f r test answer ran gives at turn over =
    by r (cases_from_all u f r (λ x. test x ≡ true) (λ x. test x ≡ false) ran (YieldsList-from_range s.start s.end _ refl refl) (λ x q c. ((gives x q true c).0, sym (gives x q true c).1)) (λ x q c. sym (gives x q false c).1))
  where
    by : (b : Bool) → MatchBool b (AllWithin (λ x. test x ≡ true) (range_with_len s.start (s.end - s.start)) 0 (length (range_with_len s.start (s.end - s.start)))) ((k : ℕ) × (k < length (range_with_len s.start (s.end - s.start))) × HoldsAt (λ x. test x ≡ false) (range_with_len s.start (s.end - s.start)) k) → b ≡ answer s.start
    by true h = sym (none s test answer false at turn over h)
    by false h = sym (one s test answer false at turn over h.0 h.1 h.2)

-- ---- the same of lists by their places
-- some element passes a test
pub some_over : {A F : Type 0} {g : Mut F (ℕ × Unit {0}) Bool} (p : A → Bool) (at : ℕ → A) (s u : Range ℕ) (f : F) (r : Bool)
    → (xs : List ℕ) × (o : Option ℕ) × (j : F) × YieldsThen nat_range_steps s xs o u × FoldsTo (λ p x q. Called g p (x, tt) false q) f xs j × MatchOption o (r ≡ false) (λ x. (r ≡ true) × ((h : F) × Called g j (x, tt) true h))
    → ((x : ℕ) (q : F) (b : Bool) → Called g f (x, tt) b q → (q ≡ f) × (b ≡ p (at x)))
    → r ≡ some_of p (each_from at s.start (s.end - s.start))
some_over p at s u f r ran gives =
    any_by_turns s u f r (λ k. p (at k)) (λ k. some_of p (each_from at k (s.end - k))) ran gives
    (λ k h e. sym (each_some_found p at s.end k _ true h refl (sym e) refl))
    (λ k h e. sym (each_some_turn p at s.end k _ false h refl (sym e) refl))
    (λ k h. sym (each_some_end p at s.end k _ h refl))

-- each element passes a test
pub each_over : {A F : Type 0} {g : Mut F (ℕ × Unit {0}) Bool} (p : A → Bool) (at : ℕ → A) (s u : Range ℕ) (f : F) (r : Bool)
    → (xs : List ℕ) × (o : Option ℕ) × (j : F) × YieldsThen nat_range_steps s xs o u × FoldsTo (λ p x q. Called g p (x, tt) true q) f xs j × MatchOption o (r ≡ true) (λ x. (r ≡ false) × ((h : F) × Called g j (x, tt) false h))
    → ((x : ℕ) (q : F) (b : Bool) → Called g f (x, tt) b q → (q ≡ f) × (b ≡ p (at x)))
    → r ≡ each_of p (each_from at s.start (s.end - s.start))
unfolding each_of
each_over p at s u f r ran gives =
    all_by_turns s u f r (λ k. p (at k)) (λ k. each_of p (each_from at k (s.end - k))) ran gives
    (λ k h e. rw (each_more at s.end k h, e))
    (λ k h e. rw (each_more at s.end k h, e))
    (λ k h. rw (each_none at s.end k h))

-- the first number below n that passes, and whether one does
pub first_over_range : {F : Type 0} {g : Mut F (Bor ℕ × Unit {0}) Bool} (test : ℕ → Bool) (s u : Range ℕ) (f : F) (r : Option ℕ)
    → (xs : List ℕ) × (j : F) × YieldsThen nat_range_steps s xs r u × FoldsTo (λ p x q. CalledAt g p x false q) f xs j × MatchOption r ⊤ (λ x. (h : F) × CalledAt g j x true h)
    → s.start ≤ s.end
    → ((x : ℕ) (q : F) (b : Bool) → CalledAt g f x b q → (q ≡ f) × (b ≡ test x))
    → r ≡ place_below s.end (first_from test (s.end - s.start) s.start)
first_over_range test s u f r ran up gives =
    found_by_turns s u f r test (λ k. first_from test (s.end - k) k) ran up gives
    (λ k h e. first_found test s.end k _ h refl e)
    (λ k h e. sym (first_turn test s.end k _ false h refl (sym e) refl))
    (sym (first_over test s.end s.end _ (omega arith) (omega arith) refl))

pub any_over_range : {F : Type 0} {g : Mut F (ℕ × Unit {0}) Bool} (test : ℕ → Bool) (s u : Range ℕ) (f : F) (r : Bool)
    → (xs : List ℕ) × (o : Option ℕ) × (j : F) × YieldsThen nat_range_steps s xs o u × FoldsTo (λ p x q. Called g p (x, tt) false q) f xs j × MatchOption o (r ≡ false) (λ x. (r ≡ true) × ((h : F) × Called g j (x, tt) true h))
    → ((x : ℕ) (q : F) (b : Bool) → Called g f (x, tt) b q → (q ≡ f) × (b ≡ test x))
    → r ≡ any_from test (s.end - s.start) s.start
any_over_range test s u f r ran gives =
    any_by_turns s u f r test (λ k. any_from test (s.end - k) k) ran gives
    (λ k h e. any_found test s.end k _ true h refl (sym e) refl)
    (λ k h e. sym (any_turn test s.end k _ false h refl (sym e) refl))
    (λ k h. any_end test s.end k _ h refl)
