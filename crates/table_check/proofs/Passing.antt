-- What the two passes go by. A pass that has met no fault has ascending records behind it, so that a reduction's shift stands before it.
use Prim.Native.Nat.{ℕ, zero, suc, ◌+◌, ◌-◌, ◌<◌, ◌≤◌}
use mathlib.Core.Path.{◌≡◌, refl, sym, ap, ◌∙◌}
use native.Mathlib.Nat.{sub-zero}
use Rattle.std.specs.Prelude.{Some, None}
use Rattle.record.specs.declared.keys.Key.{Key}
use Rattle.record.specs.Keys.{key_at}
use mathlib.Core.Bool.{Bool, true, false, ◌&&◌, ◌||◌, true≢false}
use mathlib.Core.List.{List, [], ◌∷◌}
use native.Mathlib.Omega.{arith}
use native.Mathlib.Decide.{ℕ_discrete, dec_lt}
use lib.ListN.{length}
use lib.Dec.{eqb, ltb}
use borrow.Author.Tests.{eqb-true, eq-eqb, ne_eqb, not-false, ltb-true, ltb-false, lt-ltb, le-ltb}
use Rattle.base.specs.Pick.{pick}
use Rattle.base.specs.Lists.{some_of}
use Rattle.base.specs.Loops.{first_from, any_from, place_below}
use Rattle.base.proofs.Found.{before_first, at_first}
use Rattle.base.proofs.Tests.{both_true, or_false}
use Rattle.grammar.proofs.Sequence.{first_is}
use Rattle.rules.specs.Table.{TableRecord, is_for}
use Rattle.rules.specs.Drive.{table_at, ascends, reduces_shifted}
use Rattle.record.specs.Search.{Ascending, is_at, first_for}
use Rattle.record.proofs.Order.{earlier_before, for_kind, shift_not_behind}
use Rattle.table_check.specs.Faults.{bad_alone, out_of_order, misplaced, shifted_before, faulty_so_far, faulty, first_faulty}

-- ---- some record passes a test
module _ (test : TableRecord → Bool) where
  pub some_at : (rs : List TableRecord) (i : ℕ) → i < length rs → test (table_at rs i) ≡ true → some_of test rs ≡ true
  unfolding some_of table_at
  some_at [] i h e = absurd (omega arith)
  some_at (r ∷ rs) zero h e = rw e
  some_at (r ∷ rs) (suc i) h e = go (test r) (some_at rs i (omega arith) e)
    where
      go : (b : Bool) → some_of test rs ≡ true → pick b true (some_of test rs) ≡ true
      go true f = refl
      go false f = f

  pub none_at : (rs : List TableRecord) → ((i : ℕ) → i < length rs → test (table_at rs i) ≡ false) → some_of test rs ≡ false
  unfolding some_of table_at
  none_at [] none = refl
  none_at (r ∷ rs) none = rw (none 0 (omega arith)) (none_at rs (λ i h. none (suc i) (omega arith)))

-- ---- the search for a shift of a token
any_behind : (f g : ℕ → Bool) (n i : ℕ) → ((j : ℕ) → f (suc j) ≡ g j) → any_from f n (suc i) ≡ any_from g n i
unfolding any_from
any_behind f g zero i h = refl
any_behind f g (suc n) i h = rw (h i, any_behind f g n (suc i) h)

any_record : (test : TableRecord → Bool) (rs : List TableRecord) → any_from (λ j. test (table_at rs j)) (length rs) 0 ≡ some_of test rs
unfolding any_from some_of table_at
any_record test [] = refl
any_record test (r ∷ rs) = rw (any_behind (λ j. test (table_at (r ∷ rs) j)) (λ j. test (table_at rs j)) (length rs) 0 (λ j. refl), any_record test rs)

-- record i, a reduction, is for `own`; b says whether one of the n records shifts its token
pub any_shifts : (rs : List TableRecord) (i n : ℕ) (own : Key) (b : Bool) → own ≡ key_at rs i → own.kind ≡ 2 → n ≡ length rs
    → b ≡ any_from (λ j. is_for own.state 0 own.symbol (table_at rs j)) (n - 0) 0 → b ≡ reduces_shifted rs (table_at rs i)
unfolding reduces_shifted
any_shifts rs i n own b e reduction l found =
    let kind : (table_at rs i).kind ≡ 2 = ap (λ (k : Key). k.kind) (sym e) ∙ reduction in
    found ∙ rw (sub-zero, l, e, eq-eqb (table_at rs i).kind 2 kind) (any_record (is_for (table_at rs i).state 0 (table_at rs i).symbol) rs)

-- ---- a fault that the records up to i show is one
module _ (rs : List TableRecord) (i : ℕ) (h : i < length rs) where
  shifted_shown : shifted_before rs i ≡ true → reduces_shifted rs (table_at rs i) ≡ true
  unfolding shifted_before reduces_shifted first_for is_at
  shifted_shown e =
      let r = table_at rs i in
      let both = both_true (eqb r.kind 2) _ e in
      let at = first_from (is_at rs r.state 0 r.symbol) i 0 in
      let below : at < i = ltb-true _ _ both.1 in
      rw both.0 (some_at (is_for r.state 0 r.symbol) rs at (omega arith) (at_first (is_at rs r.state 0 r.symbol) i 0 (omega arith)))

pub fault_shown : (n m p : ℕ) (rs : List TableRecord) (i count : ℕ) (b : Bool) → count ≡ length rs → i < count
    → b ≡ faulty_so_far n m p rs i → b ≡ true → faulty n m p rs i ≡ true
unfolding faulty_so_far faulty
fault_shown n m p rs i count b l h e t = go (misplaced n m p rs i) refl (sym e ∙ t)
  where
    go : (d : Bool) → misplaced n m p rs i ≡ d → (d || shifted_before rs i) ≡ true → (d || reduces_shifted rs (table_at rs i)) ≡ true
    go true q f = refl
    go false q f = shifted_shown rs i (omega arith) f

-- ---- the first pass has met no fault before record i
pub record Passed (n m p : ℕ) (rs : List TableRecord) (i : ℕ) : Type 0 where
  pub clean : (j : ℕ) → j < i → faulty_so_far n m p rs j ≡ false
  pub ascending : Ascending rs i

pub pass_starts : (n m p : ℕ) (rs : List TableRecord) → Passed n m p rs 0
pass_starts n m p rs = record { clean = λ j h. absurd (omega arith); ascending = record { next = λ j a h. absurd (omega arith) } }

module _ (n m p : ℕ) (rs : List TableRecord) (i : ℕ) (so_far : Passed n m p rs i) where
  pub pass_turn : (b : Bool) → b ≡ faulty_so_far n m p rs i → b ≡ false → Passed n m p rs (i + 1)
  unfolding faulty_so_far misplaced out_of_order
  pass_turn b e f = record {
    clean = λ j h. elim (ℕ_discrete j i) [ yes q ↦ rw q (sym e ∙ f) | no other ↦ so_far.clean j (omega arith) ];
    ascending = record {
      next = λ j a h. elim (ℕ_discrete j i) [
        | yes q ↦ rw q (in_order (λ z. omega arith))
        | no other ↦ so_far.ascending.next j a (omega arith)
      ];
    };
  }
    where
      in_order : (i ≡ 0 → ⊥) → ascends (table_at rs (i - 1)) (table_at rs i) ≡ true
      in_order nonzero =
          let place = (or_false (misplaced n m p rs i) _ (sym e ∙ f)).0 in
          let order = (or_false (bad_alone n m p (table_at rs i)) _ place).1 in
          not-false _ (rw (ne_eqb i 0 nonzero) at order)

  module _ (whole : i ≡ length rs) (j : ℕ) (h : j < i) where
    -- a shift that a reduction's state has on its token stands before it
    shift_earlier : (table_at rs j).kind ≡ 2 → (k : ℕ) → k < length rs
        → is_for (table_at rs j).state 0 (table_at rs j).symbol (table_at rs k) ≡ true → k < j
    shift_earlier reduction k m e = elim (dec_lt k j) [
      | yes q ↦ q
      | no q ↦ elim (ℕ_discrete k j) [
        | yes same ↦
            let shift : (table_at rs j).kind ≡ 0 = rw same at (for_kind (table_at rs j).state 0 (table_at rs j).symbol (table_at rs k) e) in
            absurd (omega arith)
        | no other ↦
            let behind = earlier_before rs i so_far.ascending j k (omega arith) (omega arith) in
            absurd (shift_not_behind (table_at rs j) (table_at rs k) reduction e behind)
      ]
    ]

    -- so where none stands before it, there is none
    unshifted : shifted_before rs j ≡ false → reduces_shifted rs (table_at rs j) ≡ false
    unfolding shifted_before reduces_shifted first_for is_at
    unshifted e = go (eqb (table_at rs j).kind 2) refl e
      where
        first : ℕ
        first = first_from (is_at rs (table_at rs j).state 0 (table_at rs j).symbol) j 0

        go : (b : Bool) → eqb (table_at rs j).kind 2 ≡ b → (b && ltb (first_for rs j (table_at rs j).state 0 (table_at rs j).symbol) j) ≡ false
            → (b && some_of (is_for (table_at rs j).state 0 (table_at rs j).symbol) rs) ≡ false
        go false q f = refl
        go true q f = none_at _ rs (λ k m. by_test k m (is_for (table_at rs j).state 0 (table_at rs j).symbol (table_at rs k)) refl)
          where
            by_test : (k : ℕ) → k < length rs → (b : Bool) → is_for (table_at rs j).state 0 (table_at rs j).symbol (table_at rs k) ≡ b
                → is_for (table_at rs j).state 0 (table_at rs j).symbol (table_at rs k) ≡ false
            by_test k m false t = t
            by_test k m true t =
                let earlier = shift_earlier (eqb-true _ _ q) k m t in
                let none = ltb-false (first_for rs j (table_at rs j).state 0 (table_at rs j).symbol) j f in
                before_first (is_at rs (table_at rs j).state 0 (table_at rs j).symbol) j 0 k (omega arith) (omega arith)

    no_fault : faulty n m p rs j ≡ false
    unfolding faulty_so_far faulty
    no_fault =
        let both = or_false (misplaced n m p rs j) _ (so_far.clean j h) in
        rw (both.0, unshifted both.1)

-- a pass over all records that meets no fault
pub pass_ends : (n m p count i : ℕ) (rs : List TableRecord) → Passed n m p rs i → count ≡ length rs → i ≤ count → count ≤ i
    → None ≡ place_below (length rs) (first_faulty n m p rs)
unfolding first_faulty
pass_ends n m p count i rs so_far l a b =
    let none : first_from (faulty n m p rs) (length rs) 0 ≡ length rs =
    first_is (faulty n m p rs) (length rs) (length rs) (omega arith) (λ h. absurd (omega arith))
    (λ j h t. true≢false (sym t ∙ no_fault n m p rs i so_far (omega arith) j (omega arith))) in
    rw (none, le-ltb (length rs) (length rs) (omega arith))

-- a pass that meets one at record i
pub pass_stops : (n m p : ℕ) (rs : List TableRecord) (i count : ℕ) (b : Bool) (lowest : ℕ) → count ≡ length rs → i < count
    → b ≡ faulty_so_far n m p rs i → b ≡ true → lowest ≡ first_faulty n m p rs → Some lowest ≡ place_below (length rs) (first_faulty n m p rs)
unfolding first_faulty
pass_stops n m p rs i count b lowest l h e t f = rw (f, lt-ltb first (length rs) below)
  where
    first : ℕ
    first = first_from (faulty n m p rs) (length rs) 0

    below : first < length rs
    below = elim (dec_lt i first) [
      | yes q ↦ absurd (true≢false (sym (fault_shown n m p rs i count b l h e t) ∙ before_first (faulty n m p rs) (length rs) 0 i (omega arith) q))
      | no q ↦ omega arith
    ]
