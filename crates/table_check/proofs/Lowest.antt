-- What the second pass goes by, up to record k, which has a fault; and that the faults of this crate are those of `rules`.
use Prim.Native.Nat.{ℕ, zero, suc, ◌-◌}
use mathlib.Core.Path.{◌≡◌, refl, sym, ap, ◌∙◌}
use native.Mathlib.Nat.{sub-zero}
use native.Mathlib.Decide.{dec_lt}
use Rattle.std.specs.Prelude.{Option, unwrap_or}
use Rattle.record.proofs.Below.{unwrap_below}
use mathlib.Core.Bool.{Bool, true, false, not, ◌||◌, ◌&&◌, true≢false}
use mathlib.Core.List.{List}
use native.Mathlib.Omega.{arith}
use lib.ListN.{length}
use lib.Dec.{eqb, leb, ltb}
use Rattle.base.specs.Loops.{first_from, place_below}
use Rattle.base.proofs.ListLoops.{first_bound}
use Rattle.base.proofs.Found.{before_first, at_first, first_is}
use Rattle.rules.specs.Limits.{limits, max_states}
use Rattle.rules.specs.Records.{Grammar}
use Rattle.rules.specs.Grammar.{terminal_count, nonterminal_count, production_count}
use Rattle.rules.specs.Table.{TableRecord, table_records}
use Rattle.rules.specs.Drive.{table_at, ascends, bad_symbol, bad_target, reduces_shifted, malformed, first_malformed}
use Rattle.grammar.specs.Asked.{InRange}
use Rattle.record.proofs.Bytes.{length_records}
use Rattle.table_check.specs.Faults.{bad_symbol_by, bad_target_by, bad_alone, out_of_order, misplaced, faulty, first_faulty}

-- record k has a fault, and the first of those before it that has one is looked for
module _ (n m p : ℕ) (bytes : List ℕ) (k : ℕ) (h : InRange k bytes) where
  abbrev test : ℕ → Bool
  test = faulty n m p (table_records bytes)

  abbrev first : ℕ
  first = first_from test k 0

  reached : test k ≡ true → test first ≡ true
  reached bad = elim (dec_lt first k) [
    | yes l ↦ at_first test k 0 (omega arith)
    | no l ↦ ap test (omega (arith, first_bound test k 0)) ∙ bad
  ]

  same_first : test k ≡ true → first_from test (length (table_records bytes)) 0 ≡ first
  same_first bad =
      first_is test (length (table_records bytes)) first (omega (arith, first_bound test k 0, length_records bytes)) (λ l. reached bad)
      (λ j l t. true≢false (sym t ∙ before_first test k 0 j (omega arith) (omega arith)))

  pub lowest_found : (r : Option ℕ) → faulty n m p (table_records bytes) k ≡ true
      → r ≡ place_below k (first_from (faulty n m p (table_records bytes)) (k - 0) 0) → unwrap_or r k ≡ first_faulty n m p (table_records bytes)
  unfolding first_faulty
  lowest_found r bad e =
      ap (λ q. unwrap_or q k) e ∙ rw sub-zero (unwrap_below k (first_from test k 0) (omega (arith, first_bound test k 0))) ∙ sym (same_first bad)

-- ---- the faults are those of `rules`
regroup : (a b c d e f h : Bool) → ((a || (b || (c || (d || e)))) || f) || h ≡ (a || (b || (c || (d || (e || (f || h))))))
regroup true b c d e f h = refl
regroup false true c d e f h = refl
regroup false false true d e f h = refl
regroup false false false true e f h = refl
regroup false false false false true f h = refl
regroup false false false false false f h = refl

module _ (g : Grammar) (rs : List TableRecord) where
  pub same_fault : (i : ℕ) → faulty (terminal_count g) (nonterminal_count g) (production_count g) rs i ≡ malformed limits g rs i
  unfolding faulty misplaced bad_alone bad_symbol_by bad_target_by out_of_order malformed bad_symbol bad_target limits
  same_fault i =
      let r = table_at rs i in
      regroup (not (eqb r.zero_byte 0)) (ltb 2 r.kind) (leb max_states r.state) (bad_symbol g r) (bad_target limits g r)
      (not (eqb i 0) && not (ascends (table_at rs (i - 1)) r)) (reduces_shifted rs r)

  first_same : (n i : ℕ) → first_from (faulty (terminal_count g) (nonterminal_count g) (production_count g) rs) n i ≡ first_from (malformed limits g rs) n i
  unfolding first_from
  first_same zero i = refl
  first_same (suc n) i = rw (same_fault i, first_same n (suc i))

  pub malformed_first : (n m p : ℕ) (r : Option ℕ) → n ≡ terminal_count g → m ≡ nonterminal_count g → p ≡ production_count g
      → r ≡ place_below (length rs) (first_faulty n m p rs) → r ≡ place_below (length rs) (first_malformed limits g rs)
  unfolding first_faulty first_malformed
  malformed_first n m p r e f h a = a ∙ rw (e, f, h) (ap (place_below (length rs)) (first_same (length rs) 0))
