-- The table of good states is well formed: refusal 15 finds no record of it.
use Prim.Native.Nat.{ℕ, zero, suc, ◌-◌, ◌<◌, ◌≤◌}
use mathlib.Core.Path.{◌≡◌, refl, sym, ◌∙◌}
use mathlib.Core.Bool.{Bool, true, false, ◌&&◌, ◌||◌, not, true≢false}
use mathlib.Core.List.{List, []}
use native.Mathlib.Omega.{arith}
use native.Mathlib.Decide.{dec_lt}
use lib.ListN.{length, get_or}
use lib.Dec.{eqb, leb, ltb}
use borrow.Author.Tests.{lt-leb, le-ltb}
use Rattle.base.specs.Among.{Among}
use Rattle.base.specs.Loops.{first_from}
use Rattle.base.proofs.Lists.{among_at}
use Rattle.base.proofs.Found.{at_first}
use Rattle.base.proofs.ListLoops.{first_bound}
use Rattle.rules.specs.Limits.{Limits}
use Rattle.rules.specs.Records.{Grammar, at}
use Rattle.rules.specs.Grammar.{nonterminal, terminal, production_count, terminal_count, nonterminal_count}
use Rattle.rules.specs.States.{State}
use Rattle.rules.specs.Table.{TableRecord, table_record, table_of}
use Rattle.rules.specs.Drive.{table_at, bad_symbol, bad_target, ascends, reduces_shifted, malformed, first_malformed}
use Rattle.sets.proofs.Laws.{has_true}
use Rattle.knuth.specs.Coded.{Checked}
use Rattle.knuth.proofs.Dots.{at_end_behind}
use Rattle.runs.specs.Good.{GoodStates}
use Rattle.runs.proofs.Counts.{production_counted}
use Rattle.runs.proofs.StateRecords.{Says, a_shift, a_goto, a_reduction, table_says}
use Rattle.runs.proofs.Lookup.{missed_none}
use Rattle.runs.proofs.Acts.{reduced_is_not_shifted}
use Rattle.runs.proofs.Sorted.{less_ascends, sorted_next, table_sorted}

-- a search that finds nothing comes to the end
pub first_of_none : (test : ℕ → Bool) (n : ℕ) → ((k : ℕ) → k < n → test k ≡ false) → first_from test n 0 ≡ n
first_of_none test n none = elim (dec_lt (first_from test n 0) n) [
  | yes l ↦ absurd (true≢false (sym (at_first test n 0 (omega arith)) ∙ none (first_from test n 0) l))
  | no l ↦ omega (arith, first_bound test n 0)
]

-- what refusal 15 asks of a record by itself
record Formed (l : Limits) (g : Grammar) (rs : List TableRecord) (r : TableRecord) : Type 0 where
  zero_byte_lem : not (eqb r.zero_byte 0) ≡ false
  kind : ltb 2 r.kind ≡ false
  state : leb l.states r.state ≡ false
  symbol : bad_symbol g r ≡ false
  target : bad_target l g r ≡ false
  unshifted : reduces_shifted rs r ≡ false

module _ (l : Limits) (g : Grammar) (checked : Checked l g) (a_record : 0 < length g) (states : List State) (good : GoodStates g states) (few : length states ≤ l.states) where
  abbrev rs : List TableRecord
  rs = table_of g states

  formed : (r : TableRecord) → Among r rs → Formed l g rs r
  unfolding bad_symbol bad_target reduces_shifted table_record
  formed r m = let (s, h, says) = table_says g states m in go s h says
    where
      of_state_lem : (s kind y v : ℕ) → s < length states → kind ≤ 2
          → bad_symbol g (table_record s kind y v) ≡ false → bad_target l g (table_record s kind y v) ≡ false → reduces_shifted rs (table_record s kind y v) ≡ false
          → Formed l g rs (table_record s kind y v)
      of_state_lem s kind y v h k symbol target unshifted =
          record { zero_byte_lem = refl; kind = le-ltb 2 kind k; state = lt-leb l.states s (omega arith); symbol = symbol; target = target; unshifted = unshifted }

      go : (s : ℕ) → s < length states → Says g s (get_or states s []) r → Formed l g rs r
      go s h (a_shift t e low k before q) =
          let to = lt-leb l.states e.next (omega (arith, good.next_below s (terminal t) e k before)) in
          rw q (of_state_lem s 0 t e.next h (omega arith) (lt-leb (terminal_count g) t low) to refl)
      go s h (a_goto a e low k before q) =
          let to = lt-leb l.states e.next (omega (arith, good.next_below s (nonterminal a) e k before)) in
          rw q (of_state_lem s 1 a e.next h (omega arith) (lt-leb (nonterminal_count g) a low) to refl)
      go s h (a_reduction t e low k end token q) =
          let p : ℕ = (at g e.item).production in
          let by = lt-leb (production_count g) p (production_counted l g checked a_record e.item) in
          let none = missed_none s 0 t rs (reduced_is_not_shifted g states good s t k (at_end_behind g e.item end) ((has_true e.set t).0 token)) in
          rw q (of_state_lem s 2 t p h (omega arith) (le-ltb (terminal_count g) t (omega arith)) by none)

  in_order : (i : ℕ) → i < length rs → (not (eqb i 0) && not (ascends (table_at rs (i - 1)) (table_at rs i))) ≡ false
  unfolding table_at
  in_order zero h = refl
  in_order (suc i) h =
      let e : suc i - 1 ≡ i = omega arith in
      let a = less_ascends (table_at rs i) (table_at rs (suc i)) (sorted_next rs i (table_record 0 0 0 0) (table_sorted g states good.no_conflict) h) in
      rw (e, a) (either (not (eqb (suc i) 0)))
    where
      either : (b : Bool) → (b && false) ≡ false
      either true = refl
      either false = refl

  none_malformed : (i : ℕ) → i < length rs → malformed l g rs i ≡ false
  unfolding malformed table_at
  none_malformed i h =
      let f = formed (table_at rs i) (among_at rs i (table_record 0 0 0 0) h) in
      let order-and-last = or _ _ (in_order i h) f.unshifted in
      or _ _ f.zero_byte_lem (or _ _ f.kind (or _ _ f.state (or _ _ f.symbol (or _ _ f.target order-and-last))))
    where
      or : (a b : Bool) → a ≡ false → b ≡ false → (a || b) ≡ false
      or a b e f = rw (e, f)

  pub well_formed : first_malformed l g rs ≡ length rs
  unfolding first_malformed
  well_formed = first_of_none (malformed l g rs) (length rs) none_malformed
