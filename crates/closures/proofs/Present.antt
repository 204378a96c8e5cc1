-- The left-side records whose nonterminal has a set, and the loop that appends their entries.
use Prim.Native.Nat.{ℕ, ◌+◌, ◌*◌, ◌≤◌, ◌<◌}
use mathlib.Core.Path.{◌≡◌, refl, sym, ap, ◌∙◌}
use mathlib.Core.Bool.{Bool, true, false, not, ◌&&◌}
use mathlib.Core.List.{List, [], ◌∷◌}
use native.Mathlib.Omega.{arith}
use lib.ListN.{length}
use lib.Dec.{eqb}
use borrow.Author.Tests.{not-true, not-false}
use Rattle.std.specs.Prelude.{Some, None}
use Rattle.base.specs.Pick.{pick}
use Rattle.base.specs.Lists.{keep}
use Rattle.base.proofs.ListLoops.{kept, kept_over, kept_hit, kept_miss}
use Rattle.base.proofs.Tests.{both_true}
use Rattle.rules.specs.Records.{Grammar, at, records}
use Rattle.rules.specs.Tokens.{is_empty_set}
use Rattle.rules.specs.Grammar.{at_start, left_sides, nonterminal_count}
use Rattle.rules.specs.First.{Sets, set_of}
use Rattle.rules.specs.States.{entry_of}
use Rattle.room.specs.Areas.{view}
use Rattle.lookahead.specs.Sets.{set_at}
use Rattle.grammar.proofs.Coded.{nonterminal_count_below}
use Rattle.grammar.proofs.Laws.{left_sides_lem}
use Rattle.first.proofs.Loads.{loads_before}
use Rattle.states.specs.StatesIn.{append_entry}
use Rattle.closures.specs.Closures.{closures_in, Closable}
use Rattle.closures.specs.Runs.{AppendedRun, present_entries}
use Rattle.closures.proofs.LeftSides.{own_set}
use Rattle.closures.proofs.Appends.{AppendLeft, append_begins, append_ends, append_full, append_turns}

-- ---- whether record i is one
module _ (bytes : List ℕ) (n i : ℕ) (w : List ℕ) (b : Bool) (starts : b ≡ at_start (records bytes) i) where
  pub present_never : not b ≡ true → false ≡ (at_start (records bytes) i && not (is_empty_set (set_of (closures_in (records bytes) (view w)) (at (records bytes) i).symbol)))
  present_never e = let no : at_start (records bytes) i ≡ false = sym starts ∙ not-true b e in rw no

  pub present_by : (a own : ℕ) (none : Bool) → Closable bytes n w → 8 * i + 8 ≤ length bytes → not b ≡ false → a ≡ (at (records bytes) i).symbol → own ≡ 64 + a → none ≡ eqb (set_at (view w) own) 0
      → not none ≡ (at_start (records bytes) i && not (is_empty_set (set_of (closures_in (records bytes) (view w)) (at (records bytes) i).symbol)))
  unfolding is_empty_set
  present_by a own none closable h e named mine says =
      let starts-here : at_start (records bytes) i ≡ true = sym starts ∙ not-false b e in
      let s = own_set bytes true n i w b starts a own closable h e named mine in
      rw (starts-here, ← s, ← says)

-- ---- the entries that are left at record i of count
module _ (g : Grammar) (sets : Sets) (count i : ℕ) where
  entries_none : present_entries g sets [] ≡ []
  unfolding present_entries keep
  entries_none = refl

  entries_more : (is : List ℕ) → present_entries g sets (i ∷ is) ≡ pick (not (is_empty_set (set_of sets (at g i).symbol))) (entry_of g sets i ∷ present_entries g sets is) (present_entries g sets is)
  unfolding present_entries keep entry_of
  entries_more is = refl

  pub present_over : count ≤ i → present_entries g sets (kept (at_start g) count i) ≡ []
  present_over h = ap (present_entries g sets) (kept_over (at_start g) count i h) ∙ entries_none

  module _ (h : i < count) (b : Bool) (is : b ≡ (at_start g i && not (is_empty_set (set_of sets (at g i).symbol)))) where
    pub present_hit : not b ≡ false → present_entries g sets (kept (at_start g) count i) ≡ entry_of g sets i ∷ present_entries g sets (kept (at_start g) count (i + 1))
    present_hit e =
        let both = both_true (at_start g i) _ (sym is ∙ not-false b e) in
        ap (present_entries g sets) (kept_hit (at_start g) count i h both.0) ∙ entries_more _ ∙ rw both.1

    pub present_miss : not b ≡ true → present_entries g sets (kept (at_start g) count i) ≡ present_entries g sets (kept (at_start g) count (i + 1))
    present_miss e = by_start (at_start g i) refl
      where
        by_start : (c : Bool) → at_start g i ≡ c → present_entries g sets (kept (at_start g) count i) ≡ present_entries g sets (kept (at_start g) count (i + 1))
        by_start true f =
            let no : not (is_empty_set (set_of sets (at g i).symbol)) ≡ false = sym (rw f at is) ∙ not-true b e in
            ap (present_entries g sets) (kept_hit (at_start g) count i h f) ∙ entries_more _ ∙ rw no
        by_start false f = ap (present_entries g sets) (kept_miss (at_start g) count i h f)

entry_of_item : (g : Grammar) (sets : Sets) (i : ℕ) → (entry_of g sets i).item ≡ i
unfolding entry_of
entry_of_item g sets i = refl

entry_of_set : (g : Grammar) (sets : Sets) (i : ℕ) → (entry_of g sets i).set ≡ set_of sets (at g i).symbol
unfolding entry_of
entry_of_set g sets i = refl

-- ---- the loop, at record i
pub record PresentLeft (bytes : List ℕ) (end count : ℕ) (w₀ w : List ℕ) (to i : ℕ) : Type 0 where
  pub within : i ≤ count
  pub same : length w ≡ length w₀
  pub sets : closures_in (records bytes) (view w) ≡ closures_in (records bytes) (view w₀)
  pub appended : AppendLeft end (present_entries (records bytes) (closures_in (records bytes) (view w₀)) (left_sides (records bytes))) (view w₀)
      to (present_entries (records bytes) (closures_in (records bytes) (view w₀)) (kept (at_start (records bytes)) count i)) (view w)

pub present_begins : (bytes : List ℕ) (end count : ℕ) (w : List ℕ) → count ≡ length (records bytes) → end ≤ 2048 → PresentLeft bytes end count w w end 0
present_begins bytes end count w e h = record {
  within = omega arith;
  same = refl;
  sets = refl;
  appended = rw (left_sides_lem (records bytes) count e) (append_begins end _ (view w) h);
}

pub record_item : (bytes : List ℕ) (n i : ℕ) (w : List ℕ) → Closable bytes n w → 8 * i + 8 ≤ length bytes → i < 512
record_item bytes n i w closable h = omega (arith, closable.short)

module _ (bytes : List ℕ) (end count : ℕ) (w₀ w : List ℕ) (to i : ℕ) (at_i : PresentLeft bytes end count w₀ w to i) where
  pub present_place : (to ≡ 2048 → ⊥) → to < 2048
  present_place ne = omega (arith, at_i.appended.fits)

  pub present_ends : count ≤ i → AppendedRun end (present_entries (records bytes) (closures_in (records bytes) (view w₀)) (left_sides (records bytes))) (view w₀) (view w) (Some to)
  present_ends h = append_ends end _ (view w₀) to _ (view w) at_i.appended (present_over (records bytes) (closures_in (records bytes) (view w₀)) count i h)

  module _ (b : Bool) (h : i < count) (is : b ≡ (at_start (records bytes) i && not (is_empty_set (set_of (closures_in (records bytes) (view w)) (at (records bytes) i).symbol)))) where
    here : b ≡ (at_start (records bytes) i && not (is_empty_set (set_of (closures_in (records bytes) (view w₀)) (at (records bytes) i).symbol)))
    here = rw at_i.sets at is

    pub present_passed : not b ≡ true → PresentLeft bytes end count w₀ w to (i + 1)
    present_passed e = record {
      within = omega arith;
      same = at_i.same;
      sets = at_i.sets;
      appended = rw (present_miss (records bytes) (closures_in (records bytes) (view w₀)) count i h b here e) at at_i.appended;
    }

    module _ (e : not b ≡ false) where
      hit : present_entries (records bytes) (closures_in (records bytes) (view w₀)) (kept (at_start (records bytes)) count i)
          ≡ entry_of (records bytes) (closures_in (records bytes) (view w₀)) i ∷ present_entries (records bytes) (closures_in (records bytes) (view w₀)) (kept (at_start (records bytes)) count (i + 1))
      hit = present_hit (records bytes) (closures_in (records bytes) (view w₀)) count i h b here e

      pub present_full : to ≡ 2048 → AppendedRun end (present_entries (records bytes) (closures_in (records bytes) (view w₀)) (left_sides (records bytes))) (view w₀) (view w) None
      present_full z = append_full end _ (view w₀) to _ (view w) at_i.appended _ _ hit z

      module _ (n a own : ℕ) (after : List ℕ) (closable : Closable bytes n w) (record-within : 8 * i + 8 ≤ length bytes) (ne : to ≡ 2048 → ⊥) (size : length after ≡ length w)
          (named : a ≡ (at (records bytes) i).symbol) (mine : own ≡ 64 + a) (put : view after ≡ append_entry to i own (view w)) where
        starts : at_start (records bytes) i ≡ true
        starts = (both_true (at_start (records bytes) i) _ (sym is ∙ not-false b e)).0

        set_here : set_at (view w) own ≡ (entry_of (records bytes) (closures_in (records bytes) (view w₀)) i).set
        set_here =
            own_set bytes true n i w true (sym starts) a own closable record-within refl named mine
            ∙ ap (λ (s : Sets). set_of s (at (records bytes) i).symbol) at_i.sets
            ∙ sym (entry_of_set (records bytes) (closures_in (records bytes) (view w₀)) i)

        pub present_turns : PresentLeft bytes end count w₀ after (to + 1) (i + 1)
        present_turns =
            let few = nonterminal_count_below (records bytes) closable.clean in
            record {
              within = omega arith;
              same = size ∙ at_i.same;
              sets = ap (closures_in (records bytes)) put ∙ loads_before (128 + to) _ (view w).sets 64 (nonterminal_count (records bytes)) (omega arith) ∙ at_i.sets;
              appended = append_turns end _ (view w₀) to _ (view w) at_i.appended _ _ hit (view after) i own ne (sym (entry_of_item (records bytes) _ i)) set_here put;
            }
