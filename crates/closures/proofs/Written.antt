-- What a room with appended entries has: the run of them, and everything else as it was.
use Prim.Native.Nat.{ℕ, suc, ◌+◌, ◌-◌, ◌≤◌, ◌<◌}
use mathlib.Core.Path.{◌≡◌, refl, sym, ap, ◌∙◌}
use mathlib.Core.Bool.{Bool, true, false}
use mathlib.Core.List.{List, [], ◌∷◌, ◌++◌, append-nil, append_assoc}
use native.Mathlib.Omega.{arith}
use lib.ListN.{length, take, length-set, length-take, length-append}
use lib.Seq.{take_all}
use lib.Dec.{ltb}
use borrow.Author.Tests.{ltb-false}
use Rattle.std.specs.Prelude.{Option, Some, None}
use Rattle.base.specs.Among.{Among, here, later}
use Rattle.base.proofs.Lists.{keep_among, up_to_among_lem}
use Rattle.base.proofs.Members.{map_among}
use Rattle.base.proofs.EachLeft.{each_length}
use Rattle.rules.specs.Records.{Grammar, records}
use Rattle.rules.specs.Grammar.{left_sides, at_start}
use Rattle.rules.specs.First.{Sets}
use Rattle.rules.specs.States.{Entry, State, Follow, entry_of, closure, closure_sets}
use Rattle.rules.proofs.Laws.{length_records}
use Rattle.room.specs.Areas.{Room, view, with_entries, with_sets}
use Rattle.room.proofs.Lengths.{Lengths, view_lengths}
use Rattle.lookahead.specs.Sets.{set_at}
use Rattle.lookahead.proofs.Slots.{load_other, length_stored_set}
use Rattle.grammar.proofs.Coded.{nonterminal_count_below}
use Rattle.states.specs.StatesIn.{entry_in, run_in, PlacedRun, write_entry}
use Rattle.states.proofs.Grow.{appended_elsewhere, appended_run, appended_placed_run}
use Rattle.closures.specs.Closures.{closures_in, follow_in, Closable, ClosureFound}
use Rattle.closures.specs.Runs.{append_all, append_run, run_end, AppendedRun, present_entries, OnlyBehind, Closes}
use Rattle.closures.proofs.Frames.{entry_kept, run_kept, placed_run_kept}

-- ---- frames
pub behind_none : (v : Room) (from : ℕ) → OnlyBehind v v from
behind_none v from = record { others = refl; entries = λ k h. refl; firsts = λ slot h. refl; cells = λ slot h ne. refl }

pub behind_both : (u v w : Room) (from further : ℕ) → from ≤ further → OnlyBehind u v from → OnlyBehind v w further → OnlyBehind u w from
behind_both u v w from further l p q = record {
  others = q.others ∙ p.others;
  entries = λ k h. q.entries k (omega arith) ∙ p.entries k h;
  firsts = λ slot h. q.firsts slot h ∙ p.firsts slot h;
  cells = λ slot h ne. q.cells slot h ne ∙ p.cells slot h ne;
}

-- ---- one entry
module _ (k item s : ℕ) (v q : Room) (put : q ≡ write_entry k item s v) where
  written_slot : (slot : ℕ) → (slot ≡ 128 + k → ⊥) → set_at q slot ≡ set_at v slot
  written_slot slot ne = ap (λ (r : Room). set_at r slot) put ∙ load_other v.sets (128 + k) s slot ne

  written_behind : k < 2048 → OnlyBehind v q k
  written_behind h = record {
    others = ap (λ (r : Room). with_entries [] (with_sets [] r)) put;
    entries = λ j l. appended_elsewhere k item s v q put j (λ e. omega arith);
    firsts = λ slot l. written_slot slot (λ e. omega arith);
    cells = λ slot l ne. written_slot slot (λ e. omega arith);
  }

  written_lengths : Lengths v → Lengths q
  written_lengths sized = rw put (record {
    entries_length = simp length-set sized.entries_length;
    first_entries_length_lem = sized.first_entries_length_lem;
    visited_length = sized.visited_length;
    entered_length = sized.entered_length;
    successors_length = sized.successors_length;
    origins_length = sized.origins_length;
    heads_length = sized.heads_length;
    walked_length = sized.walked_length;
    actions_length = sized.actions_length;
    sets_length = length_stored_set v.sets (128 + k) s ∙ sized.sets_length;
  })

-- ---- all of them
all_behind : (k : ℕ) (es : State) (r : Room) → k + length es ≤ 2048 → OnlyBehind r (append_all k es r) k
unfolding append_all
all_behind k [] r h = behind_none r k
all_behind k (e ∷ es) r h =
    behind_both r (write_entry k e.item e.set r) _ k (k + 1) (omega arith) (written_behind k e.item e.set r _ refl (omega arith)) (all_behind (k + 1) es _ (omega arith))

-- entries that lead nowhere yet, with items of the grammar
abbrev pub Fresh : ℕ → State → Type 0
Fresh record_count es = (e : Entry) → Among e es → (e.next ≡ 0) × (e.item < record_count)

module _ (record_count first : ℕ) (few : record_count ≤ 512) where
  all_run : (k : ℕ) (es : State) (r : Room) → Lengths r → Fresh record_count es → first ≤ k → k + length es ≤ 2048 → run_in (append_all k es r) first (k + length es) ≡ run_in r first k ++ es
  unfolding append_all
  all_run k [] r sized fresh l h = let z : k + 0 ≡ k = omega arith in rw (z, append-nil)
  all_run k (e ∷ es) r sized fresh l h =
      let q : Room = write_entry k e.item e.set r in
      let (z, i) = fresh e here in
      let one : run_in q first (k + 1) ≡ run_in r first k ++ (record { item = e.item; next = 0; set = e.set } ∷ []) = appended_run k e.item e.set r q refl first sized (omega arith) (omega arith) l in
      let same : record { item = e.item; next = 0; set = e.set } ≡ e = ap (λ (x : ℕ). record { item = e.item; next = x; set = e.set }) (sym z) in
      let size : k + suc (length es) ≡ k + 1 + length es = omega arith in
      rw size (all_run (k + 1) es q (written_lengths k e.item e.set r q refl sized) (λ x m. fresh x (later m)) (omega arith) (omega arith) ∙ ap (λ (run : State). run ++ es) one ∙ append_assoc (run_in r first k) _ es ∙ ap (λ (x : Entry). run_in r first k ++ (x ∷ es)) same)

  all_placed : (k : ℕ) (es : State) (r : Room) → Lengths r → Fresh record_count es → k + length es ≤ 2048 → PlacedRun record_count r first k → PlacedRun record_count (append_all k es r) first (k + length es)
  unfolding append_all
  all_placed k [] r sized fresh h run = let z : k + 0 ≡ k = omega arith in rw z run
  all_placed k (e ∷ es) r sized fresh h run =
      let q : Room = write_entry k e.item e.set r in
      let (z, i) = fresh e here in
      let size : k + suc (length es) ≡ k + 1 + length es = omega arith in
      rw size (all_placed (k + 1) es q (written_lengths k e.item e.set r q refl sized) (λ x m. fresh x (later m)) (omega arith) (appended_placed_run k e.item e.set r q refl first record_count sized (omega arith) (omega arith) i run))

-- ---- as many as fit
run_whole : (k : ℕ) (es : State) (r : Room) → k + length es ≤ 2048 → append_run k es r ≡ append_all k es r
unfolding append_run
run_whole k es r h = ap (λ (l : State). append_all k l r) (take_all (2048 - k) es (omega arith))

pub run_behind : (k : ℕ) (es : State) (r q : Room) → k ≤ 2048 → q ≡ append_run k es r → OnlyBehind r q k
unfolding append_run
run_behind k es r q h e = rw e (all_behind k (take (2048 - k) es) r (omega (arith, length-take (2048 - k) es)))

end_known : (k size to : ℕ) → Some to ≡ run_end k size → (to ≡ k + size) × (k + size ≤ 2048)
unfolding run_end
end_known k size to e = go (ltb 2048 (k + size)) refl
  where
    go : (b : Bool) → ltb 2048 (k + size) ≡ b → (to ≡ k + size) × (k + size ≤ 2048)
    go true f = let z : Some to ≡ None = rw f at e in let y : ◌≡◌ {A = ℕ} 0 1 = cc in absurd (omega arith)
    go false f = let z : Some to ≡ Some (k + size) = rw f at e in (cc, ltb-false 2048 (k + size) f)

end_sum : (k size j more : ℕ) → k + size ≡ j + more → run_end k size ≡ run_end j more
unfolding run_end
end_sum k size j more e = rw e

-- a run that fits lies behind what stood before it
module _ (record_count first k : ℕ) (es : State) (v q : Room) (r : Option ℕ) (few : record_count ≤ 512) (sized : Lengths v) (fresh : Fresh record_count es)
    (before : PlacedRun record_count v first k) (appended : AppendedRun k es v q r) (to : ℕ) (is : r ≡ Some to) where
  pub end_is : to ≡ k + length es
  end_is = (end_known k (length es) to (sym is ∙ appended.ended)).0

  fits : k + length es ≤ 2048
  fits = (end_known k (length es) to (sym is ∙ appended.ended)).1

  room_is : q ≡ append_all k es v
  room_is = appended.written ∙ run_whole k es v fits

  pub run_is : run_in q first to ≡ run_in v first k ++ es
  run_is = rw (end_is, room_is) (all_run record_count first few k es v sized fresh before.ordered fits)

  pub placed_is : PlacedRun record_count q first to
  placed_is = rw (end_is, room_is) (all_placed record_count first few k es v sized fresh fits before)

-- ---- the closed state
left_side_within : (g : Grammar) (i : ℕ) → Among i (left_sides g) → i < length g
unfolding left_sides
left_side_within g i m = (up_to_among_lem i (length g)).0 (keep_among (at_start g) _ m).0

present_fresh : (g : Grammar) (sets : Sets) → Fresh (length g) (present_entries g sets (left_sides g))
unfolding present_entries entry_of
present_fresh g sets e m =
    let (i, among, is) = map_among (entry_of g sets) (left_sides g) (keep_among _ _ m).0 in
    (ap (λ (x : Entry). x.next) is, rw (ap (λ (x : Entry). x.item) is) (left_side_within g i among))

pub closure_is : (g : Grammar) (follow : Follow) (kernel : State) → closure g follow kernel ≡ kernel ++ present_entries g (closure_sets g follow kernel) (left_sides g)
unfolding closure present_entries
closure_is g follow kernel = refl

module _ (bytes : List ℕ) (canonical : Bool) (n first end : ℕ) (w w₁ w₂ : List ℕ) (r : Option ℕ) (closable : Closable bytes n w) (run : PlacedRun (length (records bytes)) (view w) first end)
    (found : ClosureFound bytes canonical n first end w w₁) (size : length w₁ ≡ length w)
    (appended : AppendedRun end (present_entries (records bytes) (closures_in (records bytes) (view w₁)) (left_sides (records bytes))) (view w₁) (view w₂) r) where
  whole : closure (records bytes) (follow_in (records bytes) canonical n (view w)) (run_in (view w) first end) ≡ run_in (view w) first end ++ present_entries (records bytes) (closures_in (records bytes) (view w₁)) (left_sides (records bytes))
  whole = rw found.found (closure_is (records bytes) _ (run_in (view w) first end))

  few : length (records bytes) ≤ 512
  few = omega (arith, length_records bytes, closable.short)

  sized : Lengths (view w₁)
  sized = view_lengths w₁ (omega (arith, closable.long))

  moved : PlacedRun (length (records bytes)) (view w₁) first end
  moved = placed_run_kept (records bytes) (view w) (view w₁) closable.clean found.only _ first end run

  sets_behind : OnlyBehind (view w) (view w₁) end
  sets_behind =
      let m = nonterminal_count_below (records bytes) closable.clean in
      record {
        others = ap (with_entries []) found.only.others;
        entries = λ k h. entry_kept (records bytes) (view w) (view w₁) closable.clean found.only k (omega (arith, run.bounded));
        firsts = λ slot h. found.only.firsts slot h;
        cells = λ slot h ne. found.only.behind slot (omega arith) ne;
      }

  pub closed : Closes bytes canonical n first end w w₂ r
  closed = record {
    ended =
        let l = each_length (entry_in (view w)) first (end - first) in
        let a = length-append (run_in (view w) first end) (present_entries (records bytes) (closures_in (records bytes) (view w₁)) (left_sides (records bytes))) in
        appended.ended ∙ end_sum end _ first _ (omega (arith, ap length whole, run.ordered));
    state = λ to is.
        run_is (length (records bytes)) first end _ (view w₁) (view w₂) r few sized (present_fresh (records bytes) _) moved appended to is
        ∙ ap (λ (kernel : State). kernel ++ present_entries (records bytes) (closures_in (records bytes) (view w₁)) (left_sides (records bytes))) (run_kept (records bytes) (view w) (view w₁) closable.clean found.only _ first end run)
        ∙ sym whole;
    placed = λ to is. placed_is (length (records bytes)) first end _ (view w₁) (view w₂) r few sized (present_fresh (records bytes) _) moved appended to is;
    only = behind_both (view w) (view w₁) (view w₂) end end (omega arith) sets_behind (run_behind end _ (view w₁) (view w₂) run.bounded appended.written);
  }
