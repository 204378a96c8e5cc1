-- No second room meets the promise of the closure's sets, or of entries that were appended; and closing has one answer.
use Prim.Native.Nat.{ℕ, ◌+◌, ◌-◌, ◌<◌}
use mathlib.Core.Path.{◌≡◌, sym, ap, ◌∙◌}
use mathlib.Core.Bool.{Bool}
use mathlib.Core.List.{List, []}
use native.Mathlib.Omega.{arith}
use native.Mathlib.Decide.{ℕ_discrete, dec_le}
use lib.ListN.{get_or}
use Rattle.std.specs.Prelude.{Option, Some}
use Rattle.base.proofs.Each.{each_at}
use Rattle.base.proofs.Unique.{one_answer}
use Rattle.rules.specs.Records.{records}
use Rattle.rules.specs.Grammar.{nonterminal_count}
use Rattle.rules.specs.First.{Sets}
use Rattle.rules.specs.States.{State}
use Rattle.room.specs.Areas.{Room, view, with_sets}
use Rattle.room.specs.Slots.{hand_slot}
use Rattle.room.proofs.Whole.{view_inj, one_room}
use Rattle.lookahead.specs.Sets.{load_set, set_at}
use Rattle.lookahead.proofs.Slots.{same_words}
use Rattle.states.specs.StatesIn.{run_in}
use Rattle.closures.specs.Closures.{ClosureFound}
use Rattle.closures.specs.Runs.{append_run, AppendedRun, Closes}

-- ---- the sets of the closure
module _ (bytes : List ℕ) (canonical : Bool) (n first end : ℕ) (work w u : List ℕ) (one : ClosureFound bytes canonical n first end work w) (two : ClosureFound bytes canonical n first end work u) where
  own_slot : (a : ℕ) → a < nonterminal_count (records bytes) → set_at (view w) (64 + a) ≡ set_at (view u) (64 + a)
  own_slot a l =
      sym (each_at (load_set (view w).sets) 64 (nonterminal_count (records bytes)) a 0 l)
      ∙ ap (λ (sets : Sets). get_or sets a 0) (one.found ∙ sym two.found)
      ∙ each_at (load_set (view u).sets) 64 (nonterminal_count (records bytes)) a 0 l

  same_slot : (slot : ℕ) → set_at (view w) slot ≡ set_at (view u) slot
  same_slot slot = elim (dec_le 64 slot) [
    | yes h ↦ (elim (dec_le (64 + nonterminal_count (records bytes)) slot) [
      | yes g ↦ (elim (ℕ_discrete slot hand_slot) [
        | yes e ↦ rw e (one.cleared ∙ sym two.cleared)
        | no ne ↦ one.only.behind slot g ne ∙ sym (two.only.behind slot g ne)
      ])
      | no g ↦ (let z : slot ≡ 64 + (slot - 64) = omega arith in rw z (own_slot (slot - 64) (omega arith)))
    ])
    | no h ↦ one.only.firsts slot (omega arith) ∙ sym (two.only.firsts slot (omega arith))
  ]

  pub closure_found_one : w ≡ u
  closure_found_one =
      let others : with_sets [] (view w) ≡ with_sets [] (view u) = one.only.others ∙ sym two.only.others in
      let words : (view w).sets ≡ (view u).sets = same_words (view w).sets (view u).sets (one.only.words ∙ sym two.only.words) same_slot in
      view_inj w u (ap (with_sets (view w).sets) others ∙ ap (λ (l : List ℕ). with_sets l (view u)) words)

-- ---- appended entries
module _ (k : ℕ) (es : State) (v : Room) (w u : List ℕ) (r a : Option ℕ) (one : AppendedRun k es v (view w) r) (two : AppendedRun k es v (view u) a) where
  pub appended_room_one : w ≡ u
  appended_room_one = one_room (append_run k es v) w u one.written two.written

  pub appended_answer_one : r ≡ a
  appended_answer_one = one_answer _ r a one.ended two.ended

-- ---- a closed kernel: what lies in the closure's slots and behind the state is left open
module _ (bytes : List ℕ) (canonical : Bool) (n first end : ℕ) (work w u : List ℕ) (r a : Option ℕ) (one : Closes bytes canonical n first end work w r) (two : Closes bytes canonical n first end work u a) where
  pub closed_answer_one : r ≡ a
  closed_answer_one = one_answer _ r a one.ended two.ended

  pub closed_state_one : (to : ℕ) → r ≡ Some to → run_in (view w) first to ≡ run_in (view u) first to
  closed_state_one to is = one.state to is ∙ sym (two.state to (sym closed_answer_one ∙ is))
