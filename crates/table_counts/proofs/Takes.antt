-- What a sink has taken of an entry, of a symbol, of a state and of all states.
use Prim.Native.Nat.{ℕ, ◌+◌, ◌≤◌}
use mathlib.Core.Path.{◌≡◌}
use mathlib.Core.Bool.{Bool, true, false, not}
use mathlib.Core.List.{List, [], ◌∷◌, ◌++◌}
use native.Mathlib.Omega.{arith}
use lib.ListN.{length, get_or}
use borrow.Author.Tests.{not-true, not-false}
use Rattle.std.specs.Prelude.{Option, Some, None}
use Rattle.rules.specs.declared.StateIndex.{StateIndex}
use Rattle.rules.specs.Limits.{max_nonterminals}
use Rattle.rules.specs.Records.{at, records}
use Rattle.rules.specs.Grammar.{at_end, terminal_count, nonterminal_count}
use Rattle.rules.specs.Table.{TableRecord, table_record, table_of}
use Rattle.room.specs.Areas.{view}
use Rattle.room.specs.Slots.{entry_slot}
use Rattle.lookahead.specs.Sets.{has_token}
use Rattle.states.specs.StatesIn.{entry_in, first_of, states_in}
use Rattle.table_counts.specs.Records.{in_turn, kind_over, over_symbol, on_entry, on_token, shifts_of, gotos_of, reductions_of, of_state}
use Rattle.table_counts.specs.Targets.{Gathered, to_target}
use Rattle.table_counts.specs.Sinks.{SinkLaws, Took}
use Rattle.table_counts.proofs.Entries.{entries_in_turn, incomplete, not_held, held}
use Rattle.table_counts.proofs.Targets.{to_none, to_some, targets_in_turn}
use Rattle.table_counts.proofs.States.{state_parts, table_in_turn}
use Rattle.table_counts.proofs.Walks.{Left, left_all, left_end, took_none, first_holds, left_second}

module _ (taken : ℕ → List TableRecord → List ℕ → List ℕ) (holds : ℕ → List ℕ → Type 0) (laws : SinkLaws taken holds) where
  -- ---- the record over a symbol
  module _ (s kind x : ℕ) (targets : List (Option StateIndex)) (to : ℕ) (room : List ℕ) where
    pub none_takes : get_or targets x None ≡ None → Took taken (to_target s kind targets x) to room room to
    none_takes e = rw (to_none s kind x targets e) (took_none taken holds laws to room)

    module _ (leads : StateIndex) (is : get_or targets x None ≡ Some leads) where
      pub some_holds : holds (to + length (to_target s kind targets x)) room → holds (to + 1) room
      some_holds enough = rw (to_some s kind x targets leads is) at enough

      pub some_takes : (kd end : ℕ) (after : List ℕ) → kd ≡ kind_over kind → Took taken (table_record s kd x leads.0 ∷ []) to room after end → Took taken (to_target s kind targets x) to room after end
      some_takes kd end after of_kind took = rw (to_some s kind x targets leads is, ← of_kind) took

  -- those of a state
  pub targets_left : (bytes work : List ℕ) (s kind symbols : ℕ) (targets : List (Option StateIndex)) (gathered : Gathered bytes work s kind targets) (few : symbols ≤ max_nonterminals) (to : ℕ) (room : List ℕ)
      → holds (to + length (in_turn (over_symbol bytes work s kind) 0 symbols)) room
      → Left taken holds (in_turn (to_target s kind targets) 0 symbols) to room (in_turn (over_symbol bytes work s kind) 0 symbols) to room
  targets_left bytes work s kind symbols targets gathered few to room enough = left_all taken holds (in_turn (over_symbol bytes work s kind) 0 symbols) _ to room (targets_in_turn bytes work s kind symbols targets gathered few) enough

  -- ---- the record of the entry at place k
  module _ (bytes work : List ℕ) (s t k i : ℕ) (c : Bool) (is : i ≡ (entry_in (view work) k).item) (last : c ≡ at_end (records bytes) i) where
    pub incomplete_takes : (to : ℕ) (room : List ℕ) → not c ≡ true → Took taken (on_entry bytes work s t k) to room room to
    incomplete_takes to room z = rw (incomplete bytes work s t k i c is last z) (took_none taken holds laws to room)

    module _ (slot : ℕ) (b : Bool) (complete : not c ≡ false) (place : slot ≡ entry_slot k) (contained : b ≡ has_token slot t (view work)) (to : ℕ) (room : List ℕ) where
      pub not_held_takes : not b ≡ true → Took taken (on_entry bytes work s t k) to room room to
      not_held_takes z = rw (not_held bytes work s t k i c is last slot b complete place contained (not-true b z)) (took_none taken holds laws to room)

      pub held_holds : not b ≡ false → holds (to + length (on_entry bytes work s t k)) room → holds (to + 1) room
      held_holds z enough = rw (held bytes work s t k i c is last slot b complete place contained (not-false b z)) at enough

      pub held_takes : (p end : ℕ) (after : List ℕ) → not b ≡ false → p ≡ (at (records bytes) i).production → Took taken (table_record s 2 t p ∷ []) to room after end → Took taken (on_entry bytes work s t k) to room after end
      held_takes p end after z produced took = rw (held bytes work s t k i c is last slot b complete place contained (not-false b z), ← is, ← produced) took

  -- those of a state on a token
  pub entries_left : (bytes work : List ℕ) (s t first end to : ℕ) (room : List ℕ) → first ≡ first_of (view work) s → end ≡ first_of (view work) (s + 1) → holds (to + length (on_token bytes work s t)) room
      → Left taken holds (in_turn (on_entry bytes work s t) first end) to room (on_token bytes work s t) to room
  entries_left bytes work s t first end to room p q enough = left_all taken holds (on_token bytes work s t) _ to room (entries_in_turn bytes work s t first end p q) enough

  -- ---- a state: shifts, gotos, reductions
  module _ (bytes work : List ℕ) (s n m : ℕ) (terminals : n ≡ terminal_count (records bytes)) (nonterminals : m ≡ nonterminal_count (records bytes)) where
    module _ (to : ℕ) (room : List ℕ) (enough : holds (to + length (of_state bytes work s)) room) where
      whole : Left taken holds (shifts_of bytes work s n ++ (gotos_of bytes work s m ++ reductions_of bytes work s n)) to room (of_state bytes work s) to room
      whole = left_all taken holds (of_state bytes work s) _ to room (state_parts bytes work s n m terminals nonterminals) enough

      pub shifts_hold : holds (to + length (shifts_of bytes work s n)) room
      shifts_hold = first_holds taken holds laws (shifts_of bytes work s n) (gotos_of bytes work s m ++ reductions_of bytes work s n) to room _ to room whole

      module _ (r1 : List ℕ) (e1 : ℕ) (shifted : Took taken (shifts_of bytes work s n) to room r1 e1) where
        behind_shifts : Left taken holds (gotos_of bytes work s m ++ reductions_of bytes work s n) e1 r1 (of_state bytes work s) to room
        behind_shifts = left_second taken holds laws (shifts_of bytes work s n) (gotos_of bytes work s m ++ reductions_of bytes work s n) to room _ to room whole r1 e1 shifted

        pub gotos_hold : holds (e1 + length (gotos_of bytes work s m)) r1
        gotos_hold = first_holds taken holds laws (gotos_of bytes work s m) (reductions_of bytes work s n) e1 r1 _ to room behind_shifts

        module _ (r2 : List ℕ) (e2 : ℕ) (gone : Took taken (gotos_of bytes work s m) e1 r1 r2 e2) where
          behind_gotos : Left taken holds (reductions_of bytes work s n) e2 r2 (of_state bytes work s) to room
          behind_gotos = left_second taken holds laws (gotos_of bytes work s m) (reductions_of bytes work s n) e1 r1 _ to room behind_shifts r2 e2 gone

          pub reductions_hold : holds (e2 + length (reductions_of bytes work s n)) r2
          reductions_hold = behind_gotos.enough

          pub state_taken : (r3 : List ℕ) (e3 : ℕ) → Took taken (reductions_of bytes work s n) e2 r2 r3 e3 → Took taken (of_state bytes work s) to room r3 e3
          state_taken r3 e3 reduced = left_end taken holds (reductions_of bytes work s n) e2 r2 (of_state bytes work s) to room behind_gotos r3 e3 reduced

  -- ---- all states
  pub table_left : (bytes work : List ℕ) (count : ℕ) (room : List ℕ) → holds (length (table_of (records bytes) (states_in (view work) count))) room
      → Left taken holds (in_turn (of_state bytes work) 0 count) 0 room (table_of (records bytes) (states_in (view work) count)) 0 room
  table_left bytes work count room enough =
      let e : 0 + length (table_of (records bytes) (states_in (view work) count)) ≡ length (table_of (records bytes) (states_in (view work) count)) = omega arith in
      left_all taken holds (table_of (records bytes) (states_in (view work) count)) _ 0 room (table_in_turn bytes work count) (rw e enough)
