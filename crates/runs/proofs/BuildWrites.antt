-- What the builder has written when it answers `Ok`: the bytes of the table of its states, at the front of the table room.
use Prim.Native.Nat.{ℕ, ◌*◌}
use mathlib.Core.Path.{◌≡◌, refl, sym, ap, ◌∙◌}
use mathlib.Core.Bool.{Bool, true, false}
use mathlib.Core.List.{List}
use lib.ListN.{length, take, drop}
use lib.Seq.{take_at}
use lib.Dec.{ltb}
use Rattle.std.specs.Prelude.{Result, Ok, Err}
use Rattle.base.specs.Pick.{pick}
use Rattle.rules.proofs.Answers.{err≢ok, same_size}
use Rattle.rules.specs.Limits.{Limits}
use Rattle.rules.specs.Records.{Grammar, records}
use Rattle.rules.specs.Grammar.{grammar_answer}
use Rattle.rules.specs.States.{State, Outcome, done, refused}
use Rattle.rules.specs.Rooms.{cleared, overwritten}
use Rattle.rules.specs.Table.{TableRecord, table_of, table_bytes}
use Rattle.rules.specs.Build.{BuildResult, constructed, not_built, written, result_of, build_coded, build}
use Rattle.rules.specs.declared.GrammarRefusal.{GrammarRefusal}
use Rattle.rules.specs.Answers.{table_size}
use Rattle.rules.specs.declared.BuildRefusal.{BuildRefusal}
use Rattle.rules.specs.declared.BuildRefusal.TheVariants.{Mode, WorkRoom, TableRoom}
use Rattle.runs.proofs.Bytes.{bytes_length}

pub record Wrote (l : Limits) (mode : ℕ) (bytes table work : List ℕ) (count size : ℕ) : Type 0 where
  pub coded : grammar_answer l bytes ≡ Ok tt
  pub states : List State
  pub constructs : constructed l (records bytes) mode ≡ done states
  pub counted : count ≡ length states
  pub sized : size ≡ length (table_of (records bytes) states)
  pub front : take (8 * size) (build l mode bytes table work).table ≡ table_bytes (table_of (records bytes) states)

module _ (count size : ℕ) where
  -- a refusal that was not given
  passed : (b : Bool) (why : BuildRefusal) (table work : List ℕ) (x : BuildResult) → (pick b (not_built why table work) x).answer ≡ Ok (table_size count size)
      → (pick b (not_built why table work) x ≡ x) × (x.answer ≡ Ok (table_size count size))
  unfolding not_built
  passed true why table work x e = absurd (err≢ok why _ e)
  passed false why table work x e = (refl, e)

  record Front (g : Grammar) (states : List State) (result : BuildResult) : Type 0 where
    counted : count ≡ length states
    sized : size ≡ length (table_of g states)
    front : take (8 * size) result.table ≡ table_bytes (table_of g states)

  module _ (g : Grammar) (states : List State) (table work : List ℕ) where
    abbrev rs : List TableRecord
    rs = table_of g states

    abbrev whole : BuildResult
    whole = record { answer = Ok (table_size (length states) (length rs)); table = overwritten (table_bytes rs) table; work = work }

    front_whole : whole.answer ≡ Ok (table_size count size) → Front g states whole
    unfolding overwritten
    front_whole e =
        let (e₁, e₂) = same_size (sym e) in
        record {
          counted = e₁;
          sized = e₂;
          front = take_at (table_bytes rs) (drop (length (table_bytes rs)) table) (8 * size) (bytes_length rs ∙ ap (λ (n : ℕ). 8 * n) (sym e₂));
        }

    front_written : (written (length states) rs table work).answer ≡ Ok (table_size count size) → Front g states (written (length states) rs table work)
    unfolding written
    front_written e =
        let (q, e') = passed (ltb (length table) (8 * length rs)) (TableRoom (length rs)) table work whole e in
        rw q (front_whole e')

  pub wrote : (l : Limits) (mode : ℕ) (bytes table work : List ℕ) → (build l mode bytes table work).answer ≡ Ok (table_size count size) → Wrote l mode bytes table work count size
  unfolding build build_coded result_of not_built
  wrote l mode bytes table work e =
      let (q₁, e₁) = passed (ltb 1 mode) Mode table work _ e in
      let (q₂, e₂) = passed (ltb (length work) l.work) WorkRoom table work _ e₁ in
      by_answer (grammar_answer l bytes) refl (q₁ ∙ q₂) e₂
    where
      result : Outcome (List State) → BuildResult
      result o = result_of (records bytes) o table (cleared l work)

      by_states : (o : Outcome (List State)) → constructed l (records bytes) mode ≡ o → grammar_answer l bytes ≡ Ok tt → build l mode bytes table work ≡ result o
          → (result o).answer ≡ Ok (table_size count size) → Wrote l mode bytes table work count size
      by_states (done states) c coded q e =
          let f = front_written (records bytes) states table (cleared l work) e in
          record {
            coded = coded;
            states = states;
            constructs = c;
            counted = f.counted;
            sized = f.sized;
            front = ap (λ (r : BuildResult). take (8 * size) r.table) q ∙ f.front;
          }
      by_states (refused why) c coded q e = absurd (err≢ok why _ e)

      by_answer : (a : Result (Unit {0}) GrammarRefusal) → grammar_answer l bytes ≡ a → build l mode bytes table work ≡ build_coded l mode bytes a table (cleared l work)
          → (build_coded l mode bytes a table (cleared l work)).answer ≡ Ok (table_size count size) → Wrote l mode bytes table work count size
      by_answer (Ok tt) coded q e = by_states (constructed l (records bytes) mode) refl coded q e
      by_answer (Err why) coded q e = absurd (err≢ok _ _ e)
