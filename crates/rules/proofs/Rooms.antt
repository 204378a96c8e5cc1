-- What every call leaves in the rooms that it was lent: a refusal of the builder changes no byte of the table room, the work room is
-- untouched after 1 and 2 and cleared after every other answer, and stack and list do not change before a run begins.
use Prim.Native.Nat.{ℕ, ◌*◌, ◌%◌, ◌<◌, ◌≤◌}
use mathlib.Core.Path.{◌≡◌, refl, sym, ap, ◌∙◌}
use mathlib.Core.Bool.{Bool, true, false}
use mathlib.Core.List.{List, [], ◌∷◌, map}
use native.Mathlib.Omega.{arith}
use lib.ListN.{length, drop, length-append}
use lib.Seq.{drop_at}
use lib.Dec.{eqb, ltb}
use borrow.Author.Tests.{lt-ltb, le-ltb, ltb-false}
use Rattle.std.specs.Prelude.{Result, Ok, Err}
use Rattle.base.specs.Pick.{pick}
use Rattle.base.specs.Lists.{concat}
use Rattle.rules.specs.Limits.{Limits}
use Rattle.rules.specs.Records.{Grammar, records}
use Rattle.rules.specs.Grammar.{grammar_answer}
use Rattle.rules.specs.States.{State, Outcome, done, refused}
use Rattle.rules.specs.Table.{TableRecord, table_of, record_bytes, table_bytes, table_records, table_in}
use Rattle.rules.specs.Rooms.{cleared, overwritten}
use Rattle.rules.specs.Build.{BuildResult, constructed, not_built, written, result_of, build_coded, build}
use Rattle.rules.specs.Run.{RunResult, run}
use Rattle.rules.specs.Drive.{DriveResult, first_malformed, first_no_token, not_driven, driven, drive_coded, drive}
use Rattle.rules.specs.declared.GrammarRefusal.{GrammarRefusal}
use Rattle.rules.specs.declared.DriveRefusal.{DriveRefusal}
use Rattle.rules.specs.Answers.{table_size}
use Rattle.rules.specs.declared.BuildRefusal.{BuildRefusal}
use Rattle.rules.specs.declared.TableSize.{TableSize}
use Rattle.rules.specs.declared.BuildRefusal.TheVariants.{TableRoom}
use Rattle.rules.specs.declared.RunAnswer.{RunAnswer}
use Rattle.rules.proofs.Answers.{err≢ok, same_size}

-- ---- the table room after a refusal
abbrev KeepsTable : List ℕ → BuildResult → Type 0
KeepsTable table r = (why : BuildRefusal) → r.answer ≡ Err why → r.table ≡ table

keeps_pick : (table : List ℕ) (b : Bool) (x y : BuildResult) → KeepsTable table x → KeepsTable table y → KeepsTable table (pick b x y)
keeps_pick table true x y p q = p
keeps_pick table false x y p q = q

keeps_not_built : (why : BuildRefusal) (table work : List ℕ) → KeepsTable table (not_built why table work)
unfolding not_built
keeps_not_built why table work why' e = refl

keeps_written : (count : ℕ) (rs : List TableRecord) (table work : List ℕ) → KeepsTable table (written count rs table work)
unfolding written
keeps_written count rs table work =
    keeps_pick table (ltb (length table) (8 * length rs)) _ _ (keeps_not_built _ table work)
    (λ why e. absurd (err≢ok why _ (sym e)))

keeps_result : (g : Grammar) (o : Outcome (List State)) (table work : List ℕ) → KeepsTable table (result_of g o table work)
unfolding result_of
keeps_result g (done states) table work = keeps_written (length states) (table_of g states) table work
keeps_result g (refused why) table work = keeps_not_built why table work

keeps_coded : (l : Limits) (mode : ℕ) (bytes : List ℕ) (a : Result (Unit {0}) GrammarRefusal) (table work : List ℕ) → KeepsTable table (build_coded l mode bytes a table work)
unfolding build_coded
keeps_coded l mode bytes (Ok tt) table work = keeps_result (records bytes) (constructed l (records bytes) mode) table work
keeps_coded l mode bytes (Err why) table work = keeps_not_built _ table work

pub refusal_keeps_table : (l : Limits) (mode : ℕ) (bytes table work : List ℕ) (why : BuildRefusal)
    → (build l mode bytes table work).answer ≡ Err why → (build l mode bytes table work).table ≡ table
unfolding build
refusal_keeps_table l mode bytes table work =
    keeps_pick table (ltb 1 mode) _ _ (keeps_not_built _ table work)
    (keeps_pick table (ltb (length work) l.work) _ _ (keeps_not_built _ table work)
    (keeps_coded l mode bytes (grammar_answer l bytes) table (cleared l work)))

-- ---- the table room after a table was built: the bytes past the records keep theirs
record_length : (r : TableRecord) → length (record_bytes r) ≡ 8
unfolding record_bytes
record_length r = refl

records_length : (rs : List TableRecord) → length (table_bytes rs) ≡ 8 * length rs
unfolding table_bytes concat
records_length [] = refl
records_length (r ∷ rs) = omega (arith, length-append (record_bytes r) (concat (map record_bytes rs)), record_length r, records_length rs)

-- what a result has written, if it has built
abbrev KeepsRest : List ℕ → BuildResult → Type 0
KeepsRest table r = (states count : ℕ) → r.answer ≡ Ok (table_size states count) → (drop (8 * count) r.table ≡ drop (8 * count) table) × (8 * count ≤ length table)

rest_pick : (table : List ℕ) (b : Bool) (x y : BuildResult) → (b ≡ true → KeepsRest table x) → (b ≡ false → KeepsRest table y) → KeepsRest table (pick b x y)
rest_pick table true x y p q = p refl
rest_pick table false x y p q = q refl

rest_not_built : (why : BuildRefusal) (table work : List ℕ) → KeepsRest table (not_built why table work)
unfolding not_built
rest_not_built why table work states count e = absurd (err≢ok why _ e)

rest_overwritten : (bytes table : List ℕ) (k : ℕ) → length bytes ≡ k → drop k (overwritten bytes table) ≡ drop k table
unfolding overwritten
rest_overwritten bytes table k e = drop_at bytes (drop (length bytes) table) k e ∙ ap (λ (i : ℕ). drop i table) e

rest_written : (n : ℕ) (rs : List TableRecord) (table work : List ℕ) → KeepsRest table (written n rs table work)
unfolding written
rest_written n rs table work =
    rest_pick table (ltb (length table) (8 * length rs)) _ _ (λ _. rest_not_built _ table work)
    (λ fits states count e.
    let q : length rs ≡ count = (same_size e).1 in
    (rw (← q) (rest_overwritten (table_bytes rs) table (8 * length rs) (records_length rs)), omega (arith, ltb-false (length table) (8 * length rs) fits)))

rest_result : (g : Grammar) (o : Outcome (List State)) (table work : List ℕ) → KeepsRest table (result_of g o table work)
unfolding result_of
rest_result g (done states) table work = rest_written (length states) (table_of g states) table work
rest_result g (refused why) table work = rest_not_built why table work

rest_coded : (l : Limits) (mode : ℕ) (bytes : List ℕ) (a : Result (Unit {0}) GrammarRefusal) (table work : List ℕ) → KeepsRest table (build_coded l mode bytes a table work)
unfolding build_coded
rest_coded l mode bytes (Ok tt) table work = rest_result (records bytes) (constructed l (records bytes) mode) table work
rest_coded l mode bytes (Err why) table work = rest_not_built _ table work

pub built_keeps_rest : (l : Limits) (mode : ℕ) (bytes table work : List ℕ) → KeepsRest table (build l mode bytes table work)
unfolding build
built_keeps_rest l mode bytes table work =
    rest_pick table (ltb 1 mode) _ _ (λ _. rest_not_built _ table work)
    (λ _. rest_pick table (ltb (length work) l.work) _ _ (λ _. rest_not_built _ table work)
    (λ _. rest_coded l mode bytes (grammar_answer l bytes) table (cleared l work)))

-- ---- the work room
work_written : (n : ℕ) (rs : List TableRecord) (table work : List ℕ) → (written n rs table work).work ≡ work
unfolding written not_built
work_written n rs table work = by_test (ltb (length table) (8 * length rs))
  where
    by_test : (b : Bool) → (pick b (not_built (TableRoom (length rs)) table work) (record { answer = Ok (table_size n (length rs)); table = overwritten (table_bytes rs) table; work = work })).work ≡ work
    by_test true = refl
    by_test false = refl

work_result : (g : Grammar) (o : Outcome (List State)) (table work : List ℕ) → (result_of g o table work).work ≡ work
unfolding result_of not_built
work_result g (done states) table work = work_written (length states) (table_of g states) table work
work_result g (refused why) table work = refl

work_coded : (l : Limits) (mode : ℕ) (bytes : List ℕ) (a : Result (Unit {0}) GrammarRefusal) (table work : List ℕ) → (build_coded l mode bytes a table work).work ≡ work
unfolding build_coded not_built
work_coded l mode bytes (Ok tt) table work = work_result (records bytes) (constructed l (records bytes) mode) table work
work_coded l mode bytes (Err why) table work = refl

module _ (l : Limits) (mode : ℕ) (bytes table work : List ℕ) where
  pub work_untouched_after_1 : 1 < mode → (build l mode bytes table work).work ≡ work
  unfolding build not_built
  work_untouched_after_1 h = rw (lt-ltb 1 mode h)

  pub work_untouched_after_2 : mode ≤ 1 → length work < l.work → (build l mode bytes table work).work ≡ work
  unfolding build not_built
  work_untouched_after_2 h k = rw (le-ltb 1 mode h, lt-ltb (length work) l.work k)

  pub work_cleared_otherwise : mode ≤ 1 → l.work ≤ length work → (build l mode bytes table work).work ≡ cleared l work
  unfolding build
  work_cleared_otherwise h k = rw (le-ltb 1 mode h, le-ltb (length work) l.work k) (work_coded l mode bytes (grammar_answer l bytes) table (cleared l work))

-- ---- stack and list before a run begins
abbrev KeepsRooms : List ℕ → List ℕ → DriveResult → Type 0
KeepsRooms stack list r = ((answer : RunAnswer) → r.answer ≡ Ok answer → ⊥) → (r.stack ≡ stack) × (r.list ≡ list)

rooms_pick : (stack list : List ℕ) (b : Bool) (x y : DriveResult) → KeepsRooms stack list x → KeepsRooms stack list y → KeepsRooms stack list (pick b x y)
rooms_pick stack list true x y p q = p
rooms_pick stack list false x y p q = q

rooms_not_driven : (answer : Result RunAnswer DriveRefusal) (stack list : List ℕ) → KeepsRooms stack list (not_driven answer stack list)
unfolding not_driven
rooms_not_driven answer stack list f = (refl, refl)

rooms_driven : (r : RunResult ℕ) (stack list : List ℕ) → KeepsRooms stack list (driven r)
unfolding driven
rooms_driven r stack list f = absurd (f r.answer refl)

rooms_coded : (l : Limits) (bytes : List ℕ) (a : Result (Unit {0}) GrammarRefusal) (table tokens : List ℕ) (limit : ℕ) (stack list : List ℕ)
    → KeepsRooms stack list (drive_coded l bytes a table tokens limit stack list)
unfolding drive_coded
rooms_coded l bytes (Err why) table tokens limit stack list = rooms_not_driven _ stack list
rooms_coded l bytes (Ok tt) table tokens limit stack list =
    let g : Grammar = records bytes in
    let rs : List TableRecord = table_records table in
    rooms_pick stack list (eqb (length table % 8) 0) _ _
    (rooms_pick stack list (ltb (first_malformed l g rs) (length rs)) _ _ (rooms_not_driven _ stack list)
    (rooms_pick stack list (ltb (first_no_token g tokens) (length tokens)) _ _ (rooms_not_driven _ stack list)
    (rooms_driven (run (table_in rs) g tokens limit stack list) stack list)))
    (rooms_not_driven _ stack list)

pub no_run_keeps_rooms : (l : Limits) (bytes table tokens : List ℕ) (limit : ℕ) (stack list : List ℕ)
    → KeepsRooms stack list (drive l bytes table tokens limit stack list)
unfolding drive
no_run_keeps_rooms l bytes table tokens limit stack list = rooms_coded l bytes (grammar_answer l bytes) table tokens limit stack list
