-- Examples 2 to 6 of document 01 hold of the code: of every answer and every rooms that meet the promise of `driver::drive`. Rooms are
-- those of the program: each cell is 9 before the call.
use Prim.Native.Nat.{ℕ}
use mathlib.Core.Path.{◌≡◌, ap}
use mathlib.Core.List.{List, [], ◌∷◌}
use lib.ListN.{replicate}
use Rattle.std.specs.Prelude.{Result}
use Rattle.rules.specs.Limits.{limits}
use Rattle.rules.specs.Table.{table_bytes}
use Rattle.rules.specs.Drive.{DriveResult, drive}
use Rattle.rules.specs.Answers.{Said, accepted, stopped, drive_said}
use Rattle.rules.specs.declared.DriveRefusal.{DriveRefusal}
use Rattle.rules.specs.declared.RunAnswer.{RunAnswer}
use Rattle.rules.proofs.Coding.{r}
use Rattle.rules.proofs.Examples.{driven1, example6}
use Rattle.driver.specs.Results.{drove_in}

module _ (answer : Result RunAnswer DriveRefusal) (stack list : List ℕ) where
  abbrev Gives : Said → List ℕ → List ℕ → Type 0
  Gives said states productions = (drive_said answer ≡ said) × (stack ≡ states) × (list ≡ productions)

  by_promise : (promised : DriveResult) → drove_in answer stack list ≡ promised
      → Gives (drive_said promised.answer) promised.stack promised.list
  by_promise promised e =
      (ap (λ (d : DriveResult). drive_said d.answer) e, ap (λ (d : DriveResult). d.stack) e, ap (λ (d : DriveResult). d.list) e)

  -- a accepts, list 1, 0, three steps
  example2 : drove_in answer stack list ≡ driven1 (0 ∷ []) 9 4 4 → Gives (accepted 3 2) (0 ∷ 1 ∷ 9 ∷ 9 ∷ []) (1 ∷ 0 ∷ 9 ∷ 9 ∷ [])
  unfolding driven1 drive_said
  example2 = by_promise (driven1 (0 ∷ []) 9 4 4)

  -- no token: 17 at 0
  example3 : drove_in answer stack list ≡ driven1 [] 9 4 4 → Gives (stopped 17 0 0 0) (0 ∷ 9 ∷ 9 ∷ 9 ∷ []) (9 ∷ 9 ∷ 9 ∷ 9 ∷ [])
  unfolding driven1 drive_said
  example3 = by_promise (driven1 [] 9 4 4)

  -- a a: 17 at 1 after one step
  example4 : drove_in answer stack list ≡ driven1 (0 ∷ 0 ∷ []) 9 4 4 → Gives (stopped 17 1 1 0) (0 ∷ 2 ∷ 9 ∷ 9 ∷ []) (9 ∷ 9 ∷ 9 ∷ 9 ∷ [])
  unfolding driven1 drive_said
  example4 = by_promise (driven1 (0 ∷ 0 ∷ []) 9 4 4)

  -- on a, limit 2 gives 21
  example5_limit : drove_in answer stack list ≡ driven1 (0 ∷ []) 2 4 4 → Gives (stopped 21 1 2 1) (0 ∷ 1 ∷ 9 ∷ 9 ∷ []) (1 ∷ 9 ∷ 9 ∷ 9 ∷ [])
  unfolding driven1 drive_said
  example5_limit = by_promise (driven1 (0 ∷ []) 2 4 4)

  -- stack room 1 gives 20 after no step
  example5_stack : drove_in answer stack list ≡ driven1 (0 ∷ []) 9 1 4 → Gives (stopped 20 0 0 0) (0 ∷ []) (9 ∷ 9 ∷ 9 ∷ 9 ∷ [])
  unfolding driven1 drive_said
  example5_stack = by_promise (driven1 (0 ∷ []) 9 1 4)

  -- list room 1 gives 19 after two
  example5_list : drove_in answer stack list ≡ driven1 (0 ∷ []) 9 4 1 → Gives (stopped 19 1 2 1) (0 ∷ 1 ∷ 9 ∷ 9 ∷ []) (1 ∷ [])
  unfolding driven1 drive_said
  example5_list = by_promise (driven1 (0 ∷ []) 9 4 1)

  -- eight zero bytes and the record 0 r 0 0: no tokens accept in one step
  example6_accepts : drove_in answer stack list ≡ drive limits example6 (table_bytes (r 0 0 0 ∷ [])) [] 9 (replicate 4 9) (replicate 4 9)
      → Gives (accepted 1 1) (0 ∷ 9 ∷ 9 ∷ 9 ∷ []) (0 ∷ 9 ∷ 9 ∷ 9 ∷ [])
  unfolding drive_said drive limits example6 table_bytes
  example6_accepts = by_promise (drive limits example6 (table_bytes (r 0 0 0 ∷ [])) [] 9 (replicate 4 9) (replicate 4 9))
