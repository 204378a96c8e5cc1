-- The rounds, turn by turn, and how many there are.
use Prim.Native.Nat.{ℕ, ◌+◌, ◌*◌, ◌-◌, ◌<◌, ◌≤◌}
use mathlib.Core.Path.{◌≡◌, refl, sym, ◌∙◌}
use mathlib.Core.Bool.{Bool, true, false, not}
use mathlib.Core.List.{List}
use native.Mathlib.Omega.{arith}
use native.Mathlib.Nat.{sub-zero, mul-le-mul}
use lib.ListN.{length}
use borrow.Author.Tests.{not-true, not-false}
use Rattle.base.specs.Loops.{until}
use Rattle.base.proofs.ListLoops.{until_turn, until_end}
use Rattle.rules.specs.Records.{Grammar, records}
use Rattle.rules.specs.Grammar.{terminal_count}
use Rattle.rules.specs.First.{Sets}
use Rattle.rules.specs.States.{State}
use Rattle.rules.specs.FinalCheck.{least_settled, least_round}
use Rattle.room.specs.Areas.{Room}
use Rattle.states.specs.StatesIn.{first_of}
use Rattle.states.proofs.Places.{end_within}
use Rattle.least_steps.specs.Least.{least_in}
use Rattle.least_steps.proofs.Frames.{few_terminals}
use Rattle.least_sets.specs.Steps.{Ready}
use Rattle.least_sets.proofs.Rests.{round_rests}

-- ---- the rounds, turn of them made
module _ (g : Grammar) (sets : Sets) (count bound turn : ℕ) (least later t : List State) (new : Bool)
    (e : until (least_settled g sets count) (least_round g sets count) (bound - turn) least ≡ t)
    (says : new ≡ not (least_settled g sets count least)) (step : later ≡ least_round g sets count least) where
  pub rounds_turn : turn < bound → not new ≡ false → until (least_settled g sets count) (least_round g sets count) (bound - (turn + 1)) later ≡ t
  rounds_turn h z =
      until_turn (least_settled g sets count) (least_round g sets count) bound turn least t later (least_settled g sets count least) h e refl
      (not-true (least_settled g sets count least) (sym says ∙ not-false new z)) step

  pub rounds_stop : not new ≡ true → later ≡ t
  rounds_stop z =
      let settled : least_settled g sets count least ≡ true = not-false (least_settled g sets count least) (sym says ∙ not-true new z) in
      step ∙ round_rests g sets count least settled
      ∙ until_end (least_settled g sets count) (least_round g sets count) bound turn least t (least_settled g sets count least) e refl settled

pub rounds_fit : (bytes : List ℕ) (n count entries : ℕ) (r : Room) → Ready bytes count r → n ≡ terminal_count (records bytes) → entries ≡ first_of r count → entries * (n + 1) ≤ 129024
rounds_fit bytes n count entries r ready named is =
    let h : entries ≤ 2048 = omega (arith, end_within (length (records bytes)) count r ready.placed) in
    let few = few_terminals bytes n ready.clean named in
    let l : n + 1 ≤ 63 = omega arith in
    let p : entries * (n + 1) ≤ 2048 * 63 = mul-le-mul h l in
    omega arith

pub rounds_begin : (g : Grammar) (sets : Sets) (n count entries : ℕ) (r : Room) → entries ≡ first_of r count
    → until (least_settled g sets count) (least_round g sets count) (entries * (n + 1) - 0) (least_in r count)
    ≡ until (least_settled g sets count) (least_round g sets count) (first_of r count * (n + 1)) (least_in r count)
rounds_begin g sets n count entries r is = rw (sub-zero, is)
