-- What a rejection by the driver says of the tokens, which request W14 asks for, and what more room changes: on a table that a call of the
-- builder wrote. `BuiltCall` and `driving` stand in Demands.antt, `AreTokens`, `Verdict` (accepted or rejected) and `RejectedRightly` in
-- runs/specs/Sentences.antt; proofs/Theorems.antt proves both.
use Rattle.std.specs.Prelude.{ℕ, ◌≤◌, ◌≡◌, List, length, take, Ok}
use Rattle.rules.specs.Limits.{Limits}
use Rattle.rules.specs.Records.{records}
use Rattle.rules.specs.declared.RunEnd.TheVariants.{Rejected}
use Rattle.rules.specs.declared.RunAnswer.{RunAnswer}
use Rattle.runs.specs.Sentences.{AreTokens, Verdict, RejectedRightly}
use Rattle.demands.specs.Demands.{BuiltCall, driving}

module _ (l : Limits) (bytes : List ℕ) where
  -- If the driver rejects at token k, the tokens before k begin some sentence, and no sentence begins with those and token k; if k is the
  -- end, the tokens are no sentence.
  abbrev pub RejectsRight : Type 0
  RejectsRight = (b : BuiltCall l bytes) (w : List ℕ) → AreTokens (records bytes) w → (limit : ℕ) (stack list : List ℕ) (answer : RunAnswer)
      → (driving l bytes b w limit stack list).answer ≡ Ok answer → answer.end ≡ Rejected → RejectedRightly (records bytes) w answer.place

  -- Acceptance and rejection, with list, place and steps, stay the same when stack room, list room or step limit grow.
  abbrev pub AnswersStay : Type 0
  AnswersStay = (b : BuiltCall l bytes) (w : List ℕ) → AreTokens (records bytes) w
      → (limit limit' : ℕ) (stack stack' list list' : List ℕ) (answer : RunAnswer)
      → limit ≤ limit' → length stack ≤ length stack' → length list ≤ length list'
      → let small = driving l bytes b w limit stack list in
      let large = driving l bytes b w limit' stack' list' in
      small.answer ≡ Ok answer → Verdict answer.end
      → (large.answer ≡ Ok answer) × (take answer.listed large.list ≡ take answer.listed small.list)
