-- The answers of the code with the rooms, as the results of `rules`.
use Rattle.std.specs.Prelude.{ℕ, Bool, List, get_or, leb, Result}
use Rattle.rules.specs.Run.{RunResult}
use Rattle.rules.specs.Drive.{DriveResult}
use Rattle.rules.specs.declared.RunAnswer.{RunAnswer}
use Rattle.rules.specs.declared.DriveRefusal.{DriveRefusal}

abbrev pub ran_in : RunAnswer → List ℕ → List ℕ → RunResult ℕ
ran_in answer stack list = record { answer = answer; stack = stack; list = list }

abbrev pub drove_in : Result RunAnswer DriveRefusal → List ℕ → List ℕ → DriveResult
drove_in answer stack list = record { answer = answer; stack = stack; list = list }

-- the token at place i is not below n
unfoldable pub no_token : ℕ → List ℕ → ℕ → Bool
no_token n tokens i = leb n (get_or tokens i 0)
