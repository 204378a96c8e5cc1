-- Laws of what the calls answer: a refusal is no result, and the sizes of one answer have the same counts.
use Prim.Native.Nat.{ℕ}
use mathlib.Core.Path.{◌≡◌, ap}
use mathlib.Core.Bool.{true≢false}
use Rattle.std.specs.Prelude.{Result, Ok, Err, is_err}
use Rattle.rules.specs.Answers.{table_size}
use Rattle.rules.specs.declared.BuildRefusal.{BuildRefusal}
use Rattle.rules.specs.declared.TableSize.{TableSize}

pub err≢ok : {A E : Type 0} (why : E) (x : A) → ◌≡◌ {A = Result A E} (Err why) (Ok x) → ⊥
err≢ok why x e = true≢false (ap is_err e)

abbrev size_or_none : Result TableSize BuildRefusal → TableSize
size_or_none (Ok size) = size
size_or_none (Err why) = table_size 0 0

pub same_size : {states count states' count' : ℕ} → ◌≡◌ {A = Result TableSize BuildRefusal} (Ok (table_size states count)) (Ok (table_size states' count'))
    → (states ≡ states') × (count ≡ count')
same_size e = (ap (λ (r : Result TableSize BuildRefusal). (size_or_none r).states) e, ap (λ (r : Result TableSize BuildRefusal). (size_or_none r).records) e)
