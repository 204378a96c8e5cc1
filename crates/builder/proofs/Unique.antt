-- No second answer meets the builder's promise: answer, table room and work room are determined.
use Prim.Native.Nat.{ℕ}
use mathlib.Core.Path.{◌≡◌, sym, ap, ◌∙◌}
use mathlib.Core.List.{List}
use Rattle.std.specs.Prelude.{Result}
use Rattle.rules.specs.Build.{BuildResult}
use Rattle.rules.specs.declared.BuildRefusal.{BuildRefusal}
use Rattle.rules.specs.declared.TableSize.{TableSize}
use Rattle.table_records.specs.Result.{gave_in}

pub build_one : (promised : BuildResult) (a b : Result TableSize BuildRefusal) (table table' work work' : List ℕ) → gave_in a table work ≡ promised → gave_in b table' work' ≡ promised
    → (a ≡ b) × (table ≡ table') × (work ≡ work')
build_one promised a b table table' work work' e f =
    let same = e ∙ sym f in
    (ap (λ (r : BuildResult). r.answer) same, ap (λ (r : BuildResult). r.table) same, ap (λ (r : BuildResult). r.work) same)
