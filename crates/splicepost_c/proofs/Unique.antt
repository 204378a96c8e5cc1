-- No second answer meets the promises of the two calls: what is returned, the rooms and every cell of the answer are determined.
use Prim.Native.Nat.{ℕ}
use mathlib.Core.Path.{◌≡◌, sym, ap, ◌∙◌}
use mathlib.Core.List.{List}
use Rattle.splicepost_c.specs.Calls.{BuildCall, DriveCall, built_in, driven_in}

module _ (returned returned' : ℕ) (answer answer' : List ℕ) where
  pub build_numbers_one : (promised : BuildCall) (table table' work work' : List ℕ) → built_in returned table work answer ≡ promised → built_in returned' table' work' answer' ≡ promised
      → (returned ≡ returned') × (table ≡ table') × (work ≡ work') × (answer ≡ answer')
  build_numbers_one promised table table' work work' e f =
      let same = e ∙ sym f in (
        ap (λ (r : BuildCall). r.returned) same,
        ap (λ (r : BuildCall). r.table) same,
        ap (λ (r : BuildCall). r.work) same,
        ap (λ (r : BuildCall). r.answer) same,
      )

  pub drive_numbers_one : (promised : DriveCall) (stack stack' list list' : List ℕ) → driven_in returned stack list answer ≡ promised → driven_in returned' stack' list' answer' ≡ promised
      → (returned ≡ returned') × (stack ≡ stack') × (list ≡ list') × (answer ≡ answer')
  drive_numbers_one promised stack stack' list list' e f =
      let same = e ∙ sym f in (
        ap (λ (r : DriveCall). r.returned) same,
        ap (λ (r : DriveCall). r.stack) same,
        ap (λ (r : DriveCall). r.list) same,
        ap (λ (r : DriveCall). r.answer) same,
      )
