-- The kinds of a record and the bytes that stand for them.
use Rattle.std.specs.Prelude.{ℕ, ◌<◌, ◌≡◌, Result, MatchResult}
use Rattle.record.specs.declared.kinds.Kind.{Kind}
use Rattle.record.specs.declared.kinds.Kind.TheVariants.{Shift, Goto, Reduce}
use Rattle.record.specs.declared.kinds.NoKind.{NoKind}

abbrev pub kind_number : Kind → ℕ
kind_number Shift = 0
kind_number Goto = 1
kind_number Reduce = 2

-- the kind that a byte stands for, or an error with a byte that stands for none
abbrev pub NamesKind : ℕ → Result Kind NoKind → Type 0
NamesKind byte r = MatchResult r (λ kind. kind_number kind ≡ byte) (λ none. (none.0 ≡ byte) × (2 < byte))
