-- Grammars written as productions, and their bytes, for the examples.
use Prim.Native.Nat.{ℕ, suc}
use mathlib.Core.List.{List, [], ◌∷◌, ◌++◌}
use lib.ListN.{replicate}
use Rattle.rules.specs.Grammar.{Symbol, nonterminal, terminal}
use Rattle.rules.specs.Table.{TableRecord, table_of, two_bytes}
use Rattle.rules.specs.Records.{records}
use Rattle.rules.specs.States.{State, Outcome, done, refused}
use Rattle.rules.specs.Limits.{limits}
use Rattle.rules.specs.Build.{build, constructed}
use Rattle.rules.specs.Answers.{Said, build_said}

infix 4 ◌⟶◌
pub record Production : Type 0 where
  pub left : ℕ
  pub right : List Symbol

abbrev pub ◌⟶◌ : ℕ → List Symbol → Production
left ⟶ right = record { left = left; right = right }

-- terminals by letter, nonterminals by number
abbrev pub N : ℕ → Symbol
N k = nonterminal k

abbrev pub a : Symbol
a = terminal 0

abbrev pub b : Symbol
b = terminal 1

abbrev pub c : Symbol
c = terminal 2

abbrev pub d : Symbol
d = terminal 3

abbrev pub e : Symbol
e = terminal 4

abbrev pub f : Symbol
f = terminal 5

-- ---- bytes
unfoldable pub record_for : ℕ → ℕ → ℕ → ℕ → List ℕ
unfolding two_bytes
record_for production position kind symbol = two_bytes production ++ (two_bytes position ++ (kind ∷ 0 ∷ two_bytes symbol))

-- the right side from a position on
unfoldable pub side_bytes : ℕ → ℕ → List Symbol → List ℕ
unfolding record_for
side_bytes p position [] = []
side_bytes p position (nonterminal x ∷ xs) = record_for p position 0 x ++ side_bytes p (suc position) xs
side_bytes p position (terminal t ∷ xs) = record_for p position 1 t ++ side_bytes p (suc position) xs

-- the productions from number p on
unfoldable pub coded_from : ℕ → List Production → List ℕ
unfolding record_for side_bytes
coded_from p [] = []
coded_from p (q ∷ qs) = record_for p 0 0 q.left ++ (side_bytes p 1 q.right ++ coded_from (suc p) qs)

unfoldable pub coded : List Production → List ℕ
unfolding coded_from
coded qs = coded_from 0 qs

-- ---- what the builder says with ample room, and the records that it writes
unfoldable pub said : ℕ → List ℕ → Said
unfolding build build_said limits
said mode bytes = build_said (build limits mode bytes (replicate 1024 0) (replicate 8192 0)).answer

unfoldable pub records_in : List ℕ → Outcome (List State) → List TableRecord
unfolding table_of records
records_in bytes (done states) = table_of (records bytes) states
records_in bytes (refused why) = []

unfoldable pub table : ℕ → List ℕ → List TableRecord
unfolding records_in constructed records limits
table mode bytes = records_in bytes (constructed limits (records bytes) mode)

-- a record as the file program prints it: state, kind, symbol, target
abbrev pub s : ℕ → ℕ → ℕ → TableRecord
s state symbol target = record { state = state; kind = 0; zero_byte = 0; symbol = symbol; target = target }

abbrev pub g : ℕ → ℕ → ℕ → TableRecord
g state symbol target = record { state = state; kind = 1; zero_byte = 0; symbol = symbol; target = target }

abbrev pub r : ℕ → ℕ → ℕ → TableRecord
r state symbol target = record { state = state; kind = 2; zero_byte = 0; symbol = symbol; target = target }
