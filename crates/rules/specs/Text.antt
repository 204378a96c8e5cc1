-- The text that the programs print: an answer is a line, and behind the file program's "built" stands a line for each record.
--
-- S→A, A→a prints `built 3 states 4 records` and then `0 s 0 2`, `0 g 1 1`, `1 r 1 0`, `2 r 1 1`.
use Rattle.std.specs.Prelude.{ℕ, zero, suc, ◌+◌, ◌*◌, ◌/◌, ◌%◌, List, [], ◌∷◌, ◌++◌, map, take, ltb, Result, Ok, Err}
use Prim.Native.Char.{code}
use Prim.Native.String.{String, [] as ε, ◌∷◌ as ◌⊳◌}
use Rattle.base.specs.Pick.{pick}
use Rattle.base.specs.Fill.{zeros}
use Rattle.base.specs.Lists.{concat}
use Rattle.rules.specs.Limits.{limits}
use Rattle.rules.specs.Answers.{Said, coded, built, refused, accepted, stopped, build_said}
use Rattle.rules.specs.Table.{TableRecord, table_records}
use Rattle.rules.specs.Build.{BuildResult, build}
use Rattle.rules.specs.declared.BuildRefusal.{BuildRefusal}
use Rattle.rules.specs.declared.TableSize.{TableSize}

-- a text as bytes, its characters being ASCII
abbrev pub Text : Type 0
Text = List ℕ

unfoldable pub text : String → Text
text ε = []
text (c ⊳ s) = code c ∷ text s

-- the last digits of a number, at most as many as there is fuel
unfoldable pub digits : ℕ → ℕ → Text
digits zero n = []
digits (suc fuel) n =
    let last : Text = (48 + n % 10) ∷ [] in
    let more : Text = digits fuel (n / 10) ++ last in
    pick (ltb n 10) last more

-- a number has no more digits than one more than itself
unfoldable pub decimal : ℕ → Text
unfolding digits
decimal n = digits (n + 1) n

-- words with a blank between any two, and a line of them
unfoldable pub words : List Text → Text
unfolding text
words [] = []
words (w ∷ []) = w
words (w ∷ v ∷ ws) = w ++ (text " " ++ words (v ∷ ws))

unfoldable pub line : List Text → Text
unfolding words text
line ws = words ws ++ text "\n"

-- ---- an answer
unfoldable pub answer_line : Said → Text
unfolding line text decimal
answer_line coded = line (text "coded" ∷ [])
answer_line (built states records) = line (text "built" ∷ decimal states ∷ text "states" ∷ decimal records ∷ text "records" ∷ [])
answer_line (refused number place) = line (text "refused" ∷ decimal number ∷ decimal place ∷ [])
answer_line (accepted steps listed) = line (text "accepted" ∷ decimal steps ∷ decimal listed ∷ [])
answer_line (stopped number place steps listed) = line (text "refused" ∷ decimal number ∷ decimal place ∷ decimal steps ∷ decimal listed ∷ [])

-- ---- a record: state, kind (s shift, g goto, r reduce), symbol, target
unfoldable pub kind_letter : ℕ → Text
unfolding text
kind_letter zero = text "s"
kind_letter (suc zero) = text "g"
kind_letter (suc (suc kind)) = text "r"

unfoldable pub record_line : TableRecord → Text
unfolding line decimal kind_letter
record_line r = line (decimal r.state ∷ kind_letter r.kind ∷ decimal r.symbol ∷ decimal r.target ∷ [])

-- the records that were written at the front of the table room
unfoldable pub record_lines : Result TableSize BuildRefusal → List ℕ → Text
unfolding concat record_line table_records
record_lines (Ok size) table = concat (map record_line (table_records (take (8 * size.records) table)))
record_lines (Err why) table = []

-- ---- what the builder gave
unfoldable pub build_text : BuildResult → Text
unfolding answer_line build_said record_lines
build_text result = answer_line (build_said result.answer) ++ record_lines result.answer result.table

-- the file program: the grammar on standard input, in lane mode, with 65,536 bytes of table room
unfoldable pub file_text : List ℕ → Text
unfolding build_text build limits zeros
file_text bytes = build_text (build limits 0 bytes (zeros 65536) (zeros 8192))
