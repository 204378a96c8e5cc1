-- The starred examples 1 to 11 of document 01, by computation.
use Prim.Native.Nat.{ℕ}
use mathlib.Core.Path.{◌≡◌, refl}
use mathlib.Core.List.{List, [], ◌∷◌, ◌++◌}
use lib.ListN.{length, replicate}
use Rattle.rules.specs.Limits.{limits}
use Rattle.rules.specs.Records.{records}
use Rattle.rules.specs.States.{State, Outcome, done, refused, lr0_states}
use Rattle.rules.specs.Build.{BuildResult, build}
use Rattle.rules.specs.Drive.{DriveResult, drive}
use Rattle.rules.specs.Table.{table_bytes}
use Rattle.rules.specs.Text.{text, file_text}
use Rattle.rules.specs.Answers.{Said, built, refused as refused_with, accepted, stopped, drive_said}
use Rattle.rules.proofs.Coding.{◌⟶◌, N, a, b, c, d, e, coded, said, table, s, g, r}

-- ---- 1. S→A; A→a
unfoldable pub example1 : List ℕ
example1 =
    0x00 ∷ 0x00 ∷ 0x00 ∷ 0x00 ∷ 0x00 ∷ 0x00 ∷ 0x00 ∷ 0x00 ∷
    0x00 ∷ 0x00 ∷ 0x01 ∷ 0x00 ∷ 0x00 ∷ 0x00 ∷ 0x01 ∷ 0x00 ∷
    0x01 ∷ 0x00 ∷ 0x00 ∷ 0x00 ∷ 0x00 ∷ 0x00 ∷ 0x01 ∷ 0x00 ∷
    0x01 ∷ 0x00 ∷ 0x01 ∷ 0x00 ∷ 0x01 ∷ 0x00 ∷ 0x00 ∷ 0x00 ∷
    []

example1_coded : coded ((0 ⟶ N 1 ∷ []) ∷ (1 ⟶ a ∷ []) ∷ []) ≡ example1
unfolding coded example1
example1_coded = refl

example1_said : (said 0 example1 ≡ built 3 4) × (said 1 example1 ≡ built 3 4)
unfolding said example1
example1_said = (refl, refl)

unfoldable pub example1_bytes : List ℕ
unfolding table_bytes
example1_bytes = table_bytes (s 0 0 2 ∷ g 0 1 1 ∷ r 1 1 0 ∷ r 2 1 1 ∷ [])

-- the records stand at the front of the table room, whose other bytes keep theirs, and the work room is zero as far as the builder
-- takes it
unfoldable pub built1 : ℕ → BuildResult
unfolding build limits example1
built1 mode = build limits mode example1 (replicate 40 7) (replicate 8194 9)

example1_table : ((built1 0).table ≡ example1_bytes ++ replicate 8 7) × ((built1 1).table ≡ example1_bytes ++ replicate 8 7)
unfolding built1 example1_bytes
example1_table = (refl, refl)

example1_work : ((built1 0).work ≡ replicate 8192 0 ++ replicate 2 9) × ((built1 1).work ≡ replicate 8192 0 ++ replicate 2 9)
unfolding built1
example1_work = (refl, refl)

-- what the file program prints
example1_text : file_text example1 ≡ text "built 3 states 4 records\n0 s 0 2\n0 g 1 1\n1 r 1 0\n2 r 1 1\n"
unfolding file_text example1 text
example1_text = refl

-- ---- 2 to 5. Its driver
unfoldable pub driven1 : List ℕ → ℕ → ℕ → ℕ → DriveResult
unfolding drive limits example1 example1_bytes
driven1 tokens limit stack list = drive limits example1 example1_bytes tokens limit (replicate stack 9) (replicate list 9)

unfoldable pub said1 : List ℕ → ℕ → ℕ → ℕ → Said
unfolding drive_said driven1
said1 tokens limit stack list = drive_said (driven1 tokens limit stack list).answer

-- a accepts, list 1, 0, three steps
example2 : (said1 (0 ∷ []) 9 4 4 ≡ accepted 3 2) × ((driven1 (0 ∷ []) 9 4 4).list ≡ 1 ∷ 0 ∷ 9 ∷ 9 ∷ []) × ((driven1 (0 ∷ []) 9 4 4).stack ≡ 0 ∷ 1 ∷ 9 ∷ 9 ∷ [])
unfolding said1 driven1
example2 = (refl, refl, refl)

example3 : (said1 [] 9 4 4 ≡ stopped 17 0 0 0) × ((driven1 [] 9 4 4).stack ≡ 0 ∷ 9 ∷ 9 ∷ 9 ∷ []) × ((driven1 [] 9 4 4).list ≡ 9 ∷ 9 ∷ 9 ∷ 9 ∷ [])
unfolding said1 driven1
example3 = (refl, refl, refl)

example4 : said1 (0 ∷ 0 ∷ []) 9 4 4 ≡ stopped 17 1 1 0
unfolding said1
example4 = refl

-- limit 2 gives 21; stack room 1 gives 20 after no step; list room 1 gives 19 after two
example5 : (said1 (0 ∷ []) 2 4 4 ≡ stopped 21 1 2 1) × (said1 (0 ∷ []) 9 1 4 ≡ stopped 20 0 0 0) × (said1 (0 ∷ []) 9 4 1 ≡ stopped 19 1 2 1)
unfolding said1
example5 = (refl, refl, refl)

-- ---- 6. Eight zero bytes
unfoldable pub example6 : List ℕ
example6 = replicate 8 0

example6_table : (said 0 example6 ≡ built 1 1) × (said 1 example6 ≡ built 1 1) × (table 0 example6 ≡ r 0 0 0 ∷ []) × (table 1 example6 ≡ r 0 0 0 ∷ [])
unfolding said table example6
example6_table = (refl, refl, refl, refl)

example6_run : drive_said (drive limits example6 (table_bytes (r 0 0 0 ∷ [])) [] 1 (0 ∷ []) (0 ∷ [])).answer ≡ accepted 1 1
unfolding drive_said drive limits example6 table_bytes
example6_run = refl

-- ---- 7. S'→S; S→aXc, aYd, bXd, bYc; X→e; Y→e
unfoldable pub example7 : List ℕ
unfolding coded
example7 =
    coded
    ((0 ⟶ N 1 ∷ [])
    ∷ (1 ⟶ a ∷ N 2 ∷ c ∷ [])
    ∷ (1 ⟶ a ∷ N 3 ∷ d ∷ [])
    ∷ (1 ⟶ b ∷ N 2 ∷ d ∷ [])
    ∷ (1 ⟶ b ∷ N 3 ∷ c ∷ [])
    ∷ (2 ⟶ e ∷ [])
    ∷ (3 ⟶ e ∷ [])
    ∷ [])

unfoldable pub count_of : Outcome (List State) → ℕ
count_of (done states) = length states
count_of (refused why) = 0

example7_counts : (count_of (lr0_states limits (records example7)) ≡ 13) × (said 0 example7 ≡ built 14 22)
unfolding count_of lr0_states limits records said example7
example7_counts = (refl, refl)

-- state 6 has 5 on c, 6 on d; state 13, reached from 3, has 5 on d, 6 on c
example7_lane : table 0 example7
    ≡ s 0 0 2 ∷ s 0 1 3 ∷ g 0 1 1
    ∷ r 1 5 0
    ∷ s 2 4 6 ∷ g 2 2 4 ∷ g 2 3 5
    ∷ s 3 4 13 ∷ g 3 2 7 ∷ g 3 3 8
    ∷ s 4 2 9
    ∷ s 5 3 10
    ∷ r 6 2 5 ∷ r 6 3 6
    ∷ s 7 3 11
    ∷ s 8 2 12
    ∷ r 9 5 1
    ∷ r 10 5 2
    ∷ r 11 5 3
    ∷ r 12 5 4
    ∷ r 13 2 6 ∷ r 13 3 5
    ∷ []
unfolding table example7
example7_lane = refl

-- ---- 8. S'→E; E→E a E, b: 12 in both modes; in lane mode the failed clone counts
unfoldable pub example8 : List ℕ
unfolding coded
example8 = coded ((0 ⟶ N 1 ∷ []) ∷ (1 ⟶ N 1 ∷ a ∷ N 1 ∷ []) ∷ (1 ⟶ b ∷ []) ∷ [])

example8_said : (said 0 example8 ≡ refused_with 12 2) × (said 1 example8 ≡ refused_with 12 1)
unfolding said example8
example8_said = (refl, refl)

-- ---- 9. S'→S; S→Pc, Qd, Rd, Uc; P→aX; Q→aY; R→bX; U→bY; X→e; Y→e
unfoldable pub example9 : List ℕ
unfolding coded
example9 =
    coded
    ((0 ⟶ N 1 ∷ [])
    ∷ (1 ⟶ N 2 ∷ c ∷ [])
    ∷ (1 ⟶ N 3 ∷ d ∷ [])
    ∷ (1 ⟶ N 4 ∷ d ∷ [])
    ∷ (1 ⟶ N 5 ∷ c ∷ [])
    ∷ (2 ⟶ a ∷ N 6 ∷ [])
    ∷ (3 ⟶ a ∷ N 7 ∷ [])
    ∷ (4 ⟶ b ∷ N 6 ∷ [])
    ∷ (5 ⟶ b ∷ N 7 ∷ [])
    ∷ (6 ⟶ e ∷ [])
    ∷ (7 ⟶ e ∷ [])
    ∷ [])

example9_said : (said 0 example9 ≡ refused_with 12 1) × (said 1 example9 ≡ built 18 30)
unfolding said example9
example9_said = (refl, refl)

-- ---- 10. S→A; A→A a
example10 : said 0 (coded ((0 ⟶ N 1 ∷ []) ∷ (1 ⟶ N 1 ∷ a ∷ []) ∷ [])) ≡ refused_with 8 0
unfolding said coded
example10 = refl

-- ---- 11. Length 0 and 12
example11 : (said 0 [] ≡ refused_with 3 0) × (said 0 (replicate 12 0) ≡ refused_with 3 0)
unfolding said
example11 = (refl, refl)
