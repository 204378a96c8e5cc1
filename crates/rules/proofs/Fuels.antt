-- Small inputs that want the fuel that a call gives, by computation: with a shorter one the answer is another. Example 8 is one for the
-- walk of the merge, the examples as they stand for the rounds of refusal 8 and the limit of a run.
use Prim.Native.Nat.{ℕ}
use mathlib.Core.Path.{◌≡◌, refl}
use mathlib.Core.List.{List, [], ◌∷◌}
use lib.ListN.{set, replicate}
use Rattle.rules.specs.Limits.{Limits, limits}
use Rattle.rules.specs.Records.{records}
use Rattle.rules.specs.First.{first_sets}
use Rattle.rules.specs.States.{State, Outcome, done, refused}
use Rattle.rules.specs.Merge.{lanes}
use Rattle.rules.specs.FinalCheck.{checked}
use Rattle.rules.specs.Build.{build}
use Rattle.rules.specs.Answers.{built, build_said}
use Rattle.rules.specs.declared.BuildRefusal.TheVariants.{FinalCheck}
use Rattle.rules.proofs.Coding.{◌⟶◌, N, a, coded, said}
use Rattle.rules.proofs.Examples.{example1}

-- ---- turns: with room for just 3 states, example 1 is built, each of its states expanded and visited
unfoldable three_states : Limits
three_states = record { terminals = 62; nonterminals = 64; productions = 128; symbols = 16; bytes = 4096; states = 3; items = 2048; actions = 16; work = 8192 }

just_room : build_said (build three_states 0 example1 (replicate 64 0) (replicate 8192 0)).answer ≡ built 3 4
unfolding build_said build three_states example1
just_room = refl

-- ---- S→A; A→Aa, : FIRST takes 3 rounds for 2 nonterminals, and a trace 4 calls, each within the one before, for 3 states
unfoldable left_recursive : List ℕ
unfolding coded
left_recursive = coded ((0 ⟶ N 1 ∷ []) ∷ (1 ⟶ N 1 ∷ a ∷ []) ∷ (1 ⟶ []) ∷ [])

first_takes_rounds : first_sets (records left_recursive) ≡ 3 ∷ 3 ∷ []
unfolding first_sets records left_recursive
first_takes_rounds = refl

trace_takes_calls : said 0 left_recursive ≡ built 3 7
unfolding said left_recursive
trace_takes_calls = refl

-- ---- S→A; B→Aa; C→B; D→C; A→, D: a closure takes 6 rounds for 5 nonterminals, and the least sets 7 for 6 states
unfoldable chain : List ℕ
unfolding coded
chain = coded ((0 ⟶ N 1 ∷ []) ∷ (2 ⟶ N 1 ∷ a ∷ []) ∷ (3 ⟶ N 2 ∷ []) ∷ (4 ⟶ N 3 ∷ []) ∷ (1 ⟶ []) ∷ (1 ⟶ N 4 ∷ []) ∷ [])

closure_takes_rounds : said 1 chain ≡ built 6 16
unfolding said chain
closure_takes_rounds = refl

-- state 5 has B→Aa·, which is to be reduced on a too
unfoldable without_a : Outcome (List State) → Outcome (List State)
without_a (done states) = done (set states 5 (record { item = 4; next = 0; set = 2 } ∷ []))
without_a (refused why) = refused why

least_sets_take_rounds : checked (records chain) (without_a (lanes limits (records chain))) ≡ refused (FinalCheck (record { 0 = 5 }))
unfolding checked records chain without_a lanes limits
least_sets_take_rounds = refl
