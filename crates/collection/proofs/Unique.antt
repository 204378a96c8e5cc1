-- Two answers of a construction that meet its promise are equal, and so are the states that they leave.
use Prim.Native.Nat.{ℕ}
use mathlib.Core.Path.{◌≡◌, sym, ap, ◌∙◌}
use mathlib.Core.List.{List}
use native.Mathlib.Omega.{arith}
use lib.ListN.{length}
use Rattle.std.specs.Prelude.{Result, Ok, Err}
use Rattle.rules.specs.declared.BuildRefusal.{BuildRefusal}
use Rattle.rules.specs.States.{State, Outcome, done}
use Rattle.room.specs.Areas.{Room}
use Rattle.states.proofs.States.{states_length}
use Rattle.collection.specs.Collections.{states_to, StatesBuilt}

same_done : (a b : List State) → done a ≡ done b → a ≡ b
same_done a b e = cc

answers_same : (p q : Room) (r a : Result ℕ BuildRefusal) → states_to p r ≡ states_to q a → r ≡ a
unfolding states_to
answers_same p q (Ok count) (Ok other) e = ap Ok (sym (states_length p count) ∙ ap length (same_done _ _ e) ∙ states_length q other)
answers_same p q (Ok count) (Err why) e = let z : ◌≡◌ {A = ℕ} 0 1 = cc in absurd (omega arith)
answers_same p q (Err why) (Ok count) e = let z : ◌≡◌ {A = ℕ} 0 1 = cc in absurd (omega arith)
answers_same p q (Err why) (Err other) e = cc

module _ (bytes : List ℕ) (promised : Outcome (List State)) (v p q : Room) (r a : Result ℕ BuildRefusal) (one : StatesBuilt bytes promised v p r) (two : StatesBuilt bytes promised v q a) where
  pub same_outcome : states_to p r ≡ states_to q a
  same_outcome = one.outcome ∙ sym two.outcome

  pub same_answer : r ≡ a
  same_answer = answers_same p q r a same_outcome
