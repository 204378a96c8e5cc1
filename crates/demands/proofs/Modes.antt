-- What either mode gives: good states, within the limit, that reduce production 0 on Eof alone. So the grammar is LR(1).
use Prim.Native.Nat.{ℕ, zero, suc, ◌<◌, ◌≤◌}
use mathlib.Core.Path.{◌≡◌}
use mathlib.Core.List.{List}
use native.Mathlib.Omega.{arith}
use lib.ListN.{length}
use Rattle.std.specs.Prelude.{Ok}
use Rattle.rules.specs.Limits.{Limits}
use Rattle.rules.specs.Records.{Grammar, records}
use Rattle.rules.specs.Grammar.{grammar_answer}
use Rattle.rules.specs.First.{first_sets}
use Rattle.rules.specs.States.{State, done, canonical}
use Rattle.rules.specs.Merge.{lanes}
use Rattle.rules.specs.FinalCheck.{checked as final_checked}
use Rattle.rules.specs.Build.{constructed}
use Rattle.knuth.specs.Coded.{Checked}
use Rattle.knuth.specs.LR1.{IsLR1}
use Rattle.knuth.proofs.Coded.{coded_is_checked, coded_has_a_record}
use Rattle.knuth.proofs.Theorems.{LR1_is_no_conflict}
use Rattle.walks.proofs.Outcomes.{holds_done}
use Rattle.walks.proofs.Resolve.{lanes_keep}
use Rattle.fuel.proofs.Visits.{Few, resolve_few}
use Rattle.runs.specs.Good.{GoodStates, StartOnEof}
use Rattle.runs.proofs.GoodClear.{good_clear}
use Rattle.demands.proofs.Canonical.{given_automaton, canonical_states_good, canonical_states_on_eof}
use Rattle.demands.proofs.LR0.{lr0_states_few}
use Rattle.demands.proofs.LaneGood.{check_gives, lane_states_good}
use Rattle.demands.proofs.OnEof.{lane_states_on_eof}

-- what is so in lane mode and in canonical mode
by_mode : (P : Type 0) (l : Limits) (g : Grammar) (states : List State) → (final_checked g (lanes l g) ≡ done states → P) → (canonical l g ≡ done states → P)
    → (mode : ℕ) → constructed l g mode ≡ done states → P
unfolding constructed
by_mode P l g states lane canon zero e = lane e
by_mode P l g states lane canon (suc zero) e = canon e
by_mode P l g states lane canon (suc (suc mode)) e = absurd (let z : ◌≡◌ {A = ℕ} 0 1 = cc in omega arith)

module _ (l : Limits) (a-state : 0 < l.states) (bytes : List ℕ) (coded : grammar_answer l bytes ≡ Ok tt)
    (states : List State) (mode : ℕ) (gives : constructed l (records bytes) mode ≡ done states) where
  abbrev g : Grammar
  g = records bytes

  fine : Checked l g
  fine = coded_is_checked l bytes coded

  a_record : 0 < length g
  a_record = coded_has_a_record l bytes coded

  pub constructed_good : GoodStates g states
  constructed_good =
      by_mode (GoodStates g states) l g states
      (lane_states_good l g fine a_record states a-state) (canonical_states_good l g fine a_record a-state states) mode gives

  pub constructed_few : length states ≤ l.states
  constructed_few =
      let lanes-few = lanes_keep l g (Few l g) (resolve_few l g (first_sets g)) (lr0_states_few g l a-state) in
      by_mode (length states ≤ l.states) l g states
      (λ e. holds_done (Few l g) states (lanes l g) (check_gives g states (lanes l g) e).0 lanes-few)
      (λ e. (given_automaton l g fine a_record a-state states e).1.few) mode gives

  pub constructed_on_eof : StartOnEof g states
  constructed_on_eof =
      by_mode (StartOnEof g states) l g states
      (lane_states_on_eof l g fine a_record a-state states) (canonical_states_on_eof l g fine a_record a-state states) mode gives

  pub constructed_LR1 : IsLR1 g
  constructed_LR1 = (LR1_is_no_conflict bytes l coded).1 (good_clear g states constructed_good)
