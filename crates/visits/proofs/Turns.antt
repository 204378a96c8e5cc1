-- The visits turn by turn: what is left of them gives the same outcome.
use Prim.Native.Nat.{ℕ, suc, ◌+◌, ◌-◌, ◌<◌, ◌≤◌}
use mathlib.Core.Path.{◌≡◌, refl, sym, ap, ◌∙◌}
use mathlib.Core.Bool.{Bool, true, false}
use mathlib.Core.List.{List}
use native.Mathlib.Omega.{arith}
use lib.ListN.{length}
use lib.Dec.{ltb}
use borrow.Author.Tests.{lt-ltb, le-ltb}
use Rattle.rules.specs.Limits.{limits, max_states}
use Rattle.rules.specs.Records.{records}
use Rattle.rules.specs.First.{first_sets}
use Rattle.rules.specs.States.{State, Outcome, done, refused}
use Rattle.rules.specs.Merge.{resolve, resolve_from, resolve_all}

-- the visits from state s on, with the fuel that is left when the states before it were visited
unfoldable pub visit_rest : List ℕ → ℕ → List State → Outcome (List State)
visit_rest bytes s states = resolve_from limits (records bytes) (first_sets (records bytes)) (max_states + 1 - s) s states

pub visits_begin : (bytes : List ℕ) (states : List State) → resolve_all limits (records bytes) (done states) ≡ visit_rest bytes 0 states
unfolding visit_rest resolve_all limits
visits_begin bytes states = refl

module _ (bytes : List ℕ) (s : ℕ) (states : List State) (room : s ≤ max_states) where
  abbrev next : Outcome (List State) → Outcome (List State)
  next o = elim o [ done after ↦ visit_rest bytes (suc s) after | refused why ↦ refused why ]

  abbrev turn : Bool → Outcome (List State)
  turn more = elim more [ true ↦ next (resolve limits (records bytes) (first_sets (records bytes)) s states) | false ↦ done states ]

  visit_is : visit_rest bytes s states ≡ turn (ltb s (length states))
  unfolding visit_rest resolve_from
  visit_is =
      let fuel : max_states + 1 - s ≡ suc (max_states + 1 - suc s) = omega arith in
      ap (λ f. resolve_from limits (records bytes) (first_sets (records bytes)) f s states) fuel

  pub visit_ends : length states ≤ s → visit_rest bytes s states ≡ done states
  visit_ends h = visit_is ∙ ap turn (le-ltb s (length states) h)

  module _ (low : s < length states) (o : Outcome (List State)) (came : o ≡ resolve limits (records bytes) (first_sets (records bytes)) s states) where
    visit_goes : visit_rest bytes s states ≡ next o
    visit_goes = visit_is ∙ ap turn (lt-ltb s (length states) low) ∙ ap next (sym came)

    pub visit_done : (after : List State) → o ≡ done after → visit_rest bytes s states ≡ visit_rest bytes (suc s) after
    visit_done after e = visit_goes ∙ ap next e

    pub visit_refused : (why : _) → o ≡ refused why → visit_rest bytes s states ≡ refused why
    visit_refused why e = visit_goes ∙ ap next e
