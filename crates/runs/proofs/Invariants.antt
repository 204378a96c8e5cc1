-- What every turn of a course keeps holds to its end.
use Prim.Native.Nat.{ℕ, zero, suc, ◌+◌, ◌<◌, ◌≤◌}
use mathlib.Core.Path.{◌≡◌, refl}
use mathlib.Core.Bool.{◌&&◌, true≢false}
use mathlib.Core.Option.{Option, none, some}
use mathlib.Core.List.{List}
use native.Mathlib.Omega.{arith}
use lib.ListN.{length}
use lib.Dec.{eqb, leb}
use borrow.Author.Tests.{leb-true, leb-false, eqb-true, eq-eqb}
use Rattle.base.proofs.Tests.{both_true}
use Rattle.rules.specs.Records.{Grammar}
use Rattle.rules.specs.Run.{Act, shift, reduce, no_act, Table, side_length}
use Rattle.rules.specs.declared.RunEnd.{RunEnd}
use Rattle.rules.specs.declared.RunEnd.TheVariants.{Accepted, Rejected, Broken, ListFull, StackFull, StepLimit}
use Rattle.runs.specs.Course.{Spot, Turn, goes_on, stops, Course, Allowance, turns_in, after_shift, after_reduce, after_end, after_turn, opened, unopened, act_at, goto_at}
use Rattle.runs.specs.Course.{turn_shift, turn_goto, turn_end, turn_reduce, turn_by, turn, course_from, course}
use Rattle.runs.proofs.Choices.{picked}

module _ {S : Type 0} (table : Table S) (g : Grammar) (tokens : List ℕ) where
  -- production p is to be reduced at c
  abbrev Reducing : ℕ → Spot S → Type 0
  Reducing p c = act_at table g tokens c ≡ reduce p

  -- Inv holds at every spot, and where the course ends Out holds of the end and the spot
  pub record Invariant (Inv : Spot S → Type 0) (Out : RunEnd → Spot S → Type 0) : Type 0 where
    pub stack_full_lem : (c : Spot S) → Inv c → Out StackFull c
    pub list_full : (c : Spot S) → Inv c → Out ListFull c
    pub step_limit : (c : Spot S) → Inv c → Out StepLimit c
    pub rejects : (c : Spot S) → Inv c → act_at table g tokens c ≡ no_act → Out Rejected c
    pub shifts : (c : Spot S) (to : S) → Inv c → act_at table g tokens c ≡ shift to → Inv (after_shift to c)
    -- the three ways to 18: a pop past the bottom, no goto, and production 0 off Eof or with more than state 0 left
    pub too_short : (c : Spot S) (p : ℕ) → Inv c → Reducing (suc p) c → length c.cells ≤ side_length g (suc p) → Out Broken c
    pub goes_nowhere : (c : Spot S) (p : ℕ) → Inv c → Reducing (suc p) c → side_length g (suc p) < length c.cells
        → goto_at table g tokens (suc p) c ≡ none → Out Broken c
    pub not_ended : (c : Spot S) → Inv c → Reducing 0 c → (c.place ≡ length tokens → length c.cells ≡ side_length g 0 + 1 → ⊥) → Out Broken c
    pub reduces : (c : Spot S) (p : ℕ) (to : S) → Inv c → Reducing (suc p) c → side_length g (suc p) < length c.cells
        → goto_at table g tokens (suc p) c ≡ some to → Inv (after_reduce (suc p) (side_length g (suc p)) to c)
    pub accepts : (c : Spot S) → Inv c → Reducing 0 c → c.place ≡ length tokens → length c.cells ≡ side_length g 0 + 1 → Out Accepted (after_end c)

  -- the place never falls
  pub place_never_falls : (k : ℕ) → Invariant (λ c. k ≤ c.place) (λ end c. k ≤ c.place)
  place_never_falls k = record {
    stack_full_lem = λ c h. h;
    list_full = λ c h. h;
    step_limit = λ c h. h;
    rejects = λ c h e. h;
    shifts = λ c to h e. omega arith;
    too_short = λ c p h e q. h;
    goes_nowhere = λ c p h e q r. h;
    not_ended = λ c h e q. h;
    reduces = λ c p to h e q r. h;
    accepts = λ c h e q r. h;
  }

  module _ (b : Allowance) (Inv : Spot S → Type 0) (Out : RunEnd → Spot S → Type 0) (keeps : Invariant Inv Out) where
    abbrev HoldsAfter : Turn S → Type 0
    HoldsAfter (goes_on c) = Inv c
    HoldsAfter (stops end c) = Out end c

    module _ (c : Spot S) (i : Inv c) where
      keeps_goto : (p : ℕ) (o : Option S) → Reducing (suc p) c → side_length g (suc p) < length c.cells → goto_at table g tokens (suc p) c ≡ o
          → HoldsAfter (turn_goto table g tokens b (suc p) o c)
      unfolding turn_goto
      keeps_goto p none a h e = keeps.goes_nowhere c p i a h e
      keeps_goto p (some to) a h e =
          picked HoldsAfter (leb b.list (length c.made)) (λ f. keeps.list_full c i)
          (λ f. picked HoldsAfter (leb b.stack _) (λ f'. keeps.stack_full_lem c i) (λ f'. keeps.reduces c p to i a h e))

      keeps_end : Reducing 0 c → HoldsAfter (turn_end table g tokens b c)
      unfolding turn_end
      keeps_end a =
          let n : ℕ = length tokens in
          let m : ℕ = side_length g 0 + 1 in
          picked HoldsAfter (eqb c.place n && eqb (length c.cells) m)
          (λ f.
          let (f₁, f₂) = both_true (eqb c.place n) (eqb (length c.cells) m) f in
          picked HoldsAfter (leb b.list (length c.made)) (λ f'. keeps.list_full c i)
          (λ f'. keeps.accepts c i a (eqb-true c.place n f₁) (eqb-true (length c.cells) m f₂)))
          (λ f. keeps.not_ended c i a (λ e₁ e₂. true≢false (rw (eq-eqb c.place n e₁, eq-eqb (length c.cells) m e₂) at f)))

      keeps_reduce : (p : ℕ) → Reducing p c → HoldsAfter (turn_reduce table g tokens b p c)
      unfolding turn_reduce
      keeps_reduce zero a = keeps_end a
      keeps_reduce (suc p) a =
          let m : ℕ = side_length g (suc p) in
          picked HoldsAfter (leb (length c.cells) m) (λ f. keeps.too_short c p i a (leb-true (length c.cells) m f))
          (λ f. keeps_goto p _ a (leb-false (length c.cells) m f) refl)

      keeps_by : (a : Act S) → act_at table g tokens c ≡ a → HoldsAfter (turn_by table g tokens b a c)
      unfolding turn_by turn_shift
      keeps_by no_act e = keeps.rejects c i e
      keeps_by (shift to) e =
          picked HoldsAfter (leb b.limit c.steps) (λ f. keeps.step_limit c i)
          (λ f. picked HoldsAfter (leb b.stack (length c.cells)) (λ f'. keeps.stack_full_lem c i) (λ f'. keeps.shifts c to i e))
      keeps_by (reduce p) e = picked HoldsAfter (leb b.limit c.steps) (λ f. keeps.step_limit c i) (λ f. keeps_reduce p e)

      keeps_turn : HoldsAfter (turn table g tokens b c)
      unfolding turn
      keeps_turn = keeps_by (act_at table g tokens c) refl

    -- Out of how and where a course ended
    abbrev OutAt : Course S → Type 0
    OutAt r = Out r.end r.spot

    pub course_from_keeps : (fuel : ℕ) (c : Spot S) → Inv c → OutAt (course_from table g tokens b fuel c)
    unfolding course_from
    course_from_keeps zero c i = keeps.step_limit c i
    course_from_keeps (suc fuel) c i = go (turn table g tokens b c) (keeps_turn c i) (course_from_keeps fuel)
      where
        go : (t : Turn S) → HoldsAfter t → ((c : Spot S) → Inv c → OutAt (course_from table g tokens b fuel c)) → OutAt (after_turn (course_from table g tokens b fuel) t)
        go (goes_on c') k more = more c' k
        go (stops end c') k more = k

    -- the whole course, which with no room for a state ends before it begins
    pub course_keeps : Inv (opened table) → Out StackFull unopened → OutAt (course table g tokens b)
    unfolding course
    course_keeps i shut = picked OutAt (eqb b.stack 0) (λ f. shut) (λ f. course_from_keeps (turns_in b) (opened table) i)
