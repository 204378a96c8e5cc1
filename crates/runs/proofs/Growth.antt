-- A run that accepts or rejects does so with larger rooms and a higher limit too, at the same place after the same steps, and lists the
-- same.
use Prim.Native.Nat.{ℕ, zero, suc, ◌+◌, ◌≤◌}
use mathlib.Core.Path.{◌≡◌, refl, sym, ap, ◌∙◌}
use mathlib.Core.Logic.{⊎_elim}
use mathlib.Core.Bool.{Bool, true, false, ◌&&◌}
use mathlib.Core.Option.{Option, none, some}
use mathlib.Core.List.{List, reverse}
use native.Mathlib.Omega.{arith}
use lib.ListN.{length}
use lib.Dec.{eqb, leb}
use borrow.Author.Tests.{leb-true, le-leb, eqb-true, eqb-false}
use Rattle.base.specs.Pick.{pick}
use Rattle.rules.specs.Records.{Grammar}
use Rattle.rules.specs.Run.{Act, shift, reduce, no_act, Table, run, side_length}
use Rattle.rules.specs.declared.RunEnd.{RunEnd}
use Rattle.rules.specs.declared.RunEnd.TheVariants.{Accepted, Rejected, Broken, ListFull, StackFull, StepLimit}
use Rattle.runs.specs.Course.{Spot, Turn, goes_on, stops, Course, Allowance, turns_in, allowance_of, after_end, ends_at, after_turn, opened, unopened, answer_of, act_at, goto_at}
use Rattle.runs.specs.Course.{turn_shift, turn_goto, turn_end, turn_reduce, turn_by, turn, course_from, course}
use Rattle.runs.specs.Sentences.{Verdict, listed_of}
use Rattle.runs.proofs.Choices.{picked_sooner}
use Rattle.runs.proofs.RunIsCourse.{run_is_course, listed_is_made}

-- an end that says what the tokens are; a refusal for want of room or steps does not
abbrev Decides : RunEnd → Type 0
Decides Accepted = Unit {0}
Decides Rejected = Unit {0}
Decides Broken = Unit {0}
Decides ListFull = ⊥
Decides StackFull = ⊥
Decides StepLimit = ⊥

verdict_decides : (end : RunEnd) → Verdict end → Decides end
verdict_decides end = ⊎_elim (λ e. rw e tt) (λ e. rw e tt)

-- no more is allowed in b than in b'
record Within (b b' : Allowance) : Type 0 where
  stack : b.stack ≤ b'.stack
  list : b.list ≤ b'.list
  limit : b.limit ≤ b'.limit

module _ {S : Type 0} where
  -- where the smaller allowance goes on or decides, the larger does the same
  abbrev Grown : Turn S → Turn S → Type 0
  Grown (goes_on c) t = t ≡ goes_on c
  Grown (stops end c) t = Decides end → t ≡ stops end c

-- what fills the larger fills the smaller
fills_less : (m m' k : ℕ) → m ≤ m' → leb m' k ≡ true → leb m k ≡ true
fills_less m m' k h e = le-leb m k (omega (arith, leb-true m' k e))

module _ {S : Type 0} (table : Table S) (g : Grammar) (tokens : List ℕ) (b b' : Allowance) (within : Within b b') where
  goto_grows : (p : ℕ) (o : Option S) (c : Spot S) → Grown (turn_goto table g tokens b p o c) (turn_goto table g tokens b' p o c)
  unfolding turn_goto
  goto_grows p none c = λ f. refl
  goto_grows p (some to) c =
      picked_sooner Grown _ (fills_less b.list b'.list _ within.list) (λ t f. absurd f)
      (picked_sooner Grown _ (fills_less b.stack b'.stack _ within.stack) (λ t f. absurd f) refl)

  reduce_grows : (p : ℕ) (c : Spot S) → Grown (turn_reduce table g tokens b p c) (turn_reduce table g tokens b' p c)
  unfolding turn_reduce turn_end
  reduce_grows zero c = go (eqb c.place (length tokens) && eqb (length c.cells) (side_length g 0 + 1))
    where
      accepting : Allowance → Turn S
      accepting b = pick (leb b.list (length c.made)) (stops ListFull c) (stops Accepted (after_end c))

      go : (a : Bool) → Grown (pick a (accepting b) (stops Broken c)) (pick a (accepting b') (stops Broken c))
      go true = picked_sooner Grown _ (fills_less b.list b'.list _ within.list) (λ t f. absurd f) (λ f. refl)
      go false = λ f. refl
  reduce_grows (suc p) c = go (leb (length c.cells) (side_length g (suc p)))
    where
      going : Allowance → Turn S
      going b = turn_goto table g tokens b (suc p) (goto_at table g tokens (suc p) c) c

      go : (a : Bool) → Grown (pick a (stops Broken c) (going b)) (pick a (stops Broken c) (going b'))
      go true = λ f. refl
      go false = goto_grows (suc p) (goto_at table g tokens (suc p) c) c

  turn_grows : (a : Act S) (c : Spot S) → Grown (turn_by table g tokens b a c) (turn_by table g tokens b' a c)
  unfolding turn_by turn_shift
  turn_grows no_act c = λ f. refl
  turn_grows (shift to) c =
      picked_sooner Grown _ (fills_less b.limit b'.limit _ within.limit) (λ t f. absurd f)
      (picked_sooner Grown _ (fills_less b.stack b'.stack _ within.stack) (λ t f. absurd f) refl)
  turn_grows (reduce p) c = picked_sooner Grown _ (fills_less b.limit b'.limit _ within.limit) (λ t f. absurd f) (reduce_grows p c)

  course_from_grows : (fuel fuel' : ℕ) (c : Spot S) → fuel ≤ fuel' → Decides (course_from table g tokens b fuel c).end
      → course_from table g tokens b' fuel' c ≡ course_from table g tokens b fuel c
  unfolding course_from turn
  course_from_grows zero fuel' c h f = absurd f
  course_from_grows (suc fuel) zero c h f = absurd (omega arith)
  course_from_grows (suc fuel) (suc fuel') c h f =
      go (turn table g tokens b c) (turn table g tokens b' c) (turn_grows (act_at table g tokens c) c) f (course_from_grows fuel fuel')
    where
      go : (t t' : Turn S) → Grown t t' → Decides (after_turn (course_from table g tokens b fuel) t).end
          → ((c : Spot S) → fuel ≤ fuel' → Decides (course_from table g tokens b fuel c).end → course_from table g tokens b' fuel' c ≡ course_from table g tokens b fuel c)
          → after_turn (course_from table g tokens b' fuel') t' ≡ after_turn (course_from table g tokens b fuel) t
      go (goes_on c') t' e f more = ap (after_turn (course_from table g tokens b' fuel')) e ∙ more c' (omega arith) f
      go (stops end c') t' e f more = ap (after_turn (course_from table g tokens b' fuel')) (e f)

  course_grows : Decides (course table g tokens b).end → course table g tokens b' ≡ course table g tokens b
  unfolding course
  course_grows f = go (eqb b.stack 0) (eqb b'.stack 0) refl refl f
    where
      small : Course S
      small = course_from table g tokens b (turns_in b) (opened table)

      large : Course S
      large = course_from table g tokens b' (turns_in b') (opened table)

      go : (t t' : Bool) → eqb b.stack 0 ≡ t → eqb b'.stack 0 ≡ t' → Decides (pick t (ends_at StackFull unopened) small).end
          → pick t' (ends_at StackFull unopened) large ≡ pick t (ends_at StackFull unopened) small
      go true t' e e' f = absurd f
      go false true e e' f = absurd (eqb-false b.stack 0 e (omega (arith, eqb-true b'.stack 0 e', within.stack)))
      go false false e e' f = course_from_grows (turns_in b) (turns_in b') (opened table) (omega (arith, within.limit)) f

-- ---- the run
pub run_grows : {S : Type 0} (table : Table S) (g : Grammar) (tokens : List ℕ) (limit limit' : ℕ) (stack stack' : List S) (list list' : List ℕ)
    → limit ≤ limit' → length stack ≤ length stack' → length list ≤ length list'
    → let small = run table g tokens limit stack list in
    let large = run table g tokens limit' stack' list' in
    Verdict small.answer.end → (large.answer ≡ small.answer) × (listed_of large ≡ listed_of small)
run_grows {S} table g tokens limit limit' stack stack' list list' h₁ h₂ h₃ v =
    let b : Allowance = allowance_of limit stack list in
    let b' : Allowance = allowance_of limit' stack' list' in
    let e = (run_is_course table g tokens limit stack list).0 in
    let e' = (run_is_course table g tokens limit' stack' list').0 in
    let within : Within b b' = record { stack = h₂; list = h₃; limit = h₁ } in
    let same : course table g tokens b' ≡ course table g tokens b = course_grows table g tokens b b' within (rw e at (verdict_decides _ v)) in (
      e' ∙ ap answer_of same ∙ sym e,
      listed_is_made table g tokens limit' stack' list' ∙ ap (λ (r : Course S). reverse r.spot.made) same ∙ sym (listed_is_made table g tokens limit stack list),
    )
