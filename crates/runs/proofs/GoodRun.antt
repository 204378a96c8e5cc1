-- The run on the table of good states, by itself and beside Knuth's in rooms of the same size.
use Prim.Native.Nat.{ℕ, ◌<◌, ◌≤◌}
use mathlib.Core.Path.{◌≡◌, refl, sym, ap, ◌∙◌}
use mathlib.Core.Logic.{◌↔◌, ◌⊎◌, inl, inr, ⊎_elim}
use mathlib.Core.List.{List, ◌++◌, reverse, reverse-reverse}
use native.Mathlib.Omega.{arith}
use native.Mathlib.Decide.{dec_lt}
use lib.ListN.{length, take}
use Rattle.rules.specs.Limits.{Limits}
use Rattle.rules.specs.Records.{Grammar}
use Rattle.rules.specs.Grammar.{Symbol, start, terminal_count}
use Rattle.rules.specs.States.{State}
use Rattle.rules.specs.Run.{Table, RunResult, run}
use Rattle.rules.specs.Rooms.{overwritten}
use Rattle.rules.specs.Table.{table_of, table_in}
use Rattle.rules.specs.declared.RunEnd.{RunEnd}
use Rattle.rules.specs.declared.RunEnd.TheVariants.{Accepted, Rejected, Broken}
use Rattle.rules.specs.declared.RunAnswer.{RunAnswer}
use Rattle.knuth.specs.Rules.{Rule}
use Rattle.knuth.specs.Coded.{Checked}
use Rattle.knuth.specs.Table.{KnuthTable}
use Rattle.runs.specs.Course.{Course, Allowance, allowance_of, answer_of, course}
use Rattle.runs.specs.Sentences.{AreTokens, Sentence, OnlyDerivation, RejectedRightly, listed_of}
use Rattle.runs.specs.Good.{GoodStates, StartOnEof}
use Rattle.runs.proofs.TokenPlaces.{begins_agree}
use Rattle.runs.proofs.RunIsCourse.{run_is_course, listed_is_made}
use Rattle.runs.proofs.Soundness.{Ending, ending}
use Rattle.runs.proofs.GoodHonest.{Stacked, good_honest, good_ends_at_eof}
use Rattle.runs.proofs.KnuthRun.{course_only, course_rejects, rejected_rightly}
use Rattle.runs.proofs.Lockstep.{EndAlike, lockstep}

module _ (l : Limits) (g : Grammar) (checked : Checked l g) (a_record : 0 < length g) (w : List ℕ) (below : AreTokens g w)
    (states : List State) (good : GoodStates g states) (limit : ℕ) (stack list : List ℕ) where
  abbrev ours : Table ℕ
  ours = table_in (table_of g states)

  abbrev b : Allowance
  b = allowance_of limit stack list

  abbrev gone : Course ℕ
  gone = course ours g w b

  abbrev ran : RunResult ℕ
  ran = run ours g w limit stack list

  answer_is : ran.answer ≡ answer_of gone
  answer_is = (run_is_course ours g w limit stack list).0

  end_is : gone.end ≡ ran.answer.end
  end_is = sym (ap (λ (a : RunAnswer). a.end) answer_is)

  place_is : ran.answer.place ≡ gone.spot.place
  place_is = ap (λ (a : RunAnswer). a.place) answer_is

  good_ending : {end : RunEnd} → ran.answer.end ≡ end
      → Ending l g checked ours (Stacked g states) (good_honest g states good l checked a_record) w below end gone.spot
  good_ending e = rw (end_is ∙ e) at (ending l g checked ours (Stacked g states) (good_honest g states good l checked a_record) w below b)

  pub good_run_unbroken : StartOnEof g states → ran.answer.end ≡ Broken → ⊥
  good_run_unbroken on-eof e = good_ending e (good_ends_at_eof g states good l checked on-eof)

  -- ---- beside Knuth's
  module _ (table : Table (List Symbol)) (knuth : KnuthTable (Rule g) (start g) (terminal_count g) table)
      (stackₖ : List (List Symbol)) (same_room : length stack ≡ length stackₖ) where
    abbrev goneₖ : Course (List Symbol)
    goneₖ = course table g w b

    abbrev ranₖ : RunResult (List Symbol)
    ranₖ = run table g w limit stackₖ list

    same_allowance : allowance_of limit stackₖ list ≡ b
    same_allowance = λ i. record { stack = sym same_room i; list = length list; limit = limit }

    answerₖ_is : ranₖ.answer ≡ answer_of goneₖ
    answerₖ_is = (run_is_course table g w limit stackₖ list).0 ∙ ap (λ d. answer_of (course table g w d)) same_allowance

    listₖ_is : ranₖ.list ≡ overwritten (reverse goneₖ.spot.made) list
    listₖ_is = (run_is_course table g w limit stackₖ list).1 ∙ ap (λ d. overwritten (reverse (course table g w d).spot.made) list) same_allowance

    endₖ_is : goneₖ.end ≡ ranₖ.answer.end
    endₖ_is = sym (ap (λ (a : RunAnswer). a.end) answerₖ_is)

    alike : EndAlike l g checked states good table knuth w below b gone goneₖ
    alike = lockstep l g checked states good table knuth w below b

    pub same_unless_knuth_rejects : (ranₖ.answer.end ≡ Rejected) ⊎ ((ran.answer ≡ ranₖ.answer) × (ran.list ≡ ranₖ.list))
    same_unless_knuth_rejects = go alike
      where
        go : EndAlike l g checked states good table knuth w below b gone goneₖ → (ranₖ.answer.end ≡ Rejected) ⊎ ((ran.answer ≡ ranₖ.answer) × (ran.list ≡ ranₖ.list))
        go (inl (e, m, s, p)) = inr (
          answer_is ∙ (λ i. record { end = e i; place = p i; steps = s i; listed = length (m i) }) ∙ sym answerₖ_is,
          (run_is_course ours g w limit stack list).1 ∙ ap (λ (x : List ℕ). overwritten (reverse x) list) m ∙ sym listₖ_is,
        )
        go (inr (e, _)) = inl (sym endₖ_is ∙ e)

    -- an acceptance of ours is a sentence, which Knuth's does not reject
    accepts_with_ours : ran.answer.end ≡ Accepted → goneₖ.end ≡ Accepted
    accepts_with_ours e =
        ⊎_elim (λ (same, _, _, _). sym same ∙ end_is ∙ e)
        (λ (rejected, _). absurd (course_rejects l g checked a_record w below table knuth b rejected w gone.spot.made (good_ending e) (λ j h. refl))) alike

    accepts_with_knuths : ranₖ.answer.end ≡ Accepted → gone.end ≡ Accepted
    accepts_with_knuths e =
        ⊎_elim (λ (same, _, _, _). same ∙ endₖ_is ∙ e)
        (λ (rejected, _). let q : Accepted ≡ Rejected = sym e ∙ sym endₖ_is ∙ rejected in absurd (let z : ◌≡◌ {A = ℕ} 0 1 = cc in omega arith)) alike

    pub accept_alike : (ran.answer.end ≡ Accepted) ↔ (ranₖ.answer.end ≡ Accepted)
    accept_alike = ((λ e. sym endₖ_is ∙ accepts_with_ours e), (λ e. sym end_is ∙ accepts_with_knuths e))

    pub good_run_only : ran.answer.end ≡ Accepted → OnlyDerivation g w (reverse (listed_of ran))
    good_run_only e =
        let made : List ℕ = gone.spot.made in
        let q : reverse (listed_of ran) ≡ made = ap reverse (listed_is_made ours g w limit stack list) ∙ reverse-reverse made in
        let d : Sentence g made w = good_ending e in
        let (_, only) = course_only l g checked a_record w below table knuth b (accepts_with_ours e) in
        rw q (d, λ qs d'. only qs d' ∙ sym (only made d))

    -- Knuth's has rejected where ours has, or before
    knuth_rejects_first : ran.answer.end ≡ Rejected → (goneₖ.end ≡ Rejected) × (goneₖ.spot.place ≤ gone.spot.place)
    knuth_rejects_first e = ⊎_elim (λ (same, _, _, p). (sym same ∙ end_is ∙ e, omega arith)) (λ r. r) alike

    pub good_run_rejects : ran.answer.end ≡ Rejected → RejectedRightly g w ran.answer.place
    good_run_rejects e =
        let (rejected, h) = knuth_rejects_first e in
        let (begins, h') = good_ending e in
        rw place_is (rejected_rightly l g checked a_record w below table knuth b rejected gone.spot.place h h' begins)

    pub reject_at_one_place : ran.answer.end ≡ Rejected → ranₖ.answer.end ≡ Rejected → ran.answer.place ≡ ranₖ.answer.place
    reject_at_one_place e e' =
        let (rejected, h) = knuth_rejects_first e in
        let ((x, ps, d), h') = good_ending e in
        place_is ∙ go rejected h h' x ps d ∙ sym (ap (λ (a : RunAnswer). a.place) answerₖ_is)
      where
        k : ℕ
        k = gone.spot.place

        go : goneₖ.end ≡ Rejected → goneₖ.spot.place ≤ k → k ≤ length w → (x ps : List ℕ) → Sentence g ps (take k w ++ x) → k ≡ goneₖ.spot.place
        go rejected h h' x ps d = elim (dec_lt goneₖ.spot.place k) [
          | yes less ↦ absurd (course_rejects l g checked a_record w below table knuth b rejected (take k w ++ x) ps d (λ j i. begins_agree g w x k j (omega arith) h'))
          | no less ↦ omega arith
        ]
