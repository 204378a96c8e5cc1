-- Knuth's run by itself: what it lists when it accepts is the only derivation, it rejects rightly, and it is never broken.
use Prim.Native.Nat.{ℕ, ◌+◌, ◌<◌, ◌≤◌}
use mathlib.Core.Path.{◌≡◌, refl, sym, ap, ◌∙◌}
use mathlib.Core.List.{List, ◌++◌, reverse, reverse-reverse}
use native.Mathlib.Omega.{arith}
use lib.ListN.{length, take}
use Rattle.rules.specs.Limits.{Limits}
use Rattle.rules.specs.Records.{Grammar}
use Rattle.rules.specs.Grammar.{Symbol, start, terminal_count}
use Rattle.rules.specs.Run.{Table, RunResult, run}
use Rattle.rules.specs.declared.RunEnd.{RunEnd}
use Rattle.rules.specs.declared.RunEnd.TheVariants.{Accepted, Rejected, Broken}
use Rattle.rules.specs.declared.RunAnswer.{RunAnswer}
use Rattle.knuth.specs.Rules.{Rule}
use Rattle.knuth.specs.Coded.{Checked}
use Rattle.knuth.specs.Table.{KnuthTable}
use Rattle.runs.specs.Course.{Course, Allowance, allowance_of, course}
use Rattle.runs.specs.Sentences.{AreTokens, Sentence, Beginning, OnlyDerivation, RejectedRightly, listed_of}
use Rattle.runs.proofs.TokenPlaces.{begins_agree}
use Rattle.runs.proofs.RunIsCourse.{run_is_course, listed_is_made}
use Rattle.runs.proofs.Soundness.{Ending, ending}
use Rattle.runs.proofs.Completeness.{Agrees, TrackedTo, knuth_tracks}
use Rattle.runs.proofs.KnuthHonest.{Spelt, knuth_honest, knuth_ends_at_eof}

module _ (l : Limits) (g : Grammar) (checked : Checked l g) (a_record : 0 < length g) (w : List ℕ) (below : AreTokens g w)
    (table : Table (List Symbol)) (knuth : KnuthTable (Rule g) (start g) (terminal_count g) table) where
  -- ---- the course
  module _ (b : Allowance) where
    abbrev gone : Course (List Symbol)
    gone = course table g w b

    knuth_ending : {end : RunEnd} → gone.end ≡ end
        → Ending l g checked table (Spelt g table knuth) (knuth_honest g table knuth l checked a_record) w below end gone.spot
    knuth_ending e =
        let honest = knuth_honest g table knuth l checked a_record in
        rw e at (ending l g checked table (Spelt g table knuth) honest w below b)

    tracked : {end : RunEnd} → gone.end ≡ end → (w' ds : List ℕ) → Sentence g ds w' → TrackedTo l g checked table knuth w w' ds end gone.spot
    tracked e w' ds d = rw e at (knuth_tracks l g checked table knuth w w' ds d b)

    pub course_only : gone.end ≡ Accepted → OnlyDerivation g w gone.spot.made
    course_only e = (knuth_ending e, λ qs d. sym (tracked e w qs d (λ j h. refl)))

    -- no sentence agrees with w through the place of a rejection
    pub course_rejects : gone.end ≡ Rejected → (w' ds : List ℕ) → Sentence g ds w' → Agrees l g checked table knuth w w' ds gone.spot.place → ⊥
    course_rejects e = tracked e

    -- so a rejection is right wherever it is given from there on, if what comes before begins a sentence
    pub rejected_rightly : gone.end ≡ Rejected → (k : ℕ) → gone.spot.place ≤ k → k ≤ length w → Beginning g (take k w) → RejectedRightly g w k
    rejected_rightly e k h h' begins = record {
      within = h';
      begins = begins;
      no_token_lem = λ q (x, ps, d). course_rejects e (take (k + 1) w ++ x) ps d (λ j i. begins_agree g w x (k + 1) j (omega arith) (omega arith));
      no_end = λ q ps d. course_rejects e w ps d (λ j i. refl);
    }

  -- ---- the run
  module _ (limit : ℕ) (stack : List (List Symbol)) (list : List ℕ) where
    abbrev b : Allowance
    b = allowance_of limit stack list

    abbrev ran : RunResult (List Symbol)
    ran = run table g w limit stack list

    end_is : (gone b).end ≡ ran.answer.end
    end_is = sym (ap (λ (a : RunAnswer). a.end) (run_is_course table g w limit stack list).0)

    pub knuth_run_only : ran.answer.end ≡ Accepted → OnlyDerivation g w (reverse (listed_of ran))
    knuth_run_only e =
        let q : reverse (listed_of ran) ≡ (gone b).spot.made = ap reverse (listed_is_made table g w limit stack list) ∙ reverse-reverse (gone b).spot.made in
        rw q (course_only b (end_is ∙ e))

    pub knuth_run_rejects : ran.answer.end ≡ Rejected → RejectedRightly g w ran.answer.place
    knuth_run_rejects e =
        let e' : (gone b).end ≡ Rejected = end_is ∙ e in
        let (begins, h) = knuth_ending b e' in
        rw (ap (λ (a : RunAnswer). a.place) (run_is_course table g w limit stack list).0) (rejected_rightly b e' (gone b).spot.place (omega arith) h begins)

    pub knuth_run_unbroken : ran.answer.end ≡ Broken → ⊥
    knuth_run_unbroken e = knuth_ending b (end_is ∙ e) (knuth_ends_at_eof g table knuth l checked)
