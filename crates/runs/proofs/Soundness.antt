-- What a run on an honest table has read, the symbols on its stack derive by the productions that it has listed. So it accepts sentences
-- only, what stands before the place of a rejection begins a sentence, and no reduction finds the stack too short or without a goto.
use Prim.Native.Nat.{ℕ, suc, ◌+◌, ◌<◌, ◌≤◌}
use mathlib.Core.Path.{◌≡◌, refl, sym, ap, ◌∙◌}
use mathlib.Core.Option.{some}
use mathlib.Core.List.{List, [], ◌∷◌, ◌++◌, reverse, append-nil, reverse_aux-eq}
use native.Mathlib.Omega.{arith}
use lib.ListN.{length, take, drop, length-reverse}
use lib.Seq.{take-length}
use Rattle.rules.specs.Limits.{Limits}
use Rattle.rules.specs.Records.{Grammar}
use Rattle.rules.specs.Grammar.{Symbol, nonterminal, terminal, start, terminal_count, left_of}
use Rattle.rules.specs.Run.{shift, reduce, Table, side_length, token_at}
use Rattle.rules.specs.declared.RunEnd.{RunEnd}
use Rattle.rules.specs.declared.RunEnd.TheVariants.{Accepted, Rejected, Broken, ListFull, StackFull, StepLimit}
use Rattle.knuth.specs.Rules.{Rule}
use Rattle.knuth.specs.Coded.{Checked}
use Rattle.knuth.specs.Derivations.{tokens, Derives, done, step}
use Rattle.knuth.proofs.Derivations.{tokens_append, derives_then, derives_between}
use Rattle.knuth.proofs.Productive.{fruitful_behind, fruitful_derives_tokens}
use Rattle.knuth.proofs.Items.{at→valid, valid_used}
use Rattle.knuth.proofs.Coded.{checked_productive}
use Rattle.runs.specs.Course.{Spot, Allowance, after_shift, after_reduce, act_at, goto_at, course}
use Rattle.runs.specs.Sentences.{AreTokens, Sentence, Beginning}
use Rattle.runs.specs.Honest.{Viable, Honest, EndsAtEof}
use Rattle.runs.proofs.ProductionNumbers.{side_length_lem}
use Rattle.runs.proofs.TokenPlaces.{token_within, eof_at_end, taken_one}
use Rattle.runs.proofs.Sources.{source, start_item, popped}
use Rattle.runs.proofs.Invariants.{Invariant, course_keeps}

module _ (l : Limits) (g : Grammar) (checked : Checked l g) where
  abbrev S : ℕ
  S = start g

  abbrev Eof : ℕ
  Eof = terminal_count g

  -- a viable stack whose symbols derive u: u begins a sentence
  begins_sentence : {γ : List Symbol} {ps : List ℕ} (u : List ℕ) → Viable g γ → Derives (Rule g) (reverse γ) ps (tokens u) → Beginning g u
  begins_sentence {γ} {ps} u v d =
      let productive = checked_productive l g checked in
      let i = at→valid (Rule g) S Eof productive v.item in
      let (qs, x, e) = fruitful_derives_tokens (Rule g) v.β (fruitful_behind (Rule g) v.α v.β (productive v.production v.left _ i.rule)) in
      let rest : List ℕ = x ++ i.rest in
      let d₁ = valid_used (Rule g) S Eof i in
      let d₂ = derives_between (Rule g) (reverse γ) i.rest e in
      let q : reverse γ ++ (tokens x ++ tokens i.rest) ≡ reverse γ ++ tokens rest = ap (λ φ. reverse γ ++ φ) (sym (tokens_append x i.rest)) in
      let d₃ : Derives (Rule g) (reverse γ ++ tokens rest) ps (tokens u ++ tokens rest) = derives_between (Rule g) [] rest d in
      (rest, _, rw (← tokens_append u rest) at (derives_then (Rule g) (derives_then (Rule g) d₁ (rw q at d₂)) d₃))

  -- ---- the course
  module _ {T : Type 0} (table : Table T) (Spells : List T → List Symbol → Type 0) (honest : Honest g table Spells) (w : List ℕ) (below : AreTokens g w) where
    -- the states spell symbols that derive what was read
    record Reads (c : Spot T) : Type 0 where
      γ : List Symbol
      spells : Spells c.cells γ
      derives : Derives (Rule g) (reverse γ) c.made (tokens (take c.place w))
      within : c.place ≤ length w

    -- what the end of a course says of the tokens
    abbrev pub Ending : RunEnd → Spot T → Type 0
    Ending Accepted c = Sentence g c.made w
    Ending Rejected c = Beginning g (take c.place w) × (c.place ≤ length w)
    Ending Broken c = EndsAtEof g table Spells → ⊥
    Ending ListFull c = Unit {0}
    Ending StackFull c = Unit {0}
    Ending StepLimit c = Unit {0}

    reads_shift : (c : Spot T) (to : T) → Reads c → act_at table g w c ≡ shift to → Reads (after_shift to c)
    reads_shift c to r a =
        let t : ℕ = token_at g w c.place in
        let read : List ℕ = take c.place w in
        let (low, spells) = honest.shifts r.spells a in
        let k : c.place < length w = token_within g w c.place low in
        let d : Derives (Rule g) (reverse r.γ ++ (terminal t ∷ [])) c.made (tokens read ++ (terminal t ∷ [])) = derives_between (Rule g) [] (t ∷ []) r.derives in
        let e : tokens read ++ (terminal t ∷ []) ≡ tokens (take (c.place + 1) w) = sym (ap tokens (taken_one g w c.place k) ∙ tokens_append read (t ∷ [])) in
        record {
          γ = terminal t ∷ r.γ;
          spells = spells;
          derives = rw (reverse_aux-eq r.γ (terminal t ∷ [])) (rw e at d);
          within = omega arith;
        }

    reads_reduce : (c : Spot T) (p : ℕ) (to : T) → Reads c → act_at table g w c ≡ reduce (suc p) → goto_at table g w (suc p) c ≡ some to
        → Reads (after_reduce (suc p) (side_length g (suc p)) to c)
    reads_reduce c p to r a e =
        let h = popped l g checked (honest.reduces r.spells a) in
        let A : ℕ = left_of g (suc p) in
        record {
          γ = nonterminal A ∷ drop (side_length g (suc p)) r.γ;
          spells = honest.goes r.spells h.fits e;
          derives = rw (h.is_under, reverse_aux-eq h.under (nonterminal A ∷ [])) (step (record {
            before = reverse h.under;
            head = A;
            body = h.side;
            behind = [];
            rule = h.rule;
            from = refl;
            to = h.stack ∙ ap (λ φ. reverse h.under ++ φ) (sym (append-nil h.side));
          }) r.derives);
          within = r.within;
        }

    reads_accept : (c : Spot T) → Reads c → act_at table g w c ≡ reduce 0 → c.place ≡ length w → Sentence g (0 ∷ c.made) w
    reads_accept c r a e =
        let i = honest.reduces r.spells a in
        let (whole, is_start, _) = start_item l g checked i.item in
        let rule : Rule g 0 i.left (reverse i.α) = (source (Rule g) S Eof i.item).rule in
        let rule' : Rule g 0 S (reverse r.γ) = rw (whole, ← is_start) rule in
        let d : Derives (Rule g) (reverse r.γ) c.made (tokens w) = rw (ap (λ (n : ℕ). take n w) e ∙ take-length w) at r.derives in
        step (record {
          before = [];
          head = S;
          body = reverse r.γ;
          behind = [];
          rule = rule';
          from = refl;
          to = sym (append-nil (reverse r.γ));
        }) d

    reading : Invariant table g w Reads Ending
    reading = record {
      stack_full_lem = λ c r. tt;
      list_full = λ c r. tt;
      step_limit = λ c r. tt;
      rejects = λ c r a. (begins_sentence (take c.place w) (honest.viable r.spells) r.derives, r.within);
      shifts = reads_shift;
      too_short = λ c p r a h ends. omega (arith, (popped l g checked (honest.reduces r.spells a)).fits, honest.height r.spells);
      goes_nowhere = λ c p r a h e ends.
          let k = popped l g checked (honest.reduces r.spells a) in
          honest.arrives r.spells k.fits (rw k.is_under k.awaits) e;
      not_ended = λ c r a no_end ends.
          let i = honest.reduces r.spells a in
          let (whole, _, _) = start_item l g checked i.item in
          let e : c.place ≡ length w = eof_at_end g w below c.place r.within (ends c.cells r.γ (token_at g w c.place) r.spells a) in
          let q : side_length g 0 ≡ length i.α = side_length_lem l g checked (source (Rule g) S Eof i.item).rule ∙ length-reverse i.α in
          no_end e (honest.height r.spells ∙ ap (λ δ. length δ + 1) whole ∙ ap (λ (n : ℕ). n + 1) (sym q));
      reduces = λ c p to r a h e. reads_reduce c p to r a e;
      accepts = λ c r a e h. reads_accept c r a e;
    }

    pub ending : (b : Allowance) → Ending (course table g w b).end (course table g w b).spot
    ending b = course_keeps table g w b Reads Ending reading (record { γ = []; spells = honest.begins; derives = done; within = omega arith }) tt
