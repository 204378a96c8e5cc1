-- Knuth's run tracks every derivation, as far as its tokens are those of the run: it never rejects where a sentence goes on, and the
-- productions that it lists when it accepts are the sentence's only derivation.
use Prim.Native.Nat.{ℕ, suc, ◌<◌, ◌≤◌}
use mathlib.Core.Path.{◌≡◌, refl, sym, ap, ap₂, ◌∙◌}
use mathlib.Core.Logic.{◌⊎◌, inl, inr, ⊎_elim}
use mathlib.Core.Option.{some}
use mathlib.Core.List.{List, [], ◌∷◌, ◌++◌, append_assoc, cons≢nil, head-eq_of_cons-eq}
use native.Mathlib.Omega.{arith}
use lib.ListN.{length, drop}
use Rattle.rules.specs.Limits.{Limits}
use Rattle.rules.specs.Records.{Grammar}
use Rattle.rules.specs.Grammar.{Symbol, nonterminal, terminal, start, terminal_count, left_of}
use Rattle.rules.specs.Run.{shift, reduce, no_act, Table, side_length, token_at}
use Rattle.rules.specs.declared.RunEnd.{RunEnd}
use Rattle.rules.specs.declared.RunEnd.TheVariants.{Accepted, Rejected, Broken, ListFull, StackFull, StepLimit}
use Rattle.knuth.specs.Rules.{Rule}
use Rattle.knuth.specs.Coded.{Checked}
use Rattle.knuth.specs.Derivations.{tokens, next, Derives, done, step}
use Rattle.knuth.specs.Items.{Awaits, Reduces}
use Rattle.knuth.specs.LR1.{Clear}
use Rattle.knuth.specs.Table.{KnuthTable}
use Rattle.knuth.proofs.Table.{no_action, table→clear}
use Rattle.runs.specs.Course.{Spot, Allowance, after_shift, after_reduce, act_at, goto_at, opened, course}
use Rattle.runs.specs.Tails.{tails}
use Rattle.runs.specs.Sentences.{Sentence}
use Rattle.runs.proofs.TokenPlaces.{next_of_drop, drop_one}
use Rattle.runs.proofs.HandleAhead.{last_of, AtTop, PastTop, HandleAhead, handle_at_top_reduces, handle_past_top_awaits, handle_at_first, handle_after_shift}
use Rattle.runs.proofs.HandleBefore.{zero_is_first, handle_before}
use Rattle.runs.proofs.KnuthHonest.{tails_length, cells_drop, act_at_lem, goto_at_lem}
use Rattle.runs.proofs.Invariants.{Invariant, course_keeps}

module _ (l : Limits) (g : Grammar) (checked : Checked l g) where
  abbrev S : ℕ
  S = start g

  abbrev Eof : ℕ
  Eof = terminal_count g

  module _ (table : Table (List Symbol)) (knuth : KnuthTable (Rule g) S Eof table) (w w' ds : List ℕ) where
    clear : Clear (Rule g) S Eof
    clear = table→clear (Rule g) S Eof knuth

    -- the derivation ds of w' has come to the stack γ, last by production p, and goes on with what was not read of w'
    record TracksBy (c : Spot (List Symbol)) (p : ℕ) : Type 0 where
      γ : List Symbol
      cells : c.cells ≡ tails γ
      by : List ℕ
      ahead : HandleAhead (Rule g) S Eof γ (drop c.place w') by p
      whole : by ++ (p ∷ c.made) ≡ ds

    abbrev Tracks : Spot (List Symbol) → Type 0
    Tracks c = (p : ℕ) × TracksBy c p

    -- the tokens read, and the one that comes next, are those of w'
    abbrev pub Agrees : ℕ → Type 0
    Agrees k = (j : ℕ) → j ≤ k → token_at g w j ≡ token_at g w' j

    abbrev Tracking : Spot (List Symbol) → Type 0
    Tracking c = Agrees c.place → Tracks c

    -- what the end of a course says of a sentence that agrees with its tokens
    abbrev pub TrackedTo : RunEnd → Spot (List Symbol) → Type 0
    TrackedTo Accepted c = Agrees c.place → c.made ≡ ds
    TrackedTo Rejected c = Agrees c.place → ⊥
    TrackedTo Broken c = Unit {0}
    TrackedTo ListFull c = Unit {0}
    TrackedTo StackFull c = Unit {0}
    TrackedTo StepLimit c = Unit {0}

    -- ---- what Knuth's table does where a derivation has come to
    module _ (c : Spot (List Symbol)) (agrees : Agrees c.place) {p : ℕ} (f : TracksBy c p) where
      abbrev v : List ℕ
      v = drop c.place w'

      abbrev EndsAtTop : Type 0
      EndsAtTop = AtTop (Rule g) f.ahead.last f.γ v

      abbrev EndsPastTop : Type 0
      EndsPastTop = PastTop (Rule g) f.ahead.last f.γ v

      next_token : token_at g w c.place ≡ next Eof v
      unfolding token_at
      next_token = agrees c.place (omega arith) ∙ sym (next_of_drop Eof c.place w')

      acts : table.act f.γ (next Eof v) ≡ act_at table g w c
      acts = ap (λ (t : ℕ). table.act f.γ t) (sym next_token) ∙ act_at_lem g table knuth f.γ f.cells (token_at g w c.place)

      past_next : (h : EndsPastTop) → next Eof v ≡ h.token
      past_next h = ap (λ (u : List ℕ). next Eof u) h.rest

      reduces_top : EndsAtTop → Reduces (Rule g) S Eof f.γ p (next Eof v)
      reduces_top h = handle_at_top_reduces (Rule g) S Eof f.ahead h

      awaits_past : (h : EndsPastTop) → Awaits (Rule g) S Eof f.γ (terminal (next Eof v))
      awaits_past h = rw (past_next h) (handle_past_top_awaits (Rule g) S Eof f.ahead h)

      never_rejects : act_at table g w c ≡ no_act → ⊥
      never_rejects e =
          let (none-awaited, none-reduced) = (no_action (Rule g) S Eof knuth f.γ (next Eof v)).0 (acts ∙ e) in
          ⊎_elim (λ h. none-reduced p (reduces_top h)) (λ h. none-awaited (awaits_past h)) f.ahead.place

      tracks_shift : (to : List Symbol) → act_at table g w c ≡ shift to → TracksBy (after_shift to c) p
      tracks_shift to e =
          let (q, a) = (knuth.shifts f.γ to (next Eof v)).0 (acts ∙ e) in
          go q a f.ahead.place
        where
          go : to ≡ terminal (next Eof v) ∷ f.γ → Awaits (Rule g) S Eof f.γ (terminal (next Eof v)) → EndsAtTop ⊎ EndsPastTop → TracksBy (after_shift to c) p
          go q a (inl h) = absurd (clear.shift_reduce (reduces_top h).item a.item)
          go q a (inr h) = record {
            γ = terminal (next Eof v) ∷ f.γ;
            cells = ap₂ ◌∷◌ q f.cells;
            by = f.by;
            ahead = handle_after_shift (Rule g) S Eof f.γ (next Eof v) f.ahead h (sym (past_next h))
                (h.rest ∙ ap₂ ◌∷◌ (sym (past_next h)) (sym (drop_one c.place w' h.rest)));
            whole = f.whole;
          }

      -- a reduction is by the derivation's production
      reduction_due : (q : ℕ) → act_at table g w c ≡ reduce q → EndsAtTop × (p ≡ q)
      reduction_due q e =
          let r = (knuth.reduces f.γ (next Eof v) q).0 (acts ∙ e) in
          go r f.ahead.place
        where
          go : Reduces (Rule g) S Eof f.γ q (next Eof v) → EndsAtTop ⊎ EndsPastTop → EndsAtTop × (p ≡ q)
          go r (inl h) = (h, clear.reduce_reduce (reduces_top h).item r.item)
          go r (inr h) = absurd (clear.shift_reduce r.item (awaits_past h).item)

    -- production p, whose right side is on top, is due
    record Due (c : Spot (List Symbol)) (p : ℕ) : Type 0 where
      tracks : TracksBy c p
      at_top : AtTop (Rule g) tracks.ahead.last tracks.γ (drop c.place w')

    due : (c : Spot (List Symbol)) (q : ℕ) → Agrees c.place → Tracks c → act_at table g w c ≡ reduce q → Due c q
    due c q agrees (p, f) e =
        let (h, s) = reduction_due c agrees f q e in
        let d : Due c p = record { tracks = f; at_top = h } in
        rw s at d

    tracks_reduce : (c : Spot (List Symbol)) (p : ℕ) (to : List Symbol) → Agrees c.place → Tracks c → act_at table g w c ≡ reduce (suc p)
        → side_length g (suc p) < length c.cells → goto_at table g w (suc p) c ≡ some to → Tracks (after_reduce (suc p) (side_length g (suc p)) to c)
    tracks_reduce c p to agrees t e h e' =
        let d = due c (suc p) agrees t e in
        let f = d.tracks in
        let k : ℕ = side_length g (suc p) in
        let A : ℕ = left_of g (suc p) in
        let fits : k ≤ length f.γ = omega (arith, ap length f.cells, tails_length f.γ) in
        let (q, _) = (knuth.goes (drop k f.γ) to A).0 (goto_at_lem g table knuth f.γ f.cells k A ∙ e') in
        let b = handle_before l g checked f.by f.ahead d.at_top in (
          b.last,
          record {
            γ = nonterminal A ∷ drop k f.γ;
            cells = ap₂ ◌∷◌ q (cells_drop f.γ f.cells k fits);
            by = b.by;
            ahead = b.ahead;
            whole = sym (append_assoc b.by (b.last ∷ []) (suc p ∷ c.made)) ∙ ap (λ (x : List ℕ). x ++ (suc p ∷ c.made)) b.whole ∙ f.whole;
          },
        )

    tracking : Invariant table g w Tracking TrackedTo
    tracking = record {
      stack_full_lem = λ c i. tt;
      list_full = λ c i. tt;
      step_limit = λ c i. tt;
      rejects = λ c i e agrees. never_rejects c agrees (i agrees).1 e;
      shifts = λ c to i e agrees.
          let earlier : Agrees c.place = λ j h. agrees j (omega arith) in
          let (p, f) = i earlier in
          (p, tracks_shift c earlier f to e);
      too_short = λ c p i e h. tt;
      goes_nowhere = λ c p i e h e'. tt;
      not_ended = λ c i e no_end. tt;
      reduces = λ c p to i e h e' agrees. tracks_reduce c p to agrees (i agrees) e h e';
      accepts = λ c i e e₁ e₂ agrees.
          let f = (due c 0 agrees (i agrees) e).tracks in
          sym (ap (λ (x : List ℕ). x ++ (0 ∷ c.made)) (zero_is_first l g checked f.ahead)) ∙ f.whole;
    }

    tracks_first : Sentence g ds w' → Tracks (opened table)
    tracks_first d = by_derivation refl refl d
      where
        not_tokens : (u : List ℕ) → nonterminal S ∷ [] ≡ tokens u → ⊥
        not_tokens [] e = cons≢nil e
        not_tokens (t ∷ u) e = let z : ◌≡◌ {A = ℕ} 0 1 = cc (head-eq_of_cons-eq e) in omega arith

        by_derivation : {ps : List ℕ} {φ : List Symbol} → ps ≡ ds → φ ≡ tokens w' → Derives (Rule g) (nonterminal S ∷ []) ps φ → Tracks (opened table)
        by_derivation e₁ e₂ done = absurd (not_tokens w' e₂)
        by_derivation e₁ e₂ (step s d) =
            let q = last_of (Rule g) s (rw e₂ at d) in (
              q.production,
              record {
                γ = [];
                cells = ap (λ x. x ∷ []) knuth.bottom;
                by = q.by;
                ahead = handle_at_first (Rule g) S Eof q.derivation q.last;
                whole = q.whole ∙ e₁;
              },
            )

    pub knuth_tracks : Sentence g ds w' → (b : Allowance) → TrackedTo (course table g w b).end (course table g w b).spot
    knuth_tracks d b = course_keeps table g w b Tracking TrackedTo tracking (λ agrees. tracks_first d) tt
