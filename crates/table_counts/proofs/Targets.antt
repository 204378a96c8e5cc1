-- Where the symbols of a kind lead from a state: what an entry tells, the walk over the entries, and the records.
use Prim.Native.Nat.{ℕ, zero, suc, ◌+◌, ◌<◌, ◌≤◌}
use mathlib.Core.Path.{◌≡◌, refl, sym, ap, ap₂, ◌∙◌}
use mathlib.Core.Bool.{Bool, true, false, not, ◌&&◌, false≢true}
use mathlib.Core.List.{List, [], ◌∷◌, ◌++◌, map}
use native.Mathlib.Omega.{arith}
use native.Mathlib.Nat.{sub-zero}
use native.Mathlib.Decide.{ℕ_discrete}
use lib.ListN.{get_or, set, replicate, length-set, length-replicate}
use lib.Seq.{get_or-set_same, get_or-set_other}
use lib.Dec.{eqb}
use borrow.Author.Tests.{eq-eqb, ne_eqb, not-true, not-false}
use Rattle.std.specs.Prelude.{Option, Some, None}
use Rattle.std.specs.Option.{is_some}
use Rattle.rules.specs.declared.StateIndex.{StateIndex}
use Rattle.base.specs.Pick.{pick}
use Rattle.base.specs.Lists.{numbers_from, keep, concat}
use Rattle.base.proofs.EachLeft.{each_none, each_more}
use Rattle.base.proofs.Lists.{at_replicate}
use Rattle.rules.specs.Limits.{max_nonterminals}
use Rattle.rules.specs.Records.{Grammar, at, records, is_terminal}
use Rattle.rules.specs.Grammar.{Symbol, nonterminal, terminal, symbol_of, same_symbol, at_end, is_before}
use Rattle.rules.specs.States.{Entry, State}
use Rattle.rules.specs.Table.{table_record, transition_over}
use Rattle.grammar.specs.Asked.{Faultless}
use Rattle.grammar.proofs.Coded.{symbol_read}
use Rattle.grammar.proofs.Laws.{behind_dot}
use Rattle.room.specs.Areas.{view}
use Rattle.states.specs.StatesIn.{entry_in, run_in, first_of, state_in}
use Rattle.lr.specs.Kernels.{symbol_by}
use Rattle.table_counts.specs.Records.{in_turn, kind_over, over_symbol}
use Rattle.table_counts.specs.Targets.{IsSymbol, HasAll, told, target_of, or_else, NoTargets, EntryGathered, Gathered, over_target, to_target}

-- ---- what is told first stays
first_stays : (a b : Option StateIndex) → is_some a ≡ true → or_else a b ≡ a
unfolding or_else
first_stays None b e = absurd (false≢true e)
first_stays (Some a) b e = refl

no_other : (a : Option StateIndex) → or_else a None ≡ a
unfolding or_else
no_other None = refl
no_other (Some a) = refl

one_after_another : (a b c : Option StateIndex) → or_else (or_else a b) c ≡ or_else a (or_else b c)
unfolding or_else
one_after_another None b c = refl
one_after_another (Some a) b c = refl

is_none : (a : Option StateIndex) → is_some a ≡ false → a ≡ None
is_none None e = refl
is_none (Some a) e = absurd (false≢true (sym e))

-- ---- a list of no states tells nothing
pub no_targets : (n : ℕ) → n ≡ max_nonterminals → NoTargets (replicate n None)
no_targets n e = record { long = length-replicate n None ∙ e; none = λ x. at_replicate n None x }

-- ---- what entries tell over a symbol
module _ (bytes : List ℕ) (kind x : ℕ) where
  nothing_told : target_of bytes kind [] x ≡ None
  unfolding target_of told keep
  nothing_told = refl

  module _ (e : Entry) where
    silent : is_before (records bytes) (symbol_by kind x) e.item ≡ false → target_of bytes kind (e ∷ []) x ≡ None
    unfolding target_of told keep
    silent f = rw f

    tells : is_before (records bytes) (symbol_by kind x) e.item ≡ true → target_of bytes kind (e ∷ []) x ≡ Some (record { 0 = e.next })
    unfolding target_of told keep
    tells t = rw t

    told_in_turn : (es : State) → target_of bytes kind (e ∷ es) x ≡ or_else (target_of bytes kind (e ∷ []) x) (target_of bytes kind es x)
    unfolding target_of told keep or_else
    told_in_turn es = go (is_before (records bytes) (symbol_by kind x) e.item)
      where
        later : List Entry
        later = keep (λ f. is_before (records bytes) (symbol_by kind x) f.item) es

        go : (b : Bool) → told (pick b (e ∷ later) later) ≡ or_else (told (pick b (e ∷ []) [])) (told later)
        go true = refl
        go false = refl

-- ---- one symbol stands behind a dot
ended_before : (g : Grammar) (y : Symbol) (i : ℕ) → at_end g i ≡ true → is_before g y i ≡ false
unfolding is_before
ended_before g y i e = rw e

one_symbol : (g : Grammar) (kind i x y : ℕ) → at_end g i ≡ false → x ≡ (at g (i + 1)).symbol → is_before g (symbol_by kind y) i ≡ (is_before g (symbol_by kind x) i && eqb x y)
unfolding is_before symbol_by symbol_of same_symbol
one_symbol g kind i x y inner is = rw (inner, is) (go (is_terminal (at g (i + 1))) (eqb kind 1) (at g (i + 1)).symbol)
  where
    go : (a b : Bool) (s : ℕ) → same_symbol (pick a (terminal s) (nonterminal s)) (pick b (terminal y) (nonterminal y))
        ≡ (same_symbol (pick a (terminal s) (nonterminal s)) (pick b (terminal s) (nonterminal s)) && eqb s y)
    go true true s = rw (eq-eqb s s refl)
    go true false s = refl
    go false true s = refl
    go false false s = rw (eq-eqb s s refl)

pub own_below : (bytes : List ℕ) (i x : ℕ) → Faultless bytes → at_end (records bytes) i ≡ false → x ≡ (at (records bytes) (i + 1)).symbol → IsSymbol x
own_below bytes i x fine inner named = symbol_read bytes (i + 1) x fine (behind_dot bytes i inner) named

-- ---- the entry at place k
module _ (bytes work : List ℕ) (kind k i : ℕ) (targets : List (Option StateIndex)) (long : HasAll targets) (c : Bool) (is : i ≡ (entry_in (view work) k).item) (last : c ≡ at_end (records bytes) i) where
  stays : ((x : ℕ) → IsSymbol x → or_else (get_or targets x None) (target_of bytes kind (entry_in (view work) k ∷ []) x) ≡ get_or targets x None) → EntryGathered bytes work kind k targets targets
  stays same = record { long = long; each = λ x h. sym (same x h) }

  -- it tells nothing over x
  silent_over : (x : ℕ) → is_before (records bytes) (symbol_by kind x) i ≡ false → or_else (get_or targets x None) (target_of bytes kind (entry_in (view work) k ∷ []) x) ≡ get_or targets x None
  silent_over x f = ap (or_else (get_or targets x None)) (silent bytes kind x (entry_in (view work) k) (rw is at f)) ∙ no_other (get_or targets x None)

  pub ended_tells : c ≡ true → EntryGathered bytes work kind k targets targets
  ended_tells t = stays (λ x h. silent_over x (ended_before (records bytes) (symbol_by kind x) i (sym last ∙ t)))

  module _ (x : ℕ) (b : Bool) (inner : c ≡ false) (named : x ≡ (at (records bytes) (i + 1)).symbol) (stands : b ≡ is_before (records bytes) (symbol_by kind x) i) where
    over : (y : ℕ) → is_before (records bytes) (symbol_by kind y) i ≡ (b && eqb x y)
    over y = one_symbol (records bytes) kind i x y (sym last ∙ inner) named ∙ ap (λ (a : Bool). a && eqb x y) (sym stands)

    pub other_tells : not b ≡ true → EntryGathered bytes work kind k targets targets
    other_tells z = stays (λ y h. silent_over y (over y ∙ ap (λ (a : Bool). a && eqb x y) (not-true b z)))

    module _ (hit : not b ≡ false) where
      over_own : (y : ℕ) → is_before (records bytes) (symbol_by kind y) i ≡ eqb x y
      over_own y = over y ∙ ap (λ (a : Bool). a && eqb x y) (not-false b hit)

      other : (y : ℕ) → (x ≡ y → ⊥) → or_else (get_or targets y None) (target_of bytes kind (entry_in (view work) k ∷ []) y) ≡ get_or targets y None
      other y ne = silent_over y (over_own y ∙ ne_eqb x y ne)

      own : target_of bytes kind (entry_in (view work) k ∷ []) x ≡ Some (record { 0 = (entry_in (view work) k).next })
      own = tells bytes kind x (entry_in (view work) k) (rw is at (over_own x ∙ eq-eqb x x refl))

      pub known_tells : (known : Bool) → known ≡ is_some (get_or targets x None) → known ≡ true → EntryGathered bytes work kind k targets targets
      known_tells known says z = stays (λ y h. elim (ℕ_discrete x y) [ yes e ↦ first_stays _ _ (rw e at (sym says ∙ z)) | no d ↦ other y d ])

      pub new_tells : (to : StateIndex) (known : Bool) → known ≡ is_some (get_or targets x None) → known ≡ false → to.0 ≡ (entry_in (view work) k).next → IsSymbol x → EntryGathered bytes work kind k targets (set targets x (Some to))
      unfolding or_else
      new_tells to known says z leads h = record { long = length-set targets x (Some to) ∙ long; each = λ y l. elim (ℕ_discrete x y) [ yes e ↦ rw (← e) here | no d ↦ get_or-set_other targets x y (Some to) None (λ e. d (sym e)) ∙ sym (other y d) ] }
        where
          led : Some to ≡ Some (record { 0 = (entry_in (view work) k).next })
          led = ap (λ (n : ℕ). Some (record { 0 = n })) leads

          here : get_or (set targets x (Some to)) x None ≡ or_else (get_or targets x None) (target_of bytes kind (entry_in (view work) k ∷ []) x)
          here = get_or-set_same targets x (Some to) None (omega arith) ∙ led ∙ sym (ap₂ or_else (is_none (get_or targets x None) (sym says ∙ z)) own)

-- ---- the walk over the entries from `first` to `end`: what is told and what is left to tell
pub record GatherLeft (bytes work : List ℕ) (kind first end : ℕ) (targets : List (Option StateIndex)) (k : ℕ) : Type 0 where
  pub long : HasAll targets
  pub each : (x : ℕ) → IsSymbol x → or_else (get_or targets x None) (target_of bytes kind (run_in (view work) k end) x) ≡ target_of bytes kind (run_in (view work) first end) x

module _ (bytes work : List ℕ) (kind first end : ℕ) (targets : List (Option StateIndex)) where
  pub gather_start : NoTargets targets → GatherLeft bytes work kind first end targets first
  unfolding or_else
  gather_start none = record { long = none.long; each = λ x h. ap (λ (a : Option StateIndex). or_else a (target_of bytes kind (run_in (view work) first end) x)) (none.none x) }

  module _ (k : ℕ) (left : GatherLeft bytes work kind first end targets k) where
    pub gather_turn : (after : List (Option StateIndex)) → k < end → EntryGathered bytes work kind k targets after → GatherLeft bytes work kind first end after (k + 1)
    gather_turn after h gathered = record {
      long = gathered.long;
      each = λ x l. ap (λ (a : Option StateIndex). or_else a (rest x)) (gathered.each x l) ∙ one_after_another (get_or targets x None) (here x) (rest x) ∙ ap (or_else (get_or targets x None)) (sym (whole x)) ∙ left.each x l;
    }
      where
        here : ℕ → Option StateIndex
        here x = target_of bytes kind (entry_in (view work) k ∷ []) x

        rest : ℕ → Option StateIndex
        rest x = target_of bytes kind (run_in (view work) (k + 1) end) x

        whole : (x : ℕ) → target_of bytes kind (run_in (view work) k end) x ≡ or_else (here x) (rest x)
        whole x = ap (λ (l : State). target_of bytes kind l x) (each_more (entry_in (view work)) end k h) ∙ told_in_turn bytes kind x (entry_in (view work) k) (run_in (view work) (k + 1) end)

    pub gather_end : (s : ℕ) → end ≤ k → first ≡ first_of (view work) s → end ≡ first_of (view work) (s + 1) → Gathered bytes work s kind targets
    unfolding state_in
    gather_end s h p q = record {
      each = λ x l. sym (no_other (get_or targets x None)) ∙ ap (or_else (get_or targets x None)) (sym (over x)) ∙ left.each x l ∙ ap₂ (λ (a b : ℕ). target_of bytes kind (run_in (view work) a b) x) p q;
    }
      where
        over : (x : ℕ) → target_of bytes kind (run_in (view work) k end) x ≡ None
        over x = ap (λ (l : State). target_of bytes kind l x) (each_none (entry_in (view work)) end k h) ∙ nothing_told bytes kind x

-- ---- the records
module _ (s kind x : ℕ) (targets : List (Option StateIndex)) where
  pub to_none : get_or targets x None ≡ None → to_target s kind targets x ≡ []
  unfolding over_target
  to_none e = rw e

  pub to_some : (to : StateIndex) → get_or targets x None ≡ Some to → to_target s kind targets x ≡ table_record s (kind_over kind) x to.0 ∷ []
  unfolding over_target
  to_some to e = rw e

-- those of a state
module _ (bytes work : List ℕ) (s kind symbols : ℕ) (targets : List (Option StateIndex)) (gathered : Gathered bytes work s kind targets) (few : symbols ≤ max_nonterminals) where
  as_told : (x : ℕ) → IsSymbol x → over_symbol bytes work s kind x ≡ to_target s kind targets x
  unfolding over_symbol over_target target_of told transition_over
  as_told x h = rw (gathered.each x h) (go (keep (λ e. is_before (records bytes) (symbol_by kind x) e.item) (state_in (view work) s)))
    where
      go : (es : List Entry) → transition_over s (kind_over kind) x es ≡ over_target s kind x (told es)
      go [] = refl
      go (e ∷ es) = refl

  alike : (n i : ℕ) → i + n ≤ symbols → concat (map (over_symbol bytes work s kind) (numbers_from i n)) ≡ concat (map (to_target s kind targets) (numbers_from i n))
  unfolding concat numbers_from
  alike zero i h = refl
  alike (suc n) i h = ap₂ ◌++◌ (as_told i (omega arith)) (alike n (suc i) (omega arith))

  pub targets_in_turn : in_turn (over_symbol bytes work s kind) 0 symbols ≡ in_turn (to_target s kind targets) 0 symbols
  unfolding in_turn
  targets_in_turn = rw sub-zero (alike symbols 0 (omega arith))
