-- What stays while a closure is collected: every area but the sets, FIRST, the entries and their sets.
use Prim.Native.Nat.{ℕ, ◌+◌, ◌≤◌, ◌<◌}
use mathlib.Core.Path.{◌≡◌, refl, ap, ◌∙◌}
use mathlib.Core.Bool.{Bool}
use mathlib.Core.List.{List, []}
use native.Mathlib.Omega.{arith}
use lib.ListN.{length, replicate}
use Rattle.base.specs.Each.{each_from}
use Rattle.base.proofs.Each.{each_same, each_one}
use Rattle.rules.specs.Limits.{limits}
use Rattle.rules.specs.Records.{Grammar}
use Rattle.rules.specs.Grammar.{nonterminal_count, first_fault}
use Rattle.rules.specs.States.{Entry}
use Rattle.room.specs.Areas.{Room, with_sets}
use Rattle.room.specs.Bounds.{IsEntry}
use Rattle.lookahead.specs.Sets.{load_set, put_set}
use Rattle.lookahead.proofs.Slots.{put_elsewhere, length_stored_set}
use Rattle.grammar.proofs.Coded.{nonterminal_count_below}
use Rattle.first.proofs.Loads.{loads_before}
use Rattle.states.specs.StatesIn.{entry_in, run_in, PlacedRun}
use Rattle.states.proofs.States.{entry_same, run_same}
use Rattle.states.proofs.Places.{run_placed}
use Rattle.closures.specs.Closures.{closures_in, follow_of, follow_in, Closable, OnlyClosures}

pub only_none : (g : Grammar) (v : Room) → OnlyClosures g v v
only_none g v = record { others = refl; words = refl; firsts = λ slot h. refl; behind = λ slot h ne. refl }

pub only_both : (g : Grammar) (u v w : Room) → OnlyClosures g u v → OnlyClosures g v w → OnlyClosures g u w
only_both g u v w p q = record {
  others = q.others ∙ p.others;
  words = q.words ∙ p.words;
  firsts = λ slot h. q.firsts slot h ∙ p.firsts slot h;
  behind = λ slot h ne. q.behind slot h ne ∙ p.behind slot h ne;
}

module _ (g : Grammar) (v q : Room) (slot s : ℕ) (put : q ≡ put_set slot s v) where
  others_put : with_sets [] q ≡ with_sets [] v
  others_put = ap (with_sets []) put

  pub words_put : length q.sets ≡ length v.sets
  words_put = ap (λ (r : Room). length r.sets) put ∙ length_stored_set v.sets slot s

  -- a set was put into a nonterminal's slot, or became the set at hand
  pub only_own : (a : ℕ) → slot ≡ 64 + a → a < nonterminal_count g → OnlyClosures g v q
  only_own a e h = record {
    others = others_put;
    words = words_put;
    firsts = λ other l. put_elsewhere v q slot s put other (λ z. omega arith);
    behind = λ other l ne. put_elsewhere v q slot s put other (λ z. omega arith);
  }

  pub only_hand : nonterminal_count g ≤ 64 → slot ≡ 4224 → OnlyClosures g v q
  only_hand few e = record {
    others = others_put;
    words = words_put;
    firsts = λ other l. put_elsewhere v q slot s put other (λ z. omega arith);
    behind = λ other l ne. put_elsewhere v q slot s put other (λ z. ne (omega arith));
  }

  pub closures_hand : nonterminal_count g ≤ 64 → slot ≡ 4224 → closures_in g q ≡ closures_in g v
  closures_hand few e = ap (closures_in g) put ∙ loads_before slot s v.sets 64 (nonterminal_count g) (omega arith)

-- ---- slots whose sets are all empty
pub sets_empty : (b m : ℕ) (words : List ℕ) → ((slot : ℕ) → b ≤ slot → slot < b + m → load_set words slot ≡ 0) → each_from (load_set words) b m ≡ replicate m 0
sets_empty b m words none = each_same (load_set words) (λ _. 0) b m none ∙ each_one (λ _. 0) b m 0 (λ slot. refl)

-- ---- what is asked, FIRST and the entries stay
pub closable_kept : (bytes : List ℕ) (n : ℕ) (w₀ w : List ℕ) → Closable bytes n w₀ → length w ≡ length w₀ → Closable bytes n w
closable_kept bytes n w₀ w closable same = record { clean = closable.clean; short = closable.short; few = closable.few; long = omega (arith, closable.long) }

module _ (g : Grammar) (v q : Room) (clean : first_fault limits g ≡ length g) (only : OnlyClosures g v q) where
  pub follow_kept : (canonical : Bool) (n : ℕ) → follow_in g canonical n q ≡ follow_in g canonical n v
  follow_kept canonical n =
      let few = nonterminal_count_below g clean in
      ap (follow_of canonical n) (each_same (load_set q.sets) (load_set v.sets) 0 (nonterminal_count g) (λ slot h l. only.firsts slot (omega arith)))

  pub entry_kept : (k : ℕ) → IsEntry k → entry_in q k ≡ entry_in v k
  entry_kept k h =
      let few = nonterminal_count_below g clean in
      entry_same v q k (ap (λ (r : Room). r.entries) only.others) (only.behind (128 + k) (omega arith) (λ e. omega arith))

  pub run_kept : (record_count first end : ℕ) → PlacedRun record_count v first end → run_in q first end ≡ run_in v first end
  run_kept record_count first end run = run_same v q first end (λ k h l. entry_kept k (omega (arith, run.bounded)))

  pub placed_run_kept : (record_count first end : ℕ) → PlacedRun record_count v first end → PlacedRun record_count q first end
  placed_run_kept record_count first end run = run_placed record_count v q first end (λ k h l. ap (λ (e : Entry). e.item) (entry_kept k (omega (arith, run.bounded)))) run
