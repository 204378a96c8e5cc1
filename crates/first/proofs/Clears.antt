-- The slots of FIRST are cleared, one nonterminal after the other.
use Prim.Native.Nat.{ℕ, ◌+◌, ◌≤◌, ◌<◌}
use mathlib.Core.Path.{◌≡◌, refl, ap, ◌∙◌}
use mathlib.Core.List.{List, []}
use native.Mathlib.Omega.{arith}
use native.Mathlib.Decide.{ℕ_discrete}
use lib.ListN.{length, replicate}
use Rattle.base.proofs.Each.{each_same, each_one}
use Rattle.rules.specs.Limits.{work_size, max_nonterminals}
use Rattle.rules.specs.Records.{Grammar}
use Rattle.rules.specs.Grammar.{nonterminal_count}
use Rattle.room.specs.Areas.{Room, view, with_sets}
use Rattle.room.proofs.Lengths.{view_lengths}
use Rattle.lookahead.specs.Sets.{set_at, put_set}
use Rattle.lookahead.proofs.Slots.{put_there, put_elsewhere, length_stored_set}
use Rattle.first.specs.Firsts.{firsts_in, OnlyFirsts, FirstsCleared}

pub clear_start : (v : Room) → FirstsCleared 0 v v
clear_start v = record { others = refl; words = refl; slots = λ slot h. refl; none = λ slot h. absurd (omega arith) }

pub clear_turn : (v : Room) (w : List ℕ) (q : Room) (a own m size : ℕ) → FirstsCleared a v (view w) → work_size ≤ size → length w ≡ size → a < m → m ≤ max_nonterminals → own ≡ a
    → q ≡ put_set own 0 (view w) → FirstsCleared (a + 1) v q
clear_turn v w q a own m size before fits same here few mine put = record {
  others = ap (with_sets []) put ∙ before.others;
  words = ap (λ (r : Room). length r.sets) put ∙ length_stored_set (view w).sets own 0 ∙ before.words;
  slots = λ slot h. put_elsewhere (view w) q own 0 put slot (λ e. omega arith) ∙ before.slots slot (omega arith);
  none = λ slot h. elim (ℕ_discrete slot own) [
    | yes e ↦
        let l = (view_lengths w (omega arith)).sets_length in
        ap (set_at q) e ∙ put_there (view w) q own 0 put (omega arith)
    | no ne ↦ put_elsewhere (view w) q own 0 put slot ne ∙ before.none slot (omega arith)
  ];
}

pub clear_end : (v q : Room) (a m : ℕ) → FirstsCleared a v q → a ≤ m → m ≤ a → FirstsCleared m v q
clear_end v q a m cleared h g = let e : a ≡ m = omega arith in rw e at cleared

-- ---- what the rounds begin from
module _ (g : Grammar) (m : ℕ) (v q : Room) (counted : m ≡ nonterminal_count g) (cleared : FirstsCleared m v q) where
  pub only_cleared : OnlyFirsts g v q
  only_cleared = record { others = cleared.others; words = cleared.words; slots = λ slot h ne. cleared.slots slot (omega arith) }

  pub none_yet : firsts_in g q ≡ replicate m 0
  none_yet =
      rw counted (each_same (set_at q) (λ slot. 0) 0 (nonterminal_count g) (λ slot h l. cleared.none slot (omega arith)) ∙ each_one (λ slot. 0) 0 (nonterminal_count g) 0 (λ slot. refl))
