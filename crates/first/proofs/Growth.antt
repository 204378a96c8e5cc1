-- Rounds over the productions: what a round adds, and that a round that adds nothing changes nothing.
use Prim.Native.Nat.{ℕ, ◌+◌, ◌-◌, ◌*◌, ◌≤◌, ◌<◌}
use mathlib.Core.Path.{◌≡◌, refl, sym, ap, ◌∙◌}
use mathlib.Core.Bool.{Bool, true, false, not}
use native.Mathlib.Omega.{arith}
use native.Mathlib.Nat.{sub-zero, mul-le-mul}
use lib.ListN.{length, set, replicate}
use lib.Seq.{set-get_or}
use Rattle.base.specs.Pick.{pick}
use Rattle.base.specs.Loops.{until}
use Rattle.base.specs.Lists.{each_of, fold_over}
use Rattle.base.proofs.ListLoops.{kept}
use Rattle.base.proofs.Rounds as Rounds
use Rattle.rules.specs.Limits.{max_nonterminals}
use Rattle.rules.specs.Records.{Grammar, at}
use Rattle.rules.specs.Tokens.{join}
use Rattle.rules.specs.Grammar.{at_start, left_sides, symbols_behind, terminal_count, nonterminal_count}
use Rattle.rules.specs.First.{Sets, set_of, first0, add_first, first_settled, first_sets}
use Rattle.room.specs.Bounds.{FewTerminals}
use Rattle.sets.proofs.Laws.{join_within}
use Rattle.grammar.proofs.Laws.{left_sides_lem}
use Rattle.first.specs.Firsts.{has_first}

pub known_true : (b test : Bool) → b ≡ test → b ≡ true → test ≡ true
known_true b test says f = sym says ∙ f

-- ---- a set joined into a nonterminal's that has it
pub set_own : (sets : Sets) (a : ℕ) → set sets a (set_of sets a) ≡ sets
unfolding set_of
set_own sets a = set-get_or sets a 0

module _ (g : Grammar) (n : ℕ) where
  pub add_first_is : (i : ℕ) (sets : Sets) → add_first g n i sets ≡ set sets (at g i).symbol (join (set_of sets (at g i).symbol) (first0 n sets (symbols_behind g i)))
  unfolding add_first
  add_first_is i sets = refl

  add_rests : (i : ℕ) (sets : Sets) → has_first g n sets i ≡ true → add_first g n i sets ≡ sets
  unfolding has_first
  add_rests i sets e = add_first_is i sets ∙ ap (set sets (at g i).symbol) (join_within (set_of sets (at g i).symbol) (first0 n sets (symbols_behind g i)) e) ∙ set_own sets (at g i).symbol

  settled_is : (sets : Sets) → first_settled g n sets ≡ each_of (has_first g n sets) (left_sides g)
  unfolding first_settled has_first
  settled_is sets = refl

  -- ---- one round, at record i of count
  pub round_start : (count : ℕ) (sets : Sets) → count ≡ length g → fold_over (add_first g n) (kept (at_start g) count 0) sets ≡ fold_over (add_first g n) (left_sides g) sets
  round_start count sets e = rw (left_sides_lem g count e)

  pub changed_start : (count : ℕ) (sets : Sets) → count ≡ length g → pick false true (not (each_of (has_first g n sets) (kept (at_start g) count 0))) ≡ not (first_settled g n sets)
  changed_start count sets e = rw (left_sides_lem g count e, settled_is sets)

  pub changed_turn : (count i : ℕ) (sets later : Sets) (new changed after t : Bool) → i < count → pick changed true (not (each_of (has_first g n sets) (kept (at_start g) count i))) ≡ t
      → later ≡ pick (at_start g i) (add_first g n i sets) sets → new ≡ pick (at_start g i) (not (has_first g n sets i)) false
      → after ≡ pick changed true new → pick after true (not (each_of (has_first g n later) (kept (at_start g) count (i + 1)))) ≡ t
  changed_turn = Rounds.changed_turn (add_first g n) (has_first g n) add_rests (at_start g)

  pub changed_end : (count i : ℕ) (sets : Sets) (changed t : Bool) → count ≤ i → pick changed true (not (each_of (has_first g n sets) (kept (at_start g) count i))) ≡ t → changed ≡ t
  changed_end = Rounds.changed_end (add_first g n) (has_first g n) add_rests (at_start g)

  -- ---- the rounds, turn of them made
  module _ (bound turn : ℕ) (sets later t : Sets) (new : Bool) (e : until (first_settled g n) (fold_over (add_first g n) (left_sides g)) (bound - turn) sets ≡ t)
      (says : new ≡ not (first_settled g n sets)) (made : later ≡ fold_over (add_first g n) (left_sides g) sets) where
    pub rounds_turn : turn < bound → not new ≡ false → until (first_settled g n) (fold_over (add_first g n) (left_sides g)) (bound - (turn + 1)) later ≡ t
    rounds_turn = Rounds.rounds_turn (add_first g n) (has_first g n) add_rests (left_sides g) (first_settled g n) (fold_over (add_first g n) (left_sides g)) settled_is (λ sets. refl) bound turn sets later t new e says made

    pub rounds_stop : not new ≡ true → later ≡ t
    rounds_stop = Rounds.rounds_stop (add_first g n) (has_first g n) add_rests (left_sides g) (first_settled g n) (fold_over (add_first g n) (left_sides g)) settled_is (λ sets. refl) bound turn sets later t new e says made

-- ---- all rounds
firsts_are : (g : Grammar) → first_sets g ≡ until (first_settled g (terminal_count g)) (fold_over (add_first g (terminal_count g)) (left_sides g)) (nonterminal_count g * (terminal_count g + 1)) (replicate (nonterminal_count g) 0)
unfolding first_sets
firsts_are g = refl

pub rounds_start : (g : Grammar) (n m : ℕ) (sets : Sets) → n ≡ terminal_count g → m ≡ nonterminal_count g → sets ≡ replicate m 0
    → until (first_settled g n) (fold_over (add_first g n) (left_sides g)) (m * (n + 1) - 0) sets ≡ first_sets g
rounds_start g n m sets en em es = rw (sub-zero, es, en, em) (sym (firsts_are g))

pub rounds_fit : (m n : ℕ) → m ≤ max_nonterminals → FewTerminals n → m * (n + 1) ≤ 4032
rounds_fit m n h l =
    let k : n + 1 ≤ 63 = omega arith in
    let p : m * (n + 1) ≤ 64 * 63 = mul-le-mul h k in
    omega arith
