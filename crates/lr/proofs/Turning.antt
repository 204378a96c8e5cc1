-- Transitions in turn, as long as none refuses: what is left of them gives the same outcome.
use Prim.Native.Nat.{ℕ, zero, suc, ◌+◌, ◌-◌, ◌≤◌, ◌<◌}
use mathlib.Core.Path.{◌≡◌, refl, sym, ap, ◌∙◌}
use mathlib.Core.List.{List, [], ◌∷◌, ◌++◌, map}
use native.Mathlib.Omega.{arith}
use native.Mathlib.Nat.{sub-zero}
use lib.ListN.{length, get_or}
use Rattle.std.specs.Prelude.{Result, Ok, Err}
use Rattle.base.specs.Each.{each_from}
use Rattle.base.specs.Lists.{numbers_from, up_to}
use Rattle.base.proofs.EachLeft.{each_none, each_more}
use Rattle.rules.specs.declared.BuildRefusal.{BuildRefusal}
use Rattle.rules.specs.Limits.{limits}
use Rattle.rules.specs.Records.{Grammar, records}
use Rattle.rules.specs.Tokens.{TokenSet}
use Rattle.rules.specs.Grammar.{Symbol, nonterminal, terminal, terminal_count, nonterminal_count}
use Rattle.rules.specs.States.{Outcome, done, refused, each_in_turn, symbols, add_transition}
use Rattle.room.specs.Areas.{Room, view}
use Rattle.states.specs.StatesIn.{first_of}
use Rattle.lr.specs.Kernels.{Parented}
use Rattle.lr.specs.Expansions.{expansion_in, expanded_to, OnlyExpanded, StillParented, Transition, Transitions}

-- ---- one step of many
module _ {A B : Type 0} (step : A → B → Outcome B) (x : A) (xs : List A) (a : B) (t : Outcome B) (left : each_in_turn step (x ∷ xs) a ≡ t) where
  abbrev later : Outcome B → Outcome B
  later o = elim o [ done b ↦ each_in_turn step xs b | refused why ↦ refused why ]

  turn_done : (b : B) → step x a ≡ done b → each_in_turn step xs b ≡ t
  unfolding each_in_turn
  turn_done b e = sym (ap later e) ∙ left

  turn_refused : (why : BuildRefusal) → step x a ≡ refused why → refused why ≡ t
  unfolding each_in_turn
  turn_refused why e = sym (ap later e) ∙ left

turn_over : {A B : Type 0} (step : A → B → Outcome B) (xs : List A) (a : B) (t : Outcome B) → xs ≡ [] → each_in_turn step xs a ≡ t → done a ≡ t
unfolding each_in_turn
turn_over step xs a t none left = rw none at left

-- ---- what stays
expanded_none : (v : Room) (s : ℕ) → OnlyExpanded v v s
expanded_none v s = record { others = refl; before = λ k h. refl; behind = λ k h. refl; items = λ k. refl }

expanded_both : (u v w : Room) (s : ℕ) → OnlyExpanded u v s → OnlyExpanded v w s → OnlyExpanded u w s
expanded_both u v w s p q =
    let first : (t : ℕ) → first_of v t ≡ first_of u t = λ t. ap (λ (r : Room). get_or r.first_entries t 0) p.others in
    record {
      others = q.others ∙ p.others;
      before = λ k h. q.before k (rw (first s) h) ∙ p.before k h;
      behind = λ k h. q.behind k (rw (first (s + 1)) h) ∙ p.behind k h;
      items = λ k. q.items k ∙ p.items k;
    }

-- ---- the symbols of a list are left of all of them
pub record OverLeft (bytes : List ℕ) (xs all : List Symbol) (s count : ℕ) (w₀ w : List ℕ) (states : ℕ) : Type 0 where
  pub same : length w ≡ length w₀
  pub more : count ≤ states
  pub able : Parented bytes (s + 1) states w
  pub only : OnlyExpanded (view w₀) (view w) s
  pub left : (start : TokenSet) → each_in_turn (add_transition limits (records bytes)) xs (expansion_in (records bytes) start (view w) s states)
      ≡ each_in_turn (add_transition limits (records bytes)) all (expansion_in (records bytes) start (view w₀) s count)

module _ (bytes : List ℕ) (x : Symbol) (xs all : List Symbol) (s count : ℕ) (w₀ w : List ℕ) (states : ℕ) (walk : OverLeft bytes (x ∷ xs) all s count w₀ w states)
    (after : List ℕ) (r : Result ℕ BuildRefusal) (call : Transition bytes x s states w after r) where
  turns : (more : ℕ) → r ≡ Ok more → length after ≡ length w → OverLeft bytes xs all s count w₀ after more
  unfolding expanded_to StillParented
  turns more is size =
      let (grown, parented) = rw is at call.left in
      record {
        same = size ∙ walk.same;
        more = omega (arith, walk.more);
        able = parented;
        only = expanded_both (view w₀) (view w) (view after) s walk.only call.only;
        left = λ start. turn_done (add_transition limits (records bytes)) x _ _ _ (walk.left start) (expansion_in (records bytes) start (view after) s more) (sym (rw is at (call.outcome start)));
      }

  stops : (why : BuildRefusal) → r ≡ Err why → Transitions bytes all s count w₀ after (Err why)
  unfolding expanded_to StillParented
  stops why is = record {
    outcome = λ start. turn_refused (add_transition limits (records bytes)) x _ _ _ (walk.left start) why (sym (rw is at (call.outcome start)));
    only = expanded_both (view w₀) (view w) (view after) s walk.only call.only;
    left = tt;
  }

-- ---- nonterminals, then terminals
numbers_each : (f : ℕ → Symbol) (i n : ℕ) → map f (numbers_from i n) ≡ each_from f i n
unfolding numbers_from each_from
numbers_each f i zero = refl
numbers_each f i (suc n) = ap (λ (xs : List Symbol). f i ∷ xs) (numbers_each f (suc i) n)

symbols_are : (g : Grammar) (n m : ℕ) → n ≡ terminal_count g → m ≡ nonterminal_count g → symbols g ≡ each_from nonterminal 0 m ++ each_from terminal 0 n
unfolding symbols up_to
symbols_are g n m en em = rw (← en, ← em, numbers_each nonterminal 0 m, numbers_each terminal 0 n)

-- the nonterminals from a on are left, and then the terminals from t on
abbrev pub NonterminalsLeft : List ℕ → ℕ → ℕ → ℕ → ℕ → List ℕ → List ℕ → ℕ → ℕ → Type 0
NonterminalsLeft bytes n m s count w₀ w states a = OverLeft bytes (each_from nonterminal a (m - a) ++ each_from terminal 0 n) (symbols (records bytes)) s count w₀ w states

abbrev pub TerminalsLeft : List ℕ → ℕ → ℕ → ℕ → List ℕ → List ℕ → ℕ → ℕ → Type 0
TerminalsLeft bytes n s count w₀ w states t = OverLeft bytes (each_from terminal t (n - t)) (symbols (records bytes)) s count w₀ w states

pub over_begins : (bytes : List ℕ) (n m s count : ℕ) (w : List ℕ) → n ≡ terminal_count (records bytes) → m ≡ nonterminal_count (records bytes) → Parented bytes (s + 1) count w
    → NonterminalsLeft bytes n m s count w w count 0
over_begins bytes n m s count w en em parented = record {
  same = refl;
  more = omega arith;
  able = parented;
  only = expanded_none (view w) s;
  left = λ start. ap (λ (xs : List Symbol). each_in_turn (add_transition limits (records bytes)) xs (expansion_in (records bytes) start (view w) s count)) all;
}
  where
    all : each_from nonterminal 0 (m - 0) ++ each_from terminal 0 n ≡ symbols (records bytes)
    all = rw sub-zero (sym (symbols_are (records bytes) n m en em))

module _ (bytes : List ℕ) (n m s count : ℕ) (w₀ w : List ℕ) (states a : ℕ) (walk : NonterminalsLeft bytes n m s count w₀ w states a) where
  pub nonterminals_end : m ≤ a → TerminalsLeft bytes n s count w₀ w states 0
  nonterminals_end h = rw sub-zero (rw (each_none nonterminal m a h) at walk)

  module _ (after : List ℕ) (r : Result ℕ BuildRefusal) (h : a < m) (call : Transition bytes (nonterminal a) s states w after r) where
    first_left : OverLeft bytes (nonterminal a ∷ (each_from nonterminal (a + 1) (m - (a + 1)) ++ each_from terminal 0 n)) (symbols (records bytes)) s count w₀ w states
    first_left = rw (each_more nonterminal m a h) at walk

    pub nonterminal_turns : (more : ℕ) → r ≡ Ok more → length after ≡ length w → NonterminalsLeft bytes n m s count w₀ after more (a + 1)
    nonterminal_turns = turns bytes (nonterminal a) _ _ s count w₀ w states first_left after r call

    pub nonterminal_stops : (why : BuildRefusal) → r ≡ Err why → Transitions bytes (symbols (records bytes)) s count w₀ after (Err why)
    nonterminal_stops = stops bytes (nonterminal a) _ _ s count w₀ w states first_left after r call

module _ (bytes : List ℕ) (n s count : ℕ) (w₀ w : List ℕ) (states t : ℕ) (walk : TerminalsLeft bytes n s count w₀ w states t) where
  pub terminals_end : n ≤ t → Transitions bytes (symbols (records bytes)) s count w₀ w (Ok states)
  unfolding expanded_to StillParented
  terminals_end h = record {
    outcome = λ start. turn_over (add_transition limits (records bytes)) _ _ _ (each_none terminal n t h) (walk.left start);
    only = walk.only;
    left = (walk.more, walk.able);
  }

  module _ (after : List ℕ) (r : Result ℕ BuildRefusal) (h : t < n) (call : Transition bytes (terminal t) s states w after r) where
    next_left : OverLeft bytes (terminal t ∷ each_from terminal (t + 1) (n - (t + 1))) (symbols (records bytes)) s count w₀ w states
    next_left = rw (each_more terminal n t h) at walk

    pub terminal_turns : (more : ℕ) → r ≡ Ok more → length after ≡ length w → TerminalsLeft bytes n s count w₀ after more (t + 1)
    terminal_turns = turns bytes (terminal t) _ _ s count w₀ w states next_left after r call

    pub terminal_stops : (why : BuildRefusal) → r ≡ Err why → Transitions bytes (symbols (records bytes)) s count w₀ after (Err why)
    terminal_stops = stops bytes (terminal t) _ _ s count w₀ w states next_left after r call
