-- What the check answers where it returns, in the order of document 01. The premises are the tests that led there.
use Prim.Native.Nat.{ℕ, ◌≤◌, ◌<◌}
use mathlib.Core.Path.{◌≡◌}
use mathlib.Core.Bool.{Bool, true, false}
use mathlib.Core.List.{List}
use native.Mathlib.Omega.{arith}
use lib.ListN.{length}
use borrow.Author.Tests.{lt-ltb, le-ltb}
use Rattle.std.specs.Prelude.{Result, Ok, Err}
use Rattle.base.proofs.ListLoops.{first_bound}
use Rattle.rules.specs.Limits.{limits}
use Rattle.rules.specs.Records.{Grammar, records, at, bad_length}
use Rattle.rules.specs.Grammar.{nonterminal_count, first_fault, fault_at, first_start, first_without, first_barren, grammar_answer}
use Rattle.rules.specs.declared.GrammarRefusal.{GrammarRefusal}
use Rattle.rules.specs.declared.GrammarRefusal.TheVariants.{Length, StartAgain, NoProduction, NoString}
use Rattle.grammar.specs.Asked.{NoFault}
use Rattle.grammar.specs.Tests.{is_fault}
use Rattle.grammar_check.specs.Tests.{answer_from_six}

-- ---- refusals 6 to 8
module _ (g : Grammar) (n k : ℕ) (size : n ≡ length g) (again : k ≡ first_start g) where
  pub start_again : (p : ℕ) → k < n → p ≡ (at g k).production → Err (StartAgain p) ≡ answer_from_six g
  unfolding answer_from_six
  start_again p h e = rw (← again, ← size, lt-ltb k n h, ← e)

  module _ (m a : ℕ) (named : m ≡ nonterminal_count g) (without : a ≡ first_without g) where
    pub no_production : n ≤ k → a < m → Err (NoProduction a) ≡ answer_from_six g
    unfolding answer_from_six
    no_production h l = rw (← again, ← size, le-ltb k n h, ← without, ← named, lt-ltb a m l)

    module _ (b : ℕ) (barren : b ≡ first_barren g) where
      pub no_string : n ≤ k → m ≤ a → b < m → Err (NoString b) ≡ answer_from_six g
      unfolding answer_from_six
      no_string h l x = rw (← again, ← size, le-ltb k n h, ← without, ← named, le-ltb a m l, ← barren, lt-ltb b m x)

      pub coded : n ≤ k → m ≤ a → m ≤ b → Ok tt ≡ answer_from_six g
      unfolding answer_from_six
      coded h l x = rw (← again, ← size, le-ltb k n h, ← without, ← named, le-ltb a m l, ← barren, le-ltb b m x)

-- ---- all of it
pub no_faults : (g : Grammar) (n k : ℕ) → n ≡ length g → k ≡ first_fault limits g → n ≤ k → NoFault g
unfolding first_fault is_fault
no_faults g n k size e h = let l = first_bound (is_fault g) (length g) 0 in omega arith

module _ (bytes : List ℕ) (b : Bool) (long : b ≡ bad_length limits bytes) where
  pub length_refused : b ≡ true → Err Length ≡ grammar_answer limits bytes
  unfolding grammar_answer
  length_refused t = rw (← long, t)

  module _ (n k : ℕ) (size : n ≡ length (records bytes)) (fault : k ≡ first_fault limits (records bytes)) where
    pub record_refused : (f : GrammarRefusal) → b ≡ false → k < n
        → f ≡ fault_at limits (records bytes) k → Err f ≡ grammar_answer limits bytes
    unfolding grammar_answer
    record_refused f t h e = rw (← long, t, ← fault, ← size, lt-ltb k n h, ← e)

    pub from_six_lem : (a : Result (Unit {0}) GrammarRefusal) → b ≡ false → n ≤ k → a ≡ answer_from_six (records bytes) → a ≡ grammar_answer limits bytes
    unfolding grammar_answer answer_from_six
    from_six_lem a t h e = rw (← long, t, ← fault, ← size, le-ltb k n h) (rw size e)
