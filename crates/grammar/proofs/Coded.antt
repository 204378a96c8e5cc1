-- What holds of a grammar whose records meet neither refusal 4 nor 5, and of bytes that the check answers `Coded`.
use Prim.Native.Nat.{ℕ, ◌%◌, ◌≤◌, ◌<◌}
use mathlib.Core.Path.{◌≡◌, refl, ◌∙◌}
use mathlib.Core.Bool.{Bool, true, false, not, ◌&&◌, ◌||◌}
use mathlib.Core.List.{List}
use native.Mathlib.Omega.{arith}
use lib.ListN.{length}
use lib.Dec.{eqb, leb, ltb}
use borrow.Author.Tests.{eqb-true, eqb-false, leb-false, ltb-false, not-false}
use Rattle.std.specs.Prelude.{Ok, Err}
use Rattle.base.specs.Loops.{first_from}
use Rattle.base.specs.Pick.{pick}
use Rattle.base.proofs.ListLoops.{first_never, first_bound, greatest_below}
use Rattle.base.proofs.Tests.{or_false}
use Rattle.rules.proofs.Answers.{err≢ok}
use Rattle.rules.proofs.Laws.{length_records}
use Rattle.rules.specs.Limits.{limits, max_terminals, max_nonterminals, max_productions, max_symbols, max_bytes}
use Rattle.rules.specs.Records.{Record, Grammar, records, past, at, is_terminal, is_left_side, bad_length, bad_record, in_sequence, out_of_sequence}
use Rattle.rules.specs.Grammar.{first_fault, terminal_count, nonterminal_count, grammar_answer}
use Rattle.rules.specs.declared.GrammarRefusal.{GrammarRefusal}
use Rattle.rules.specs.declared.GrammarRefusal.TheVariants.{Length}
use Rattle.grammar.specs.Asked.{InRange, NoFault, Faultless}
use Rattle.grammar.specs.Tests.{is_fault, count_named}

-- ---- one record
module _ (r : Record) (fine : bad_record limits r ≡ false) where
  symbol_limit : r.symbol < pick (is_terminal r) max_terminals max_nonterminals
  unfolding bad_record limits
  symbol_limit = leb-false _ _ (or_false (ltb 1 r.kind) _ (or_false (not (eqb r.zero_byte 0)) _ fine).1).1

  pub terminal_below : is_terminal r ≡ true → r.symbol < max_terminals
  terminal_below t = rw t at symbol_limit

  pub symbol_below : r.symbol < max_nonterminals
  symbol_below = go (is_terminal r) refl
    where
      go : (b : Bool) → is_terminal r ≡ b → r.symbol < max_nonterminals
      go true t = let h : r.symbol < max_terminals = rw t at symbol_limit in omega arith
      go false t = rw t at symbol_limit

-- ---- a record of a grammar
module _ (g : Grammar) (clean : NoFault g) (i : ℕ) (h : i < length g) where
  no_fault : is_fault g i ≡ false
  unfolding first_fault is_fault
  no_fault = first_never (is_fault g) (length g) 0 i (clean ∙ omega arith) (omega arith) (omega arith)

  pub fine_record : bad_record limits (at g i) ≡ false
  unfolding is_fault
  fine_record = (or_false (bad_record limits (at g i)) _ no_fault).0

  fine_place : out_of_sequence limits g i ≡ false
  unfolding is_fault
  fine_place = (or_false (bad_record limits (at g i)) _ no_fault).1

  pub in_sequence_lem : in_sequence g i ≡ true
  unfolding out_of_sequence limits
  in_sequence_lem = not-false _ (or_false (not (in_sequence g i)) _ fine_place).0

  -- what refusal 5 asks besides
  in_limits : ((is_left_side (at g i) && is_terminal (at g i))
      || (leb max_productions (at g i).production || ltb max_symbols (at g i).position)) ≡ false
  unfolding out_of_sequence limits
  in_limits = (or_false (not (in_sequence g i)) _ fine_place).1

  pub left_nonterminal : is_left_side (at g i) ≡ true → is_terminal (at g i) ≡ false
  left_nonterminal e =
      let both = (or_false (is_left_side (at g i) && is_terminal (at g i)) _ in_limits).0 in
      rw e at both

  place_limits : (leb max_productions (at g i).production || ltb max_symbols (at g i).position) ≡ false
  place_limits = (or_false (is_left_side (at g i) && is_terminal (at g i)) _ in_limits).1

  pub production_below : (at g i).production < max_productions
  production_below = leb-false _ _ (or_false (leb max_productions (at g i).production) _ place_limits).0

  pub position_below : (at g i).position ≤ max_symbols
  position_below = ltb-false _ _ (or_false (leb max_productions (at g i).production) _ place_limits).1

-- ---- the symbol of a record of the bytes
module _ (bytes : List ℕ) (i : ℕ) where
  pub symbol_within : Faultless bytes → InRange i bytes → (at (records bytes) i).symbol < max_nonterminals
  symbol_within clean h =
      let l = length_records bytes in
      symbol_below (at (records bytes) i) (fine_record (records bytes) clean i (omega arith))

  pub symbol_read : (a : ℕ) → Faultless bytes → InRange i bytes → a ≡ (at (records bytes) i).symbol → a < max_nonterminals
  symbol_read a clean h e = rw e (symbol_within clean h)

-- ---- n and m
module _ (g : Grammar) (clean : NoFault g) where
  terminal_named : (i : ℕ) → i < length g → count_named true (at g i) ≤ max_terminals
  unfolding count_named
  terminal_named i h = go (is_terminal (at g i)) refl
    where
      go : (b : Bool) → is_terminal (at g i) ≡ b → count_named true (at g i) ≤ max_terminals
      go true t = let l = terminal_below (at g i) (fine_record g clean i h) t in rw t (omega arith)
      go false t = rw t (omega arith)

  nonterminal_named : (i : ℕ) → i < length g → count_named false (at g i) ≤ max_nonterminals
  unfolding count_named
  nonterminal_named i h = go (is_terminal (at g i)) refl
    where
      go : (b : Bool) → is_terminal (at g i) ≡ b → count_named false (at g i) ≤ max_nonterminals
      go true t = rw t (omega arith)
      go false t = let l = symbol_below (at g i) (fine_record g clean i h) in rw t (omega arith)

  pub terminal_count_below : terminal_count g ≤ max_terminals
  unfolding terminal_count count_named at
  terminal_count_below = greatest_below (count_named true) past max_terminals g terminal_named

  pub nonterminal_count_below : nonterminal_count g ≤ max_nonterminals
  unfolding nonterminal_count count_named at
  nonterminal_count_below = greatest_below (count_named false) past max_nonterminals g nonterminal_named

pub nonterminal_within : (g : Grammar) (m a : ℕ) → NoFault g → m ≡ nonterminal_count g → a < m → a < max_nonterminals
nonterminal_within g m a clean e h = let l = nonterminal_count_below g clean in omega arith

-- ---- bytes that the check answers `Ok`
module _ {A : Type 0} (b : Bool) (x y v : A) (e : pick b x y ≡ v) (other : x ≡ v → ⊥) where
  pick_test : b ≡ false
  pick_test = go b e
    where
      go : (c : Bool) → pick c x y ≡ v → c ≡ false
      go true f = absurd (other f)
      go false f = refl

  pick_rest : y ≡ v
  pick_rest = rw pick_test at e

-- a search that is not below its count went through all of it
through : (test : ℕ → Bool) (n : ℕ) → ltb (first_from test n 0) n ≡ false → first_from test n 0 ≡ n
through test n e =
    let h : n ≤ first_from test n 0 = ltb-false _ _ e in
    let l = first_bound test n 0 in
    omega arith

module _ (bytes : List ℕ) (answer : grammar_answer limits bytes ≡ Ok tt) where
  length_fine : bad_length limits bytes ≡ false
  unfolding grammar_answer
  length_fine = pick_test (bad_length limits bytes) (Err Length) _ (Ok tt) answer (err≢ok Length tt)

  pub coded_some : 0 < length bytes
  unfolding bad_length limits
  coded_some = let n : length bytes ≡ 0 → ⊥ = eqb-false _ _ (or_false (eqb (length bytes) 0) _ length_fine).0 in omega arith

  length_limits : (ltb max_bytes (length bytes) || not (eqb (length bytes % 8) 0)) ≡ false
  unfolding bad_length limits
  length_limits = (or_false (eqb (length bytes) 0) _ length_fine).1

  pub coded_short : length bytes ≤ max_bytes
  coded_short = ltb-false _ _ (or_false (ltb max_bytes (length bytes)) _ length_limits).0

  pub coded_whole : length bytes % 8 ≡ 0
  coded_whole = eqb-true _ _ (not-false _ (or_false (ltb max_bytes (length bytes)) _ length_limits).1)

  pub coded_faultless : Faultless bytes
  unfolding grammar_answer is_fault
  coded_faultless =
      let four = pick_rest (bad_length limits bytes) (Err Length) _ (Ok tt) answer (err≢ok Length tt) in
      through (is_fault (records bytes)) (length (records bytes)) (pick_test _ _ _ (Ok tt) four (err≢ok _ tt))
