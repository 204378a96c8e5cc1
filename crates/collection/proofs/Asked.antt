-- What callers go by: a coded grammar and a room that is long enough have what the construction asks.
use Prim.Native.Nat.{ℕ}
use mathlib.Core.Path.{◌≡◌}
use mathlib.Core.List.{List}
use native.Mathlib.Omega.{arith}
use Rattle.std.specs.Prelude.{Ok}
use Rattle.rules.specs.Limits.{limits}
use Rattle.rules.specs.Records.{records}
use Rattle.rules.specs.Grammar.{grammar_answer, terminal_count, nonterminal_count}
use Rattle.grammar.proofs.Coded.{terminal_count_below, nonterminal_count_below, coded_some, coded_short, coded_whole, coded_faultless}
use Rattle.room.specs.Bounds.{LongEnough}
use Rattle.collection.specs.Collections.{Collectable}

pub coded_collectable : (bytes : List ℕ) (n m : ℕ) (w : List ℕ) → grammar_answer limits bytes ≡ Ok tt → n ≡ terminal_count (records bytes) → m ≡ nonterminal_count (records bytes) → LongEnough w
    → Collectable bytes n m w
coded_collectable bytes n m w answer terminals nonterminals long =
    let clean = coded_faultless bytes answer in
    let few_terminals = terminal_count_below (records bytes) clean in
    let few_nonterminals = nonterminal_count_below (records bytes) clean in
    record {
      closable = record { clean = clean; short = coded_short bytes answer; few = omega arith; long = long };
      counted = record { few_terminals = omega arith; terminals = terminals; few_nonterminals = omega arith; nonterminals = nonterminals };
      some = omega (arith, coded_some bytes answer, coded_whole bytes answer);
    }
