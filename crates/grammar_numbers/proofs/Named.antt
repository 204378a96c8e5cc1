-- What the counts go by: the numbers that records name, the highest of them, and how many records are left sides.
use Prim.Native.Nat.{ℕ, ◌+◌, ◌<◌, max}
use mathlib.Core.Path.{◌∙◌, ◌≡◌, ap}
use mathlib.Core.List.{map}
use mathlib.Core.Bool.{Bool}
use lib.ListN.{length, drop}
use Rattle.base.specs.Lists.{greatest}
use Rattle.base.proofs.ListLoops.{greatest_turn}
use Rattle.base.proofs.Ranges.{filter_up_to}
use Rattle.std.specs.List.{range_with_len, filter}
use Rattle.rules.specs.Records.{Grammar, past, at}
use Rattle.rules.specs.Grammar.{at_start, left_sides, production_count}
use Rattle.grammar.specs.Tests.{count_named}

-- ---- the highest symbol named
pub named_turn : (b : Bool) (g : Grammar) (i a t n x h : ℕ) → n ≡ length g → i < n
    → max a (greatest (map (count_named b) (drop i g))) ≡ t → x ≡ count_named b (at g i) → h ≡ max a x
    → max h (greatest (map (count_named b) (drop (i + 1) g))) ≡ t
unfolding at
named_turn b g = greatest_turn (count_named b) past g

-- ---- the productions of n records
pub productions_counted : (g : Grammar) (n c : ℕ) → n ≡ length g → c ≡ length (filter (at_start g) (range_with_len 0 n)) → c ≡ production_count g
unfolding production_count left_sides
productions_counted g n c e f = rw (← e) (f ∙ ap length (filter_up_to (at_start g) n))
