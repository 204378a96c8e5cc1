-- What the helpers of this crate answer, in the words of `rules`.
use Rattle.std.specs.Prelude.{ℕ, Bool, not, ◌&&◌, length, ltb, Result, Ok, Err}
use Rattle.base.specs.Pick.{pick}
use Rattle.rules.specs.Records.{Record, Grammar, at, is_left_side, is_terminal}
use Rattle.rules.specs.Grammar.{has_production, nonterminal_count, first_start, first_without, first_barren}
use Rattle.rules.specs.declared.GrammarRefusal.TheVariants.{StartAgain, NoProduction, NoString}
use Rattle.rules.specs.declared.GrammarRefusal.{GrammarRefusal}

-- ---- refusals 4 and 5
-- a left side that names a terminal
unfoldable pub terminal_left : Record → Bool
unfolding is_left_side is_terminal
terminal_left r = is_left_side r && is_terminal r

-- ---- refusal 7
unfoldable pub lacks_production : Grammar → ℕ → Bool
unfolding has_production
lacks_production g a = not (has_production g a)

-- ---- refusals 6 to 8 in their order
unfoldable pub answer_from_six : Grammar → Result (Unit {0}) GrammarRefusal
answer_from_six g =
    let m : ℕ = nonterminal_count g in
    let six : Result (Unit {0}) GrammarRefusal = Err (StartAgain (at g (first_start g)).production) in
    let seven : Result (Unit {0}) GrammarRefusal = Err (NoProduction (first_without g)) in
    let eight : Result (Unit {0}) GrammarRefusal = pick (ltb (first_barren g) m) (Err (NoString (first_barren g))) (Ok tt) in
    let from_seven : Result (Unit {0}) GrammarRefusal = pick (ltb (first_without g) m) seven eight in
    pick (ltb (first_start g) (length g)) six from_seven
