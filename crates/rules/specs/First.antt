-- FIRST. `first0` of a suffix holds the terminals that can begin it, and Eof as a mark if it derives the empty string. `first1` drops
-- the mark and adds the given lookahead instead. FIRST of every nonterminal is collected in rounds over the productions.
--
-- S→A b, A→, A→a: FIRST of A is a and the mark; `first0` of A b is a and b.
use Rattle.std.specs.Prelude.{ℕ, ◌+◌, ◌*◌, Bool, List, [], ◌∷◌, get_or, set, replicate}
use Rattle.base.specs.Pick.{pick}
use Rattle.base.specs.Loops.{until}
use Rattle.base.specs.Lists.{each_of, fold_over}
use Rattle.rules.specs.Records.{Grammar, at}
use Rattle.rules.specs.Tokens.{TokenSet, has, single, join, within, without, eof}
use Rattle.rules.specs.Grammar.{Symbol, nonterminal, terminal, symbols_behind, left_sides, terminal_count, nonterminal_count}

-- a set for each nonterminal
abbrev pub Sets : Type 0
Sets = List TokenSet

unfoldable pub set_of : Sets → ℕ → TokenSet
set_of sets a = get_or sets a 0

unfoldable pub join_at : ℕ → TokenSet → Sets → Sets
unfolding set_of join
join_at a s sets = set sets a (join (set_of sets a) s)

unfoldable pub first0 : ℕ → Sets → List Symbol → TokenSet
unfolding eof single set_of has join without
first0 n sets [] = eof n
first0 n sets (terminal t ∷ xs) = single t
first0 n sets (nonterminal a ∷ xs) =
    let longer : TokenSet = join (without (set_of sets a) n) (first0 n sets xs) in
    pick (has (set_of sets a) n) longer (set_of sets a)

-- the terminals that can begin a suffix, and whether it derives the empty string
unfoldable pub beginning : ℕ → Sets → List Symbol → TokenSet
unfolding first0 without
beginning n sets xs = without (first0 n sets xs) n

unfoldable pub may_be_empty : ℕ → Sets → List Symbol → Bool
unfolding first0 has
may_be_empty n sets xs = has (first0 n sets xs) n

unfoldable pub first1 : ℕ → Sets → List Symbol → TokenSet → TokenSet
unfolding first0 beginning may_be_empty join
first1 n sets xs lookahead = pick (may_be_empty n sets xs) (join (beginning n sets xs) lookahead) (first0 n sets xs)

-- ---- FIRST of every nonterminal
unfoldable pub add_first : Grammar → ℕ → ℕ → Sets → Sets
unfolding at join_at first0 symbols_behind
add_first g n i sets = join_at (at g i).symbol (first0 n sets (symbols_behind g i)) sets

-- every production's left side has what begins its right side
unfoldable pub first_settled : Grammar → ℕ → Sets → Bool
unfolding each_of within first0 symbols_behind set_of at left_sides
first_settled g n sets = each_of (λ i. within (first0 n sets (symbols_behind g i)) (set_of sets (at g i).symbol)) (left_sides g)

-- a round that is not the last adds one of n + 1 tokens to one of m sets, so m (n + 1) rounds suffice
unfoldable pub first_sets : Grammar → Sets
unfolding until first_settled fold_over add_first left_sides terminal_count nonterminal_count
first_sets g =
    let n : ℕ = terminal_count g in
    let m : ℕ = nonterminal_count g in
    until (first_settled g n) (fold_over (add_first g n) (left_sides g)) (m * (n + 1)) (replicate m 0)
