-- The item sets of stacks of symbols, by the closures and transitions of `rules`' canonical mode, with no number and no bound.
use Rattle.std.specs.Prelude.{List, [], ◌∷◌}
use Rattle.rules.specs.Records.{Grammar}
use Rattle.rules.specs.Tokens.{eof}
use Rattle.rules.specs.Grammar.{Symbol, terminal_count}
use Rattle.rules.specs.First.{first1, first_sets}
use Rattle.rules.specs.States.{State, Follow, closure, kernel_over}

-- what a closure hands on in canonical mode
abbrev pub canonical_follow : Grammar → Follow
canonical_follow g = first1 (terminal_count g) (first_sets g)

-- the start production at dot 0, with Eof
unfoldable pub start_kernel : Grammar → State
unfolding eof terminal_count
start_kernel g = record { item = 0; next = 0; set = eof (terminal_count g) } ∷ []

-- the kernel that a stack leads to, the last symbol first, and its closure
unfoldable pub kernel_at : Grammar → List Symbol → State
unfolding start_kernel kernel_over closure first1 first_sets terminal_count
kernel_at g [] = start_kernel g
kernel_at g (x ∷ γ) = kernel_over g x (closure g (canonical_follow g) (kernel_at g γ))

unfoldable pub item_set : Grammar → List Symbol → State
unfolding closure first1 first_sets terminal_count kernel_at
item_set g γ = closure g (canonical_follow g) (kernel_at g γ)
