-- What the construction meets on its way: the collections before each turn, and the states before each visit of lane mode.
use Rattle.std.specs.Prelude.{ℕ, suc, ◌<◌, ◌≡◌, List, [], ◌∷◌, length}
use Rattle.rules.specs.Limits.{Limits}
use Rattle.rules.specs.Records.{Grammar}
use Rattle.rules.specs.Tokens.{TokenSet}
use Rattle.rules.specs.First.{first_sets}
use Rattle.rules.specs.States.{State, done, Follow, Collection, expand_next, lr0_states}
use Rattle.rules.specs.Merge.{resolve}

-- state 0 alone, with set s and not yet expanded
abbrev pub begun : TokenSet → Collection
begun s = record { kernels = (record { item = 0; next = 0; set = s } ∷ []) ∷ []; states = [] }

pub data CollectionMet (l : Limits) (g : Grammar) (follow : Follow) (s : TokenSet) : Collection → Type 0 where
  first : CollectionMet l g follow s (begun s)
  next : {c c' : Collection} → CollectionMet l g follow s c → length c.states < length c.kernels → expand_next l g follow c ≡ done c' → CollectionMet l g follow s c'

-- before the visit of state s
pub data StatesMet (l : Limits) (g : Grammar) : ℕ → List State → Type 0 where
  first : {states : List State} → lr0_states l g ≡ done states → StatesMet l g 0 states
  next : {s : ℕ} {states states' : List State} → StatesMet l g s states → s < length states → resolve l g (first_sets g) s states ≡ done states' → StatesMet l g (suc s) states'
