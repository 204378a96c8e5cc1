-- The token set in a slot of the room. Here a set is one word of the area of sets, and nothing else knows that: `load_set` and
-- `store_set` are shut, and their laws are in proofs/Slots.antt.
use Rattle.std.specs.Prelude.{ℕ, ◌<◌, Bool, not, ◌&&◌, List, get_or, set}
use Rattle.base.specs.Loops.{any_from}
use Rattle.rules.specs.Tokens.{TokenSet, has, single, join, within, without}
use Rattle.room.specs.Areas.{Room, with_sets}

-- how many tokens a set has room for
abbrev pub max_tokens : ℕ
max_tokens = 64

abbrev pub IsToken : ℕ → Type 0
IsToken token = token < max_tokens

unfoldable pub load_set : List ℕ → ℕ → TokenSet
load_set words slot = get_or words slot 0

unfoldable pub store_set : ℕ → TokenSet → List ℕ → List ℕ
store_set slot s words = set words slot s

abbrev pub set_at : Room → ℕ → TokenSet
set_at r slot = load_set r.sets slot

-- ---- the room with s in a slot
abbrev pub put_set : ℕ → TokenSet → Room → Room
put_set slot s r = with_sets (store_set slot s r.sets) r

-- ---- with the set of another slot in it, with that joined in, and whether it lacked some of that
abbrev pub copy_set : ℕ → ℕ → Room → Room
copy_set to from r = put_set to (set_at r from) r

abbrev pub join_set : ℕ → ℕ → Room → Room
join_set into from r = put_set into (join (set_at r into) (set_at r from)) r

abbrev pub lacks_some : ℕ → ℕ → Room → Bool
lacks_some into from r = not (within (set_at r from) (set_at r into))

-- ---- with a token in or out, and whether it was in
abbrev pub insert_token : ℕ → ℕ → Room → Room
insert_token slot token r = put_set slot (join (set_at r slot) (single token)) r

abbrev pub take_token : ℕ → ℕ → Room → Room
take_token slot token r = put_set slot (without (set_at r slot) token) r

abbrev pub has_token : ℕ → ℕ → Room → Bool
has_token slot token r = has (set_at r slot) token

-- ---- the token is in the slot `from` and not in `into`, and one of the first tokens is
unfoldable pub lacks_token : ℕ → ℕ → Room → ℕ → Bool
unfolding has
lacks_token into from r token = has_token from token r && not (has_token into token r)

abbrev pub lacks_below : ℕ → ℕ → Room → ℕ → Bool
lacks_below into from r end = any_from (lacks_token into from r) end 0
