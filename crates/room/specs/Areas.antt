-- The work room as the areas that it holds. Nothing else knows at which number of the room an area begins.
--
-- The token sets come last, so that no other area moves if a set takes more words. An area with two uses is never in both at once, and each
-- use begins by filling it.
use Rattle.std.specs.Prelude.{ℕ, List, drop, set}
use Rattle.base.specs.Part.{part}

pub record Room : Type 0 where
  -- item and next state of each entry
  pub entries : List ℕ
  -- each state's first entry, and behind the last state the end of the entries
  pub first_entries : List ℕ
  -- while states are built: the state and the symbol that each state was first reached by, a number for each state;
  -- while a lane is traced: the items visited in each state, a bit for each item, eight words for each state
  pub visited : List ℕ
  -- lane table: 1 where something was entered at the state, else 0
  pub entered : List ℕ
  -- lane table: each state's successors, a bit for each state, two words for each state
  pub successors : List ℕ
  -- while a lane table is traced: bit p of number s says that state p links to state s, for p below 64;
  -- while states are merged: the state that each clone was made of, itself for any other
  pub origins : List ℕ
  -- while a lane table is traced: bit p of number s says that state 64 + p links to state s;
  -- while states are merged: the head of each state's group
  pub heads : List ℕ
  -- the states that the merge has walked, a bit for each
  pub walked : List ℕ
  -- the actions of the state at hand
  pub actions : List ℕ
  -- token sets, by slot
  pub sets : List ℕ
  -- what is not used, and what is past the numbers that the builder takes
  pub rest : List ℕ

unfoldable pub view : List ℕ → Room
view w = record {
  entries = part 0 2048 w;
  first_entries = part 2048 129 w;
  visited = part 2177 1024 w;
  entered = part 3201 128 w;
  successors = part 3329 256 w;
  origins = part 3585 128 w;
  heads = part 3713 128 w;
  walked = part 3841 2 w;
  actions = part 3843 16 w;
  sets = part 3859 4225 w;
  rest = drop 8084 w;
}

-- ---- the room with other numbers in an area
abbrev pub with_entries : List ℕ → Room → Room
with_entries l r = record { entries = l; first_entries = r.first_entries; visited = r.visited; entered = r.entered; successors = r.successors; origins = r.origins; heads = r.heads; walked = r.walked; actions = r.actions; sets = r.sets; rest = r.rest }

abbrev pub with_first_entries : List ℕ → Room → Room
with_first_entries l r = record { entries = r.entries; first_entries = l; visited = r.visited; entered = r.entered; successors = r.successors; origins = r.origins; heads = r.heads; walked = r.walked; actions = r.actions; sets = r.sets; rest = r.rest }

abbrev pub with_visited : List ℕ → Room → Room
with_visited l r = record { entries = r.entries; first_entries = r.first_entries; visited = l; entered = r.entered; successors = r.successors; origins = r.origins; heads = r.heads; walked = r.walked; actions = r.actions; sets = r.sets; rest = r.rest }

abbrev pub with_entered : List ℕ → Room → Room
with_entered l r = record { entries = r.entries; first_entries = r.first_entries; visited = r.visited; entered = l; successors = r.successors; origins = r.origins; heads = r.heads; walked = r.walked; actions = r.actions; sets = r.sets; rest = r.rest }

abbrev pub with_successors : List ℕ → Room → Room
with_successors l r = record { entries = r.entries; first_entries = r.first_entries; visited = r.visited; entered = r.entered; successors = l; origins = r.origins; heads = r.heads; walked = r.walked; actions = r.actions; sets = r.sets; rest = r.rest }

abbrev pub with_origins : List ℕ → Room → Room
with_origins l r = record { entries = r.entries; first_entries = r.first_entries; visited = r.visited; entered = r.entered; successors = r.successors; origins = l; heads = r.heads; walked = r.walked; actions = r.actions; sets = r.sets; rest = r.rest }

abbrev pub with_heads : List ℕ → Room → Room
with_heads l r = record { entries = r.entries; first_entries = r.first_entries; visited = r.visited; entered = r.entered; successors = r.successors; origins = r.origins; heads = l; walked = r.walked; actions = r.actions; sets = r.sets; rest = r.rest }

abbrev pub with_walked : List ℕ → Room → Room
with_walked l r = record { entries = r.entries; first_entries = r.first_entries; visited = r.visited; entered = r.entered; successors = r.successors; origins = r.origins; heads = r.heads; walked = l; actions = r.actions; sets = r.sets; rest = r.rest }

abbrev pub with_actions : List ℕ → Room → Room
with_actions l r = record { entries = r.entries; first_entries = r.first_entries; visited = r.visited; entered = r.entered; successors = r.successors; origins = r.origins; heads = r.heads; walked = r.walked; actions = l; sets = r.sets; rest = r.rest }

abbrev pub with_sets : List ℕ → Room → Room
with_sets l r = record { entries = r.entries; first_entries = r.first_entries; visited = r.visited; entered = r.entered; successors = r.successors; origins = r.origins; heads = r.heads; walked = r.walked; actions = r.actions; sets = l; rest = r.rest }

-- ---- the room with one number of an area changed
abbrev pub put_entry : ℕ → ℕ → Room → Room
put_entry i v r = with_entries (set r.entries i v) r

abbrev pub put_first_entry : ℕ → ℕ → Room → Room
put_first_entry i v r = with_first_entries (set r.first_entries i v) r

abbrev pub put_visited : ℕ → ℕ → Room → Room
put_visited i v r = with_visited (set r.visited i v) r

abbrev pub put_entered : ℕ → ℕ → Room → Room
put_entered i v r = with_entered (set r.entered i v) r

abbrev pub put_successors : ℕ → ℕ → Room → Room
put_successors i v r = with_successors (set r.successors i v) r

abbrev pub put_origin : ℕ → ℕ → Room → Room
put_origin i v r = with_origins (set r.origins i v) r

abbrev pub put_head : ℕ → ℕ → Room → Room
put_head i v r = with_heads (set r.heads i v) r

abbrev pub put_walked : ℕ → ℕ → Room → Room
put_walked i v r = with_walked (set r.walked i v) r

abbrev pub put_action : ℕ → ℕ → Room → Room
put_action i v r = with_actions (set r.actions i v) r

abbrev pub put_set_word : ℕ → ℕ → Room → Room
put_set_word i v r = with_sets (set r.sets i v) r
