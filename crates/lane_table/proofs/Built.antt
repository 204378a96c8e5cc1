-- What a lane table that was built leaves: the states, the actions and what is not used.
use Prim.Native.Nat.{ℕ}
use mathlib.Core.Path.{◌≡◌, refl, ap, ◌∙◌}
use mathlib.Core.List.{List}
use Rattle.room.specs.Areas.{Room}
use Rattle.states.specs.StatesIn.{states_in, Placed}
use Rattle.state_graph.specs.Links.{with_links_of, OnlyLinks}
use Rattle.state_graph.proofs.Linking.{still_placed, same_states}
use Rattle.lane_table.specs.Actions.{LaneTableBuilt}
use Rattle.lane.specs.declared.Lanes.{Lanes}
use Rattle.lane.proofs.Frames.{placed_kept, states_kept}

module _ (bytes : List ℕ) (lanes : Lanes) (s : ℕ) (v q : Room) (built : LaneTableBuilt bytes lanes s v q) where
  relinked : OnlyLinks v (with_links_of q v)
  relinked = record { same = refl }

  module _ (record_count count : ℕ) (placed : Placed record_count count v) where
    between : Placed record_count count (with_links_of q v)
    between = still_placed v (with_links_of q v) relinked record_count count placed

    pub built_placed : Placed record_count count q
    built_placed = placed_kept (with_links_of q v) q built.only record_count count between

    pub built_states : states_in q count ≡ states_in v count
    built_states = states_kept (with_links_of q v) q built.only record_count count between ∙ same_states v (with_links_of q v) relinked record_count count placed

  pub built_actions : q.actions ≡ v.actions
  built_actions = ap (λ (r : Room). r.actions) built.only.others

  pub built_rest : q.rest ≡ v.rest
  built_rest = ap (λ (r : Room). r.rest) built.only.others
