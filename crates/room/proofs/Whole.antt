-- The view has all of the room: two rooms with one view are one room. So a contract that gives the view at exit gives the room at exit.
use Prim.Native.Nat.{ℕ, ◌+◌}
use mathlib.Core.Path.{◌≡◌, sym, ap, ◌∙◌}
use mathlib.Core.List.{List, ◌++◌}
use lib.ListN.{drop, take-append-drop}
use lib.Seq.{drop-drop}
use Rattle.base.specs.Part.{part}
use Rattle.base.proofs.Unique.{one_answer}
use Rattle.room.specs.Areas.{Room, view}

part_then_rest : (b n : ℕ) (w : List ℕ) → part b n w ++ drop (b + n) w ≡ drop b w
unfolding part
part_then_rest b n w = rw (← drop-drop n b w) (take-append-drop n (drop b w))

-- the areas one after the other
flat : Room → List ℕ
flat r =
    r.entries ++ (r.first_entries ++ (r.visited ++ (r.entered ++ (r.successors ++ (r.origins ++ (r.heads ++ (r.walked ++ (r.actions ++ (r.sets ++ r.rest)))))))))

flat_view : (w : List ℕ) → flat (view w) ≡ w
unfolding flat view
flat_view w =
    rw
    (part_then_rest 3859 4225 w, part_then_rest 3843 16 w, part_then_rest 3841 2 w, part_then_rest 3713 128 w, part_then_rest 3585 128 w, part_then_rest 3329 256 w, part_then_rest 3201 128 w, part_then_rest 2177 1024 w, part_then_rest 2048 129 w, part_then_rest 0 2048 w)

pub view_inj : (w v : List ℕ) → view w ≡ view v → w ≡ v
view_inj w v e = sym (flat_view w) ∙ ap flat e ∙ flat_view v

-- so two rooms that meet a promise on the view at exit are one room
pub one_room : (promised : Room) (w v : List ℕ) → view w ≡ promised → view v ≡ promised → w ≡ v
one_room promised w v e f = view_inj w v (one_answer promised (view w) (view v) e f)
