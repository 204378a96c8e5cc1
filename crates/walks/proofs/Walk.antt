-- The walk of the merge stops by its test: each call that goes on walks a state that was not walked, and there are never more than the
-- limit.
use Prim.Native.Nat.{ℕ, zero, suc, ◌+◌, ◌<◌, ◌≤◌}
use mathlib.Core.Path.{◌≡◌, refl}
use mathlib.Core.Logic.{inr, ⊎_elim}
use mathlib.Core.Bool.{Bool, true, false}
use mathlib.Core.List.{List, [], ◌∷◌}
use native.Mathlib.Omega.{arith}
use lib.ListN.{length, get_or, length-append, length-set}
use lib.Dec.{eqb, leb, ltb}
use borrow.Author.Tests.{ltb-true, leb-false}
use Rattle.base.specs.Pick.{pick}
use Rattle.base.specs.Lists.{up_to}
use Rattle.base.specs.Among.{Among}
use Rattle.base.proofs.Lists.{among_at, among_cons, keep_among, up_to_among_lem}
use Rattle.rules.specs.Limits.{Limits}
use Rattle.rules.specs.Records.{Grammar}
use Rattle.rules.specs.Tokens.{has, single, join}
use Rattle.rules.specs.States.{each_in_turn, Outcome, done, refused, item_count}
use Rattle.rules.specs.Lanes.{LaneTable}
use Rattle.rules.specs.Merge.{Merge, can_join, join_groups, clones_of, clone_state, patch_links, mark_walked, joined, join_new, place_joining, Joining, with_new, join_successor, successors_of, walk}
use Rattle.sets.specs.Size.{size}
use Rattle.sets.proofs.Laws.{has_false, has_join, has_single, within_join, size_le, size_within, size_strict}
use Rattle.walks.proofs.Outcomes.{Holds, holds_pick, holds_also, holds_in_turn, same_in_turn}

module _ (l : Limits) (g : Grammar) (table : LaneTable) where
  abbrev pub stepped : ℕ → Outcome Joining → Outcome Merge
  stepped fuel o = elim o [ done j ↦ walk l g table fuel j.state j.merge | refused why ↦ refused why ]

  abbrev pub walked_by : ℕ → ℕ → Merge → Bool → Outcome Merge
  walked_by fuel s m b = elim b [
    | true ↦ done m
    | false ↦ each_in_turn (λ successor m. stepped fuel (join_successor l g table s successor m)) (successors_of table m s) (mark_walked s m)
  ]

  -- what joining a successor and marking a state keep, a walk keeps
  module _ (P : Merge → Type 0) (marking : (s : ℕ) (m : Merge) → P m → P (mark_walked s m))
      (joining : (m₀ : Merge) (s successor : ℕ) → Among successor (successors_of table m₀ s) → (m : Merge) → P m → Holds (λ j. P j.merge) (join_successor l g table s successor m)) where
    pub walk_keeps : (fuel s : ℕ) (m : Merge) → P m → Holds P (walk l g table fuel s m)
    unfolding walk
    walk_keeps zero s m p = p
    walk_keeps (suc fuel) s m p = by_test (has m.walked s) (walk_keeps fuel)
      where
        Later : Type 0
        Later = (s : ℕ) (m : Merge) → P m → Holds P (walk l g table fuel s m)

        by_joining : (o : Outcome Joining) → Holds (λ j. P j.merge) o → Later → Holds P (stepped fuel o)
        by_joining (done j) p more = more j.state j.merge p
        by_joining (refused why) p more = tt

        by_test : (b : Bool) → Later → Holds P (walked_by fuel s m b)
        by_test true more = p
        by_test false more =
            holds_in_turn P (λ successor m. stepped fuel (join_successor l g table s successor m)) (successors_of table m s)
            (λ successor among m' p'. by_joining (join_successor l g table s successor m') (joining m s successor among m' p') more)
            (mark_walked s m) (marking s m p)

-- what marking a state, joining groups, linking to a clone and cloning keep, whatever the states, a walk keeps
module _ (l : Limits) (g : Grammar) (Q : Merge → Type 0) (marking : (s : ℕ) (m : Merge) → Q m → Q (mark_walked s m)) (grouping : (s t : ℕ) (m : Merge) → Q m → Q (join_groups s t m))
    (patching : (s successor clone : ℕ) (m : Merge) → Q m → Q (patch_links g s successor clone m)) (cloning : (s : ℕ) (m : Merge) → Q m → Q (clone_state s m)) where
  joined_keeps : (s successor t : ℕ) (m : Merge) → Q m → Q (joined g s successor t m)
  unfolding joined
  joined_keeps s successor t m h = by_test (eqb t successor)
    where
      by_test : (b : Bool) → Q (pick b (join_groups s t m) (patch_links g s successor t (join_groups s t m)))
      by_test true = grouping s t m h
      by_test false = patching s successor t (join_groups s t m) (grouping s t m h)

  module _ (table : LaneTable) where
    new_keeps : (s successor : ℕ) (m : Merge) → Q m → Holds Q (join_new l g table s successor m)
    unfolding join_new
    new_keeps s successor m h =
        let clone : ℕ = length m.states in
        let cloned : Merge = clone_state successor m in
        holds_pick Q (leb l.states clone) _ _ (λ _. tt)
        (λ _. holds_pick Q (ltb l.items (item_count cloned.states)) _ _ (λ _. tt)
        (λ _. holds_pick Q (can_join table cloned s clone) _ _ (λ _. joined_keeps s successor clone cloned (cloning successor m h)) (λ _. tt)))

    with_new_keeps : (t : ℕ) (o : Outcome Merge) → Holds Q o → Holds (λ j. Q j.merge) (with_new t o)
    unfolding with_new
    with_new_keeps t (done m) h = h
    with_new_keeps t (refused why) h = tt

    successor_keeps : (s successor : ℕ) (m : Merge) → Q m → Holds (λ j. Q j.merge) (join_successor l g table s successor m)
    unfolding join_successor
    successor_keeps s successor m h =
        let choices : List ℕ = successor ∷ clones_of m successor in
        let k : ℕ = place_joining table m s choices in
        holds_pick (λ j. Q j.merge) (ltb k (length choices)) _ _ (λ _. joined_keeps s successor (get_or choices k 0) m h)
        (λ _. with_new_keeps (length m.states) (join_new l g table s successor m) (new_keeps s successor m h))

    pub steps_keep : (fuel s : ℕ) (m : Merge) → Q m → Holds Q (walk l g table fuel s m)
    steps_keep = walk_keeps l g table Q marking (λ m₀ s successor among m h. successor_keeps s successor m h)

-- ---- the limit, and the states walked
module _ (l : Limits) where
  abbrev pub Fits : Merge → Type 0
  Fits m = length m.states ≤ l.states

  -- how many of the states that there can be are walked
  abbrev pub walks : Merge → ℕ
  walks m = size l.states m.walked

  abbrev pub WalkedAtLeast : ℕ → Merge → Type 0
  WalkedAtLeast n m = Fits m × (n ≤ walks m)

  mark_walked_keeps : (n s : ℕ) (m : Merge) → WalkedAtLeast n m → WalkedAtLeast n (mark_walked s m)
  unfolding mark_walked
  mark_walked_keeps n s m (f, k) = (f, omega (arith, size_within m.walked (join m.walked (single s)) (within_join m.walked (single s)) l.states))

  -- a state that was not walked counts
  pub mark_walked_counts : (s : ℕ) (m : Merge) → s < l.states → has m.walked s ≡ false → walks m < walks (mark_walked s m)
  unfolding mark_walked
  mark_walked_counts s m b e =
      size_strict m.walked (join m.walked (single s)) (within_join m.walked (single s)) l.states s b
      ((has_join m.walked (single s) s).1 (inr ((has_single s s).1 refl))) ((has_false m.walked s).0 e)

module _ (l : Limits) (g : Grammar) (table : LaneTable) (rows : length table ≤ l.states) where
  -- ---- joining a successor walks nothing, and stays within the limit
  pub record Joins (walked : ℕ) (m : Merge) : Type 0 where
    pub fits : Fits l m
    pub same : m.walked ≡ walked

  joined_joins : (s successor t : ℕ) (m : Merge) → Fits l m → Joins m.walked (joined g s successor t m)
  unfolding joined join_groups patch_links
  joined_joins s successor t m h = by_test (eqb t successor)
    where
      by_test : (b : Bool) → Joins m.walked (pick b (join_groups s t m) (patch_links g s successor t (join_groups s t m)))
      by_test true = record { fits = h; same = refl }
      by_test false = record { fits = rw (length-set m.states s) h; same = refl }

  abbrev pub JoinsWithin : Merge → Joining → Type 0
  JoinsWithin m j = (j.state < l.states) × Joins m.walked j.merge

  new_within : (m : Merge) (o : Outcome Merge) (t : ℕ) → Holds (λ m'. (t < l.states) × Joins m.walked m') o → Holds (JoinsWithin m) (with_new t o)
  unfolding with_new
  new_within m (done m') t p = p
  new_within m (refused why) t p = tt

  clone_joins : (s successor : ℕ) (m : Merge) → length m.states < l.states
      → Joins m.walked (joined g s successor (length m.states) (clone_state successor m))
  unfolding clone_state
  clone_joins s successor m room =
      joined_joins s successor (length m.states) (clone_state successor m) (omega (arith, length-append m.states (get_or m.states successor [] ∷ [])))

  new_joins : (s successor : ℕ) (m : Merge) → Holds (λ m'. (length m.states < l.states) × Joins m.walked m') (join_new l g table s successor m)
  unfolding join_new
  new_joins s successor m =
      let clone : ℕ = length m.states in
      let cloned : Merge = clone_state successor m in
      let P : Merge → Type 0 = λ m'. (clone < l.states) × Joins m.walked m' in
      holds_pick P (leb l.states clone) _ _ (λ _. tt)
      (λ full. let room : clone < l.states = omega (arith, leb-false l.states clone full) in
      holds_pick P (ltb l.items (item_count cloned.states)) _ _ (λ _. tt)
      (λ _. holds_pick P (can_join table cloned s clone) _ _ (λ _. (room, clone_joins s successor m room)) (λ _. tt)))

  clone_below : (m : Merge) (s c : ℕ) → Among c (clones_of m s) → c < length m.states
  unfolding clones_of
  clone_below m s c among = let (i, _) = keep_among _ (up_to (length m.states)) among in (up_to_among_lem c (length m.states)).0 i

  choice_below : (m : Merge) (successor t : ℕ) → Fits l m → successor < l.states → Among t (successor ∷ clones_of m successor) → t < l.states
  choice_below m successor t h b i = ⊎_elim (λ e. rw e b) (λ c. omega (arith, clone_below m successor t c)) (among_cons i)

  pub successor_joins : (s successor : ℕ) (m : Merge) → Fits l m → successor < l.states → Holds (JoinsWithin m) (join_successor l g table s successor m)
  unfolding join_successor
  successor_joins s successor m h b =
      let choices : List ℕ = successor ∷ clones_of m successor in
      let k : ℕ = place_joining table m s choices in
      holds_pick (JoinsWithin m) (ltb k (length choices)) _ _
      (λ found. (choice_below m successor (get_or choices k 0) h b (among_at choices k 0 (ltb-true k (length choices) found)), joined_joins s successor (get_or choices k 0) m h))
      (λ _. new_within m (join_new l g table s successor m) (length m.states) (new_joins s successor m))

  -- ---- the walk only adds to the states walked
  successor_below : (m : Merge) (s successor : ℕ) → Among successor (successors_of table m s) → successor < l.states
  unfolding successors_of
  successor_below m s successor among =
      let (i, _) = keep_among _ (up_to (length table)) among in
      omega (arith, (up_to_among_lem successor (length table)).0 i)

  joining_walks_none : (n : ℕ) (m₀ : Merge) (s successor : ℕ) → Among successor (successors_of table m₀ s) → (m : Merge) → WalkedAtLeast l n m
      → Holds (λ j. WalkedAtLeast l n j.merge) (join_successor l g table s successor m)
  joining_walks_none n m₀ s successor among m (f, k) =
      holds_also (JoinsWithin m) (λ j. WalkedAtLeast l n j.merge) (λ j (w, p). (p.fits, rw p.same k)) (join_successor l g table s successor m)
      (successor_joins s successor m f (successor_below m₀ s successor among))

  pub walk_keeps_walked : (n fuel s : ℕ) (m : Merge) → WalkedAtLeast l n m → Holds (WalkedAtLeast l n) (walk l g table fuel s m)
  walk_keeps_walked n = walk_keeps l g table (WalkedAtLeast l n) (mark_walked_keeps l n) (joining_walks_none n)

  -- with fuel for one call more than there are states to walk, any larger fuel gives the same
  pub walk_fuel : (fuel larger s : ℕ) (m : Merge) → fuel ≤ larger → s < l.states → Fits l m → l.states ≤ walks l m + fuel
      → walk l g table (suc larger) s m ≡ walk l g table (suc fuel) s m
  unfolding walk
  walk_fuel zero larger s m f b h k = by_test (has m.walked s) refl
    where
      by_test : (t : Bool) → has m.walked s ≡ t → walked_by l g table larger s m t ≡ walked_by l g table zero s m t
      by_test true e = refl
      by_test false e = absurd (omega (arith, mark_walked_counts l s m b e, size_le l.states (mark_walked s m).walked))
  walk_fuel (suc fuel) zero s m f b h k = absurd (omega arith)
  walk_fuel (suc fuel) (suc larger) s m f b h k = by_test (has m.walked s) refl (walk_fuel fuel larger)
    where
      Later : Type 0
      Later = (s : ℕ) (m : Merge) → fuel ≤ larger → s < l.states → Fits l m → l.states ≤ walks l m + fuel
          → walk l g table (suc larger) s m ≡ walk l g table (suc fuel) s m

      Left : Merge → Type 0
      Left m' = Fits l m' × (l.states ≤ walks l m' + fuel)

      agree : (m' : Merge) (o : Outcome Joining) → Holds (JoinsWithin m') o → Later → l.states ≤ walks l m' + fuel → stepped l g table (suc larger) o ≡ stepped l g table (suc fuel) o
      agree m' (done j) (w, p) more r = more j.state j.merge (omega arith) w p.fits (rw p.same r)
      agree m' (refused why) p more r = refl

      left : (m' : Merge) (o : Outcome Joining) → Holds (JoinsWithin m') o → l.states ≤ walks l m' + fuel → Holds Left (stepped l g table (suc fuel) o)
      left m' (done j) (w, p) r =
          let r' : l.states ≤ walks l j.merge + fuel = rw p.same r in
          holds_also (WalkedAtLeast l (walks l j.merge)) Left (λ m'' (f, q). (f, omega arith)) (walk l g table (suc fuel) j.state j.merge)
          (walk_keeps_walked (walks l j.merge) (suc fuel) j.state j.merge (p.fits, omega arith))
      left m' (refused why) p r = tt

      by_test : (t : Bool) → has m.walked s ≡ t → Later → walked_by l g table (suc larger) s m t ≡ walked_by l g table (suc fuel) s m t
      by_test true e more = refl
      by_test false e more =
          same_in_turn Left (λ successor m. stepped l g table (suc larger) (join_successor l g table s successor m))
          (λ successor m. stepped l g table (suc fuel) (join_successor l g table s successor m)) (successors_of table m s)
          (λ successor among m' (f', r). agree m' (join_successor l g table s successor m') (successor_joins s successor m' f' (successor_below m s successor among)) more r)
          (λ successor among m' (f', r). left m' (join_successor l g table s successor m') (successor_joins s successor m' f' (successor_below m s successor among)) r)
          (mark_walked s m) ((mark_walked_keeps l 0 s m (h, omega arith)).0, omega (arith, mark_walked_counts l s m b e))
