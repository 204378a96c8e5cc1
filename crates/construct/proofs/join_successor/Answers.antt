-- `construct::join_successor` meets its contract.
use Rattle.construct.proofs.Joinings.{joins_itself, then_placed, joins_clone, then_ready, joins_new}
use Rattle.construct.proofs.Changes.{closure_grouped}
use Prim.Native.Nat.{◌<◌}
use mathlib.Core.Path.{refl}
use native.Mathlib.Omega.{arith}
use Rattle.construct.proofs.join_successor.Goals as goal

pub returns-then-can_join : goal.returns-then-can_join
returns-then-can_join c = joins_itself _ _ _ _ _ _ _ c.requires.0 c.requires.2 c.requires.3 _ c.can_join.ensures.value c.can_join.ensures.only_closure _ refl c.if-can_join.true _ c.join_groups.ensures

pub joining_clone-requires : goal.joining_clone-requires
joining_clone-requires c = (closure_grouped _ _ c.can_join.ensures.only_closure _ _ c.requires.0.grouped, omega (arith, c.requires.1, c.can_join.auto), c.requires.2)

pub patch_links-requires : goal.patch_links-requires
patch_links-requires c =
    let here : c.in-Some.clone.0 < c.args.count = omega (arith, c.in-Some.ensures.value.0, c.in-Some.ensures.value.1) in
    (omega (arith, c.requires.1, c.can_join.auto, c.joining_clone.auto, c.join_groups-in-Some.auto), omega (arith, c.requires.2, c.requires.0.grouped.few), then_placed _ _ _ _ _ _ _ c.requires.0 c.requires.2 c.requires.3 _ c.can_join.ensures.value c.can_join.ensures.only_closure c.if-can_join.false _ c.joining_clone.ensures.only_closure _ c.in-Some.ensures.value.0 _ c.join_groups-in-Some.ensures here, omega (arith, here, c.requires.0.grouped.few))

pub join_new-requires : goal.join_new-requires
join_new-requires c = (then_ready _ _ _ _ _ _ _ c.requires.0 c.requires.2 c.requires.3 _ c.can_join.ensures.value c.can_join.ensures.only_closure c.if-can_join.false _ c.joining_clone.ensures.only_closure _ refl, omega (arith, c.requires.1, c.can_join.auto, c.joining_clone.auto), c.requires.2, omega (arith, c.requires.3, c.requires.0.grouped.rows))

pub returns : goal.returns
returns c = joins_new _ _ _ _ _ _ _ c.requires.0 c.requires.2 c.requires.3 _ c.can_join.ensures.value c.can_join.ensures.only_closure c.if-can_join.false _ c.joining_clone.ensures.only_closure _ refl _ _ c.in_default.ensures.value c.join_new.ensures

pub returns-in-Some : goal.returns-in-Some
returns-in-Some c =
    let here : c.in-Some.clone.0 < c.args.count = omega (arith, c.in-Some.ensures.value.0, c.in-Some.ensures.value.1) in
    joins_clone _ _ _ _ _ _ _ c.requires.0 c.requires.2 c.requires.3 _ c.can_join.ensures.value c.can_join.ensures.only_closure c.if-can_join.false _ c.joining_clone.ensures.only_closure _ c.in-Some.ensures.value.0 _ c.join_groups-in-Some.ensures here _ c.patch_links.ensures
