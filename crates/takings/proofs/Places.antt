-- The column of a reduction: the search among the actions.
use Prim.Native.Nat.{ℕ, zero, suc, ◌+◌, ◌-◌, ◌<◌, ◌≤◌}
use mathlib.Core.Path.{◌≡◌, refl, sym, ap, ◌∙◌}
use mathlib.Core.Bool.{Bool, true, false}
use native.Mathlib.Omega.{arith}
use lib.ListN.{length, get_or}
use lib.Dec.{eqb, ltb}
use borrow.Author.Tests.{ltb-true, ltb-false}
use Rattle.std.specs.Prelude.{Some, None}
use Rattle.base.specs.Each.{each_from}
use Rattle.base.specs.Lists.{place_of}
use Rattle.base.specs.Loops.{first_from, place_below}
use Rattle.base.specs.Pick.{pick}
use Rattle.base.proofs.EachLeft.{each_length}
use Rattle.rules.specs.Lanes.{is_reduce}
use Rattle.room.specs.Areas.{Room}
use Rattle.lane_table.specs.Actions.{action_of, action_at, actions_in}
use Rattle.lane_table.specs.Numbers.{number_of}
use Rattle.lane_table.specs.declared.area.Action.{Action}
use Rattle.lane_table.specs.declared.area.Action.TheVariants.{Shift, Reduce}
use Rattle.lane_table.proofs.Numbers.{shift_number, reduce_number}

pub actions_length : (v : Room) (width : ℕ) → length (actions_in v width) ≡ width
unfolding actions_in
actions_length v width = each_length (action_at v) 0 width

-- ---- the action of a column is the reduction by item i, or not
module _ (v : Room) (c i : ℕ) (x : Action) (read : number_of x ≡ get_or v.actions c 0) where
  pub reduces : (j : ℕ) → x ≡ Reduce j → eqb i j ≡ is_reduce i (action_at v c)
  unfolding is_reduce
  reduces j e = sym (ap (is_reduce i) (ap action_of (sym read ∙ ap number_of e) ∙ reduce_number j))

  pub reduces_not : (t : ℕ) → x ≡ Shift t → false ≡ is_reduce i (action_at v c)
  unfolding is_reduce
  reduces_not t e = sym (ap (is_reduce i) (ap action_of (sym read ∙ ap number_of e) ∙ shift_number t))

-- ---- the search goes over the columns, and the place is that in the list of the actions
place_from : {A : Type 0} (test : A → Bool) (f : ℕ → A) (n k : ℕ) → first_from (λ c. test (f c)) n k ≡ k + place_of test (each_from f k n)
unfolding first_from place_of each_from
place_from test f zero k = omega arith
place_from test f (suc n) k = by_test (test (f k)) (place_from test f n (suc k))
  where
    by_test : (b : Bool) → first_from (λ c. test (f c)) n (suc k) ≡ suc k + place_of test (each_from f (suc k) n)
        → pick b k (first_from (λ c. test (f c)) n (suc k)) ≡ k + pick b 0 (suc (place_of test (each_from f (suc k) n)))
    by_test true e = omega arith
    by_test false e = omega (arith, e)

pub column_is : (v : Room) (width i : ℕ) → first_from (λ c. is_reduce i (action_at v c)) (width - 0) 0 ≡ place_of (is_reduce i) (actions_in v width)
unfolding actions_in
column_is v width i = let e : width - 0 ≡ width = omega arith in rw e (place_from (is_reduce i) (action_at v) width 0 ∙ omega arith)

-- ---- the place among the columns, if there is one
module _ (n i : ℕ) where
  pub below_some : (c : ℕ) → place_below n i ≡ Some c → (i ≡ c) × (i < n)
  below_some c = by_test (ltb i n) (λ e. ltb-true i n e)
    where
      by_test : (b : Bool) → (b ≡ true → i < n) → pick b (Some i) None ≡ Some c → (i ≡ c) × (i < n)
      by_test true low is = (cc, low refl)
      by_test false low is = let z : ◌≡◌ {A = ℕ} 0 1 = cc in absurd (omega arith)

  pub below_none : place_below n i ≡ None → n ≤ i
  below_none = by_test (ltb i n) (λ e. ltb-false i n e)
    where
      by_test : (b : Bool) → (b ≡ false → n ≤ i) → pick b (Some i) None ≡ None → n ≤ i
      by_test true past is = let z : ◌≡◌ {A = ℕ} 0 1 = cc in absurd (omega arith)
      by_test false past is = past refl
