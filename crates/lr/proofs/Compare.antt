-- Two kernels side by side: both walks stand at an entry before the symbol, or at the end, and what is left of them gives the answer.
use Prim.Native.Nat.{ℕ, zero, suc, ◌+◌, ◌-◌, ◌≤◌, ◌<◌}
use mathlib.Core.Path.{◌≡◌, refl, sym, ap, ap₂, ◌∙◌}
use mathlib.Core.Bool.{Bool, true, false, not, ◌&&◌}
use mathlib.Core.List.{List, [], ◌∷◌, map}
use native.Mathlib.Omega.{arith}
use native.Mathlib.Numerals.{add-one}
use native.Mathlib.Decide.{ℕ_discrete, dec_le}
use lib.ListN.{length}
use lib.Dec.{eqb, leb}
use borrow.Author.Tests.{eq-eqb, ne_eqb, le-leb, lt-leb, not-true, not-false}
use Rattle.std.specs.Prelude.{Option, Some, None, is_some, unwrap_or}
use Rattle.base.specs.Pick.{pick}
use Rattle.base.specs.Loops.{first_from, place_below}
use Rattle.base.specs.Lists.{keep}
use Rattle.base.proofs.EachLeft.{each_none, each_more}
use Rattle.rules.specs.Records.{Grammar, records}
use Rattle.rules.specs.Grammar.{Symbol, is_before}
use Rattle.rules.specs.States.{Entry, State, kernel_over, same_kernel}
use Rattle.room.specs.Areas.{Room}
use Rattle.states.specs.StatesIn.{entry_in, run_in, PlacedRun}
use Rattle.lr.specs.Kernels.{stands_before, first_before, same_entry}
use Rattle.lr.proofs.Walks.{below_some, below_or_end}

-- ---- what an entry becomes
abbrev pub moved : Entry → Entry
moved e = record { item = e.item + 1; next = 0; set = e.set }

module _ (g : Grammar) (x : Symbol) where
  pub kernel_none : kernel_over g x [] ≡ []
  unfolding kernel_over keep
  kernel_none = refl

  kernel_more : (e : Entry) (es : State) → kernel_over g x (e ∷ es) ≡ map moved (pick (is_before g x e.item) (e ∷ keep (λ f. is_before g x f.item) es) (keep (λ f. is_before g x f.item) es))
  unfolding kernel_over keep
  kernel_more e es = refl

  kernel_rest : (es : State) → kernel_over g x es ≡ map moved (keep (λ f. is_before g x f.item) es)
  unfolding kernel_over
  kernel_rest es = refl

  pub kernel_hit : (e : Entry) (es : State) → is_before g x e.item ≡ true → kernel_over g x (e ∷ es) ≡ moved e ∷ kernel_over g x es
  kernel_hit e es t = kernel_more e es ∙ rw (t, kernel_rest es)

  pub kernel_miss : (e : Entry) (es : State) → is_before g x e.item ≡ false → kernel_over g x (e ∷ es) ≡ kernel_over g x es
  kernel_miss e es t = kernel_more e es ∙ rw (t, kernel_rest es)

-- ---- sameness of two kernels by their first entries
next_alike : (a b : ℕ) → eqb (a + 1) (b + 1) ≡ eqb a b
next_alike a b = elim (ℕ_discrete a b) [
  | yes e ↦ eq-eqb (a + 1) (b + 1) (omega arith) ∙ sym (eq-eqb a b e)
  | no ne ↦ ne_eqb (a + 1) (b + 1) (λ e. ne (omega arith)) ∙ sym (ne_eqb a b ne)
]

same_more : (e f : Entry) (es fs : State) → same_kernel (moved e ∷ es) (moved f ∷ fs) ≡ (same_entry e f && same_kernel es fs)
unfolding same_kernel same_entry
same_more e f es fs = rw (next_alike e.item f.item)

same_none : same_kernel [] [] ≡ true
unfolding same_kernel
same_none = refl

same_shorter : (f : Entry) (fs : State) → same_kernel [] (f ∷ fs) ≡ false
unfolding same_kernel
same_shorter f fs = refl

same_longer : (e : Entry) (es : State) → same_kernel (e ∷ es) [] ≡ false
unfolding same_kernel
same_longer e es = refl

-- ---- the first place from k on
pub record FoundFrom (g : Grammar) (x : Symbol) (v : Room) (k end r : ℕ) : Type 0 where
  pub from : k ≤ r
  pub to : r ≤ end
  pub rest : kernel_over g x (run_in v k end) ≡ kernel_over g x (run_in v r end)
  pub hit : r < end → stands_before g x v r ≡ true

module _ (g : Grammar) (x : Symbol) (v : Room) where
  stands_is : (k : ℕ) → stands_before g x v k ≡ is_before g x (entry_in v k).item
  unfolding stands_before
  stands_is k = refl

  found_over : (n k end : ℕ) → n + k ≡ end → FoundFrom g x v k end (first_from (stands_before g x v) n k)
  unfolding first_from
  found_over zero k end e = record { from = omega arith; to = omega arith; rest = refl; hit = λ h. absurd (omega arith) }
  found_over (suc n) k end e = go (stands_before g x v k) refl (found_over n (suc k) end (omega arith))
    where
      go : (b : Bool) → stands_before g x v k ≡ b → FoundFrom g x v (suc k) end (first_from (stands_before g x v) n (suc k)) → FoundFrom g x v k end (first_from (stands_before g x v) (suc n) k)
      go true t more = rw t (record { from = omega arith; to = omega arith; rest = refl; hit = λ h. t })
      go false t more =
          let one : run_in v k end ≡ entry_in v k ∷ run_in v (suc k) end = rw add-one at (each_more (entry_in v) end k (omega arith)) in
          rw t (record { from = omega (arith, more.from); to = more.to; rest = ap (kernel_over g x) one ∙ kernel_miss g x (entry_in v k) _ (sym (stands_is k) ∙ t) ∙ more.rest; hit = more.hit })

  pub found : (k end r : ℕ) → k ≤ end → r ≡ first_before g x v k end → FoundFrom g x v k end r
  unfolding first_before
  found k end r h e = rw e (found_over (end - k) k end (omega arith))

  -- at an entry before x, and at the end
  pub kernel_at_lem : (k end : ℕ) → k < end → stands_before g x v k ≡ true → kernel_over g x (run_in v k end) ≡ moved (entry_in v k) ∷ kernel_over g x (run_in v (k + 1) end)
  kernel_at_lem k end h t = ap (kernel_over g x) (each_more (entry_in v) end k h) ∙ kernel_hit g x (entry_in v k) _ (sym (stands_is k) ∙ t)

  pub kernel_over_lem : (k end : ℕ) → end ≤ k → kernel_over g x (run_in v k end) ≡ []
  kernel_over_lem k end h = ap (kernel_over g x) (each_none (entry_in v) end k h) ∙ kernel_none g x

placed_from : (record_count : ℕ) (v : Room) (k end r : ℕ) → PlacedRun record_count v k end → k ≤ r → r ≤ end → PlacedRun record_count v r end
placed_from record_count v k end r run h l = record { ordered = l; bounded = run.bounded; recorded = λ j a b. run.recorded j (omega arith) b }

-- ---- the two walks
pub record SameLeft (bytes : List ℕ) (x : Symbol) (v : Room) (j-end k-end j k : ℕ) (answer : Bool) : Type 0 where
  pub one : PlacedRun (length (records bytes)) v j j-end
  pub two : PlacedRun (length (records bytes)) v k k-end
  pub j_hit : j < j-end → stands_before (records bytes) x v j ≡ true
  pub k_hit : k < k-end → stands_before (records bytes) x v k ≡ true
  pub left : same_kernel (kernel_over (records bytes) x (run_in v j j-end)) (kernel_over (records bytes) x (run_in v k k-end)) ≡ answer

pub walks_begin : (bytes : List ℕ) (x : Symbol) (v : Room) (j-first k-first j-end k-end j k : ℕ) → PlacedRun (length (records bytes)) v j-first j-end → PlacedRun (length (records bytes)) v k-first k-end
    → j ≡ first_before (records bytes) x v j-first j-end → k ≡ first_before (records bytes) x v k-first k-end
    → SameLeft bytes x v j-end k-end j k (same_kernel (kernel_over (records bytes) x (run_in v j-first j-end)) (kernel_over (records bytes) x (run_in v k-first k-end)))
walks_begin bytes x v j-first k-first j-end k-end j k run-j run-k ej ek =
    let at_j = found (records bytes) x v j-first j-end j run-j.ordered ej in
    let at-k = found (records bytes) x v k-first k-end k run-k.ordered ek in
    record {
      one = placed_from _ v j-first j-end j run-j at_j.from at_j.to;
      two = placed_from _ v k-first k-end k run-k at-k.from at-k.to;
      j_hit = at_j.hit;
      k_hit = at-k.hit;
      left = ap₂ same_kernel (sym at_j.rest) (sym at-k.rest);
    }

module _ (bytes : List ℕ) (x : Symbol) (v : Room) (j-end k-end j k : ℕ) (answer : Bool) (walk : SameLeft bytes x v j-end k-end j k answer) where
  pub walk_ends : j-end ≤ j → leb k-end k ≡ answer
  walk_ends h = elim (dec_le k-end k) [
    | yes l ↦ le-leb k-end k l ∙ sym same_none ∙ sym (ap₂ same_kernel (kernel_over_lem (records bytes) x v j j-end h) (kernel_over_lem (records bytes) x v k k-end l)) ∙ walk.left
    | no l ↦
        let m : k < k-end = omega arith in
        lt-leb k-end k m ∙ sym (same_shorter _ _) ∙ sym (ap₂ same_kernel (kernel_over_lem (records bytes) x v j j-end h) (kernel_at_lem (records bytes) x v k k-end m (walk.k_hit m))) ∙ walk.left
  ]

  module _ (h : j < j-end) where
    pub walk_place : j < 2048
    walk_place = omega (arith, walk.one.bounded)

    pub walk_next : PlacedRun (length (records bytes)) v (j + 1) j-end
    walk_next = placed_from _ v j j-end (j + 1) walk.one (omega arith) (omega arith)

    pub walk_short : k-end ≤ k → false ≡ answer
    walk_short l = sym (same_longer _ _) ∙ sym (ap₂ same_kernel (kernel_at_lem (records bytes) x v j j-end h (walk.j_hit h)) (kernel_over_lem (records bytes) x v k k-end l)) ∙ walk.left

    pub walk_falls : (j' : ℕ) → j' ≡ first_before (records bytes) x v (j + 1) j-end → j-end - j' < j-end - j
    walk_falls j' e = let at_j = found (records bytes) x v (j + 1) j-end j' (omega arith) e in omega (arith, at_j.from, at_j.to)

    module _ (l : k < k-end) where
      pub other_place : k < 2048
      other_place = omega (arith, walk.two.bounded)

      pub other_next : PlacedRun (length (records bytes)) v (k + 1) k-end
      other_next = placed_from _ v k k-end (k + 1) walk.two (omega arith) (omega arith)

      module _ (same : Bool) (says : same ≡ same_entry (entry_in v j) (entry_in v k)) where
        both_at : (same_entry (entry_in v j) (entry_in v k) && same_kernel (kernel_over (records bytes) x (run_in v (j + 1) j-end)) (kernel_over (records bytes) x (run_in v (k + 1) k-end))) ≡ answer
        both_at =
            sym (same_more (entry_in v j) (entry_in v k) _ _)
            ∙ sym (ap₂ same_kernel (kernel_at_lem (records bytes) x v j j-end h (walk.j_hit h)) (kernel_at_lem (records bytes) x v k k-end l (walk.k_hit l))) ∙ walk.left

        pub walk_differs : not same ≡ true → false ≡ answer
        walk_differs e = let f : same_entry (entry_in v j) (entry_in v k) ≡ false = sym says ∙ not-true same e in rw f at both_at

        pub walk_turns : (j' k' : ℕ) → not same ≡ false → j' ≡ first_before (records bytes) x v (j + 1) j-end → k' ≡ first_before (records bytes) x v (k + 1) k-end → SameLeft bytes x v j-end k-end j' k' answer
        walk_turns j' k' e ej ek =
            let f : same_entry (entry_in v j) (entry_in v k) ≡ true = sym says ∙ not-false same e in
            let at_j = found (records bytes) x v (j + 1) j-end j' (omega arith) ej in
            let at-k = found (records bytes) x v (k + 1) k-end k' (omega arith) ek in
            record {
              one = placed_from _ v (j + 1) j-end j' walk_next at_j.from at_j.to;
              two = placed_from _ v (k + 1) k-end k' other_next at-k.from at-k.to;
              j_hit = at_j.hit;
              k_hit = at-k.hit;
              left = ap₂ same_kernel (sym at_j.rest) (sym at-k.rest) ∙ rw f at both_at;
            }

turned : (r b : Bool) → b ≡ not r → r ≡ not b
turned true b e = rw e refl
turned false b e = rw e refl

-- ---- the two walks by their places, none at an end
pub record WalksLeft (bytes : List ℕ) (x : Symbol) (v : Room) (j-end k-end : ℕ) (one two : Option ℕ) (answer : Bool) : Type 0 where
  pub one_to : (j : ℕ) → one ≡ Some j → j < j-end
  pub two_to : (k : ℕ) → two ≡ Some k → k < k-end
  pub walk : SameLeft bytes x v j-end k-end (unwrap_or one j-end) (unwrap_or two k-end) answer

walks_at : (bytes : List ℕ) (x : Symbol) (v : Room) (j-end k-end j k : ℕ) (one two : Option ℕ) (answer : Bool) → one ≡ place_below j-end j → two ≡ place_below k-end k
    → SameLeft bytes x v j-end k-end j k answer → WalksLeft bytes x v j-end k-end one two answer
walks_at bytes x v j-end k-end j k one two answer eo et walk =
    let ej : unwrap_or one j-end ≡ j = ap (λ (o : Option ℕ). unwrap_or o j-end) eo ∙ below_or_end j-end j walk.one.ordered in
    let ek : unwrap_or two k-end ≡ k = ap (λ (o : Option ℕ). unwrap_or o k-end) et ∙ below_or_end k-end k walk.two.ordered in
    record {
      one_to = λ a e. let (p, q) = below_some j-end j a (sym eo ∙ e) in omega arith;
      two_to = λ b e. let (p, q) = below_some k-end k b (sym et ∙ e) in omega arith;
      walk = rw (ej, ek) walk;
    }

pub walks_left : (bytes : List ℕ) (x : Symbol) (v : Room) (j-first k-first j-end k-end : ℕ) (one two : Option ℕ) → PlacedRun (length (records bytes)) v j-first j-end → PlacedRun (length (records bytes)) v k-first k-end
    → one ≡ place_below j-end (first_before (records bytes) x v j-first j-end) → two ≡ place_below k-end (first_before (records bytes) x v k-first k-end)
    → WalksLeft bytes x v j-end k-end one two (same_kernel (kernel_over (records bytes) x (run_in v j-first j-end)) (kernel_over (records bytes) x (run_in v k-first k-end)))
walks_left bytes x v j-first k-first j-end k-end one two run-j run-k ej ek =
    walks_at bytes x v j-end k-end _ _ one two _ ej ek (walks_begin bytes x v j-first k-first j-end k-end _ _ run-j run-k refl refl)

module _ (bytes : List ℕ) (x : Symbol) (v : Room) (j-end k-end : ℕ) (one two : Option ℕ) (answer : Bool) (left : WalksLeft bytes x v j-end k-end one two answer) where
  pub walks_end : (r : Bool) → one ≡ None → is_some two ≡ not r → r ≡ answer
  walks_end r e is = turned r (is_some two) is ∙ go two refl ∙ walk_ends bytes x v j-end k-end _ _ answer left.walk (rw e (omega arith))
    where
      go : (o : Option ℕ) → two ≡ o → not (is_some two) ≡ leb k-end (unwrap_or two k-end)
      go None f = rw f (sym (le-leb k-end k-end (omega arith)))
      go (Some k) f = rw f (sym (lt-leb k-end k (left.two_to k f)))

  module _ (j : ℕ) (ej : one ≡ Some j) where
    at_one : SameLeft bytes x v j-end k-end j (unwrap_or two k-end) answer
    at_one = rw ej at left.walk

    pub one_place : j < 2048
    one_place = omega (arith, at_one.one.bounded, left.one_to j ej)

    pub one_next : PlacedRun (length (records bytes)) v (j + 1) j-end
    one_next = walk_next bytes x v j-end k-end j _ answer at_one (left.one_to j ej)

    pub one_more : two ≡ None → false ≡ answer
    one_more e = walk_short bytes x v j-end k-end j _ answer at_one (left.one_to j ej) (rw e (omega arith))

    pub one_falls : (next : Option ℕ) → next ≡ place_below j-end (first_before (records bytes) x v (j + 1) j-end) → j-end - unwrap_or next j-end < j-end - unwrap_or one j-end
    one_falls next e =
        let to : first_before (records bytes) x v (j + 1) j-end ≤ j-end = (found (records bytes) x v (j + 1) j-end _ one_next.ordered refl).to in
        let is : unwrap_or next j-end ≡ first_before (records bytes) x v (j + 1) j-end = ap (λ (o : Option ℕ). unwrap_or o j-end) e ∙ below_or_end j-end _ to in
        rw (is, ej) (walk_falls bytes x v j-end k-end j _ answer at_one (left.one_to j ej) _ refl)

    module _ (k : ℕ) (ek : two ≡ Some k) where
      at_two : SameLeft bytes x v j-end k-end j k answer
      at_two = rw ek at at_one

      pub two_place : k < 2048
      two_place = omega (arith, at_two.two.bounded, left.two_to k ek)

      pub two_next : PlacedRun (length (records bytes)) v (k + 1) k-end
      two_next = other_next bytes x v j-end k-end j k answer at_two (left.one_to j ej) (left.two_to k ek)

      module _ (same : Bool) (says : same ≡ same_entry (entry_in v j) (entry_in v k)) where
        pub entries_part : not same ≡ true → false ≡ answer
        entries_part = walk_differs bytes x v j-end k-end j k answer at_two (left.one_to j ej) (left.two_to k ek) same says

        pub walks_turn : (next other : Option ℕ) → not same ≡ false → next ≡ place_below j-end (first_before (records bytes) x v (j + 1) j-end) → other ≡ place_below k-end (first_before (records bytes) x v (k + 1) k-end)
            → WalksLeft bytes x v j-end k-end next other answer
        walks_turn next other e en eo = walks_at bytes x v j-end k-end _ _ next other answer en eo (walk_turns bytes x v j-end k-end j k answer at_two (left.one_to j ej) (left.two_to k ek) same says _ _ e refl refl)
