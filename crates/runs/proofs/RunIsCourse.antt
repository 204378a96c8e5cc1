-- The run in its rooms is its course: they answer alike, and what the course has made stands at the front of the list room.
use Prim.Native.Nat.{ℕ, zero, suc, ◌+◌, ◌-◌, ◌<◌, ◌≤◌}
use mathlib.Core.Path.{◌≡◌, refl, sym, ap, ap₂, ◌∙◌}
use mathlib.Core.Bool.{Bool, true, false, ◌&&◌}
use mathlib.Core.Option.{Option, none, some}
use mathlib.Core.List.{List, [], ◌∷◌, ◌++◌, reverse, reverse_aux-eq, append_assoc}
use native.Mathlib.Omega.{arith}
use lib.ListN.{length, get_or, set, take, drop, length-set, length-drop, length-reverse}
use lib.Seq.{drop-cons, set_at, get_or-set_same, get_or-set_other, get_or-drop, take_at}
use lib.Dec.{eqb, leb}
use borrow.Author.Tests.{leb-false, eqb-false}
use Rattle.base.specs.Pick.{pick}
use Rattle.rules.specs.Records.{Grammar}
use Rattle.rules.specs.Grammar.{left_of}
use Rattle.rules.specs.Rooms.{overwritten}
use Rattle.rules.specs.Run.{Act, shift, reduce, no_act, Table, Standing, Moved, goes, ends, RunResult, list_full, stack_full, side_length, token_at, state_under}
use Rattle.rules.specs.Run.{move_shift, move_goto, move_end, move_reduce, move_by, move, answered, run_from, run}
use Rattle.rules.specs.declared.RunEnd.{RunEnd}
use Rattle.rules.specs.declared.RunEnd.TheVariants.{StackFull, StepLimit}
use Rattle.rules.specs.declared.RunAnswer.{RunAnswer}
use Rattle.runs.specs.Course.{Spot, Turn, goes_on, stops, Course, Allowance, turns_in, allowance_of, after_turn, ends_at, opened, unopened, answer_of}
use Rattle.runs.specs.Course.{turn_shift, turn_goto, turn_end, turn_reduce, turn_by, turn, course_from, course}
use Rattle.runs.specs.Sentences.{listed_of}
use Rattle.runs.proofs.Choices.{picked_alike}

-- ---- a state put where m states stood over those that stay, and a production put behind those listed
state_put : {S : Type 0} (stack cells : List S) (d : S) (depth m i : ℕ) (to : S) → i ≡ depth - m → m ≤ depth → i < length stack
    → ((k : ℕ) → k < depth → get_or stack (depth - 1 - k) d ≡ get_or cells k d)
    → (k : ℕ) → k < i + 1 → get_or (set stack i to) (i + 1 - 1 - k) d ≡ get_or (to ∷ drop m cells) k d
state_put stack cells d depth m i to e h lt live zero l =
    let q : i + 1 - 1 - 0 ≡ i = omega arith in
    ap (λ (j : ℕ). get_or (set stack i to) j d) q ∙ get_or-set_same stack i to d lt
state_put stack cells d depth m i to e h lt live (suc k) l =
    let q : i + 1 - 1 - suc k ≡ depth - 1 - (m + k) = omega arith in
    ap (λ (j : ℕ). get_or (set stack i to) j d) q ∙ get_or-set_other stack i (depth - 1 - (m + k)) to d (λ z. omega arith) ∙ live (m + k) (omega arith)
    ∙ sym (get_or-drop m cells k d)

production_put : (made room : List ℕ) (p : ℕ) → length made < length room → set (overwritten (reverse made) room) (length made) p ≡ overwritten (reverse (p ∷ made)) room
unfolding overwritten
production_put made room p h =
    let n : ℕ = length made in
    ap (λ (k : ℕ). set (reverse made ++ drop k room) n p) (length-reverse made)
    ∙ ap (λ (l : List ℕ). set (reverse made ++ l) n p) (drop-cons room n 0 h)
    ∙ set_at (reverse made) (get_or room n 0) (drop (suc n) room) p n (length-reverse made)
    ∙ sym (append_assoc (reverse made) (p ∷ []) (drop (suc n) room))
    ∙ ap (λ (l : List ℕ). l ++ drop (suc n) room) (sym (reverse_aux-eq made (p ∷ [])))
    ∙ ap (λ (k : ℕ). reverse (p ∷ made) ++ drop k room) (sym (length-reverse (p ∷ made)))

module _ {S : Type 0} (table : Table S) (g : Grammar) (tokens : List ℕ) (limit height : ℕ) (room : List ℕ) where
  abbrev b : Allowance
  b = record { stack = height; list = length room; limit = limit }

  -- what a standing leaves is what a spot says,
  record Leaves (s : Standing S) (c : Spot S) : Type 0 where
    listed : s.listed ≡ length c.made
    list : s.list ≡ overwritten (reverse c.made) room
    long : length s.list ≡ length room
    steps : s.steps ≡ c.steps
    place : s.place ≡ c.place

  -- and the states that stand are its cells
  record Shows (s : Standing S) (c : Spot S) : Type 0 where
    depth : s.depth ≡ length c.cells
    some : 0 < s.depth
    fits : s.depth ≤ height
    stack : length s.stack ≡ height
    cells : (k : ℕ) → k < s.depth → get_or s.stack (s.depth - 1 - k) table.bottom ≡ get_or c.cells k table.bottom

  abbrev Matches : Moved S → Turn S → Type 0
  Matches (goes s) (goes_on c) = Leaves s c × Shows s c
  Matches (goes s) (stops end c) = ⊥
  Matches (ends end s) (goes_on c) = ⊥
  Matches (ends end s) (stops end' c) = (end ≡ end') × Leaves s c

  -- ---- the moves
  module _ (s : Standing S) (c : Spot S) (leaves : Leaves s c) (shows : Shows s c) where
    match_shift : (to : S) → Matches (move_shift to s) (turn_shift table g tokens b to c)
    unfolding move_shift stack_full turn_shift
    match_shift to =
        picked_alike Matches (ap₂ leb shows.stack shows.depth) (refl, leaves) (λ f.
        let lt = leb-false (length s.stack) s.depth f in
        let h = shows.depth in
        let k = shows.stack in (
          record {
            listed = leaves.listed;
            list = leaves.list;
            long = leaves.long;
            steps = ap (λ n. n + 1) leaves.steps;
            place = ap (λ n. n + 1) leaves.place;
          },
          record {
            depth = omega arith;
            some = omega arith;
            fits = omega arith;
            stack = length-set s.stack s.depth to ∙ k;
            cells = state_put s.stack c.cells table.bottom s.depth 0 s.depth to (omega arith) (omega arith) lt shows.cells;
          },
        ))

    -- a production is listed, and a step made
    leaves_reduced : (p : ℕ) (t : Standing S) (d : Spot S) → s.listed < length s.list → t.listed ≡ s.listed + 1 → t.list ≡ set s.list s.listed p
        → t.steps ≡ s.steps + 1 → t.place ≡ s.place → d.made ≡ p ∷ c.made → d.steps ≡ c.steps + 1 → d.place ≡ c.place → Leaves t d
    leaves_reduced p t d lt e₁ e₂ e₃ e₄ q₁ q₂ q₃ =
        let e = leaves.listed in
        let k = leaves.long in
        record {
          listed = omega (arith, ap (λ (m : List ℕ). length m) q₁);
          list = e₂ ∙ ap₂ (λ (l : List ℕ) (n : ℕ). set l n p) leaves.list e ∙ production_put c.made room p (omega arith)
              ∙ ap (λ (m : List ℕ). overwritten (reverse m) room) (sym q₁);
          long = ap (λ (l : List ℕ). length l) e₂ ∙ length-set s.list s.listed p ∙ k;
          steps = e₃ ∙ ap (λ n. n + 1) leaves.steps ∙ sym q₂;
          place = e₄ ∙ leaves.place ∙ sym q₃;
        }

    match_goto : (p : ℕ) (o : Option S) → side_length g p < s.depth → Matches (move_goto g p o s) (turn_goto table g tokens b p o c)
    unfolding move_goto list_full stack_full turn_goto
    match_goto p none h = (refl, leaves)
    match_goto p (some to) h =
        let m : ℕ = side_length g p in
        picked_alike Matches (ap₂ leb leaves.long leaves.listed) (refl, leaves) (λ f₁.
        picked_alike Matches (ap₂ leb shows.stack (ap (λ (n : ℕ). n - m) shows.depth)) (refl, leaves) (λ f₂.
        let lt₁ = leb-false (length s.list) s.listed f₁ in
        let lt₂ = leb-false (length s.stack) (s.depth - m) f₂ in
        let e₁ = shows.depth in
        let e₂ = shows.stack in (
          leaves_reduced p _ _ lt₁ refl refl refl refl refl refl refl,
          record {
            depth = omega (arith, length-drop m c.cells);
            some = omega arith;
            fits = omega arith;
            stack = length-set s.stack (s.depth - m) to ∙ e₂;
            cells = state_put s.stack c.cells table.bottom s.depth m (s.depth - m) to refl (omega arith) lt₂ shows.cells;
          },
        )))

    match_end : Matches (move_end g tokens s) (turn_end table g tokens b c)
    unfolding move_end list_full turn_end
    match_end =
        picked_alike Matches (ap₂ (λ (m n : ℕ). eqb m (length tokens) && eqb n (side_length g 0 + 1)) leaves.place shows.depth)
        (picked_alike Matches (ap₂ leb leaves.long leaves.listed) (refl, leaves)
        (λ f. (refl, leaves_reduced 0 _ _ (leb-false (length s.list) s.listed f) refl refl refl refl refl refl refl)))
        (λ f. (refl, leaves))

    state_under_lem : (k : ℕ) → k < s.depth → state_under table k s ≡ get_or c.cells k table.bottom
    unfolding state_under
    state_under_lem k h = shows.cells k h

    match_reduce : (p : ℕ) → Matches (move_reduce table g tokens p s) (turn_reduce table g tokens b p c)
    unfolding move_reduce turn_reduce
    match_reduce zero = match_end
    match_reduce (suc p) =
        let m : ℕ = side_length g (suc p) in
        picked_alike Matches (ap (λ (n : ℕ). leb n m) shows.depth) (refl, leaves) (λ f.
        let lt = leb-false s.depth m f in
        go _ _ (ap (λ q. table.goto q (left_of g (suc p))) (state_under_lem m lt)) lt)
      where
        go : (o o' : Option S) → o ≡ o' → side_length g (suc p) < s.depth → Matches (move_goto g (suc p) o s) (turn_goto table g tokens b (suc p) o' c)
        go o o' e h = rw e (match_goto (suc p) o' h)

    match_by : (a : Act S) → Matches (move_by table g tokens limit a s) (turn_by table g tokens b a c)
    unfolding move_by turn_by
    match_by no_act = (refl, leaves)
    match_by (shift to) = picked_alike Matches (ap (leb limit) leaves.steps) (refl, leaves) (λ f. match_shift to)
    match_by (reduce p) = picked_alike Matches (ap (leb limit) leaves.steps) (refl, leaves) (λ f. match_reduce p)

    match_move : Matches (move table g tokens limit s) (turn table g tokens b c)
    unfolding move turn
    match_move = go _ _ (ap₂ (λ q (k : ℕ). table.act q (token_at g tokens k)) (state_under_lem 0 shows.some) leaves.place)
      where
        go : (a a' : Act S) → a ≡ a' → Matches (move_by table g tokens limit a s) (turn_by table g tokens b a' c)
        go a a' e = rw e (match_by a')

  -- ---- the run
  abbrev Gives : RunResult S → Course S → Type 0
  Gives r w = (r.answer ≡ answer_of w) × (r.list ≡ overwritten (reverse w.spot.made) room)

  gives_answer : (end end' : RunEnd) (s : Standing S) (c : Spot S) → end ≡ end' → Leaves s c → Gives (answered end s) (ends_at end' c)
  unfolding answered
  gives_answer end end' s c e leaves =
      ((λ i. record { end = e i; place = leaves.place i; steps = leaves.steps i; listed = leaves.listed i }), leaves.list)

  run_from_lem : (fuel : ℕ) (s : Standing S) (c : Spot S) → Leaves s c → Shows s c → Gives (run_from table g tokens limit fuel s) (course_from table g tokens b fuel c)
  unfolding run_from course_from
  run_from_lem zero s c leaves shows = gives_answer StepLimit StepLimit s c refl leaves
  run_from_lem (suc fuel) s c leaves shows = go (move table g tokens limit s) (turn table g tokens b c) (match_move s c leaves shows) (run_from_lem fuel)
    where
      go : (m : Moved S) (t : Turn S) → Matches m t
          → ((s : Standing S) (c : Spot S) → Leaves s c → Shows s c → Gives (run_from table g tokens limit fuel s) (course_from table g tokens b fuel c))
          → Gives (elim m [ goes s' ↦ run_from table g tokens limit fuel s' | ends end s' ↦ answered end s' ]) (after_turn (course_from table g tokens b fuel) t)
      go (goes s') (goes_on c') (l, q) more = more s' c' l q
      go (goes s') (stops end c') h more = absurd h
      go (ends end s') (goes_on c') h more = absurd h
      go (ends end s') (stops end' c') (e, l) more = gives_answer end end' s' c' e l

module _ {S : Type 0} (table : Table S) (g : Grammar) (tokens : List ℕ) (limit : ℕ) (stack : List S) (list : List ℕ) where
  abbrev ran : RunResult S
  ran = run table g tokens limit stack list

  abbrev gone : Course S
  gone = course table g tokens (allowance_of limit stack list)

  pub run_is_course : (ran.answer ≡ answer_of gone) × (ran.list ≡ overwritten (reverse gone.spot.made) list)
  unfolding run course answered overwritten
  run_is_course = go (eqb (length stack) 0) refl
    where
      first : Standing S
      first = record { stack = set stack 0 table.bottom; depth = 1; list = list; listed = 0; steps = 0; place = 0 }

      none : Standing S
      none = record { stack = stack; depth = 0; list = list; listed = 0; steps = 0; place = 0 }

      first_cell : (l : List S) → 0 < length l → (k : ℕ) → k < 1 → get_or (set l 0 table.bottom) (1 - 1 - k) table.bottom ≡ get_or (table.bottom ∷ []) k table.bottom
      first_cell l h zero q = get_or-set_same l 0 table.bottom table.bottom h
      first_cell l h (suc k) q = absurd (omega arith)

      go : (t : Bool) → eqb (length stack) 0 ≡ t
          → Gives table g tokens limit (length stack) list (pick t (answered StackFull none) (run_from table g tokens limit (limit + 1) first))
          (pick t (ends_at StackFull unopened) (course_from table g tokens (allowance_of limit stack list) (turns_in (allowance_of limit stack list)) (opened table)))
      go true e = (refl, refl)
      go false e =
          let some : 0 < length stack = omega (arith, eqb-false (length stack) 0 e) in
          run_from_lem table g tokens limit (length stack) list (limit + 1) first (opened table)
          (record { listed = refl; list = refl; long = refl; steps = refl; place = refl })
          (record { depth = refl; some = omega arith; fits = some; stack = length-set stack 0 table.bottom; cells = first_cell stack some })

  -- the productions that the run has listed are those of the course, the first first
  pub listed_is_made : listed_of ran ≡ reverse gone.spot.made
  unfolding overwritten
  listed_is_made =
      let (e₁, e₂) = run_is_course in
      let made : List ℕ = gone.spot.made in
      ap₂ (λ (r : RunAnswer) (l : List ℕ). take r.listed l) e₁ e₂
      ∙ take_at (reverse made) (drop (length (reverse made)) list) (length made) (length-reverse made)
