-- The run on the table of good states and the run on Knuth's go in lockstep until one ends: unless Knuth's rejects, they end alike.
use Prim.Native.Nat.{ℕ, zero, suc, ◌+◌, ◌-◌, ◌≤◌}
use mathlib.Core.Path.{◌≡◌, refl, sym, ap, ap₂, ◌∙◌}
use mathlib.Core.Logic.{◌⊎◌, inl, inr}
use mathlib.Core.Bool.{Bool, true, false, ◌&&◌}
use mathlib.Core.Option.{Option, some}
use mathlib.Core.List.{List, [], ◌∷◌}
use native.Mathlib.Omega.{arith}
use lib.ListN.{length, get_or, drop}
use lib.Dec.{eqb, leb}
use Rattle.base.specs.Pick.{pick}
use Rattle.rules.specs.Limits.{Limits}
use Rattle.rules.specs.Records.{Grammar}
use Rattle.rules.specs.Grammar.{Symbol, nonterminal, terminal, is_before, start, terminal_count, left_of}
use Rattle.rules.specs.States.{State}
use Rattle.rules.specs.Run.{Act, shift, reduce, no_act, Table, side_length, token_at}
use Rattle.rules.specs.Table.{table_of, table_in}
use Rattle.rules.specs.declared.RunEnd.TheVariants.{Rejected, StackFull}
use Rattle.knuth.specs.Rules.{Rule}
use Rattle.knuth.specs.Coded.{Checked}
use Rattle.knuth.specs.Items.{Awaits, Reduces}
use Rattle.knuth.specs.Table.{KnuthTable}
use Rattle.knuth.proofs.Dots.{symbol_behind}
use Rattle.runs.specs.Course.{Spot, Turn, goes_on, stops, Course, Allowance, turns_in, after_turn, ends_at, opened, unopened, act_at}
use Rattle.runs.specs.Course.{turn_shift, turn_goto, turn_end, turn_reduce, turn_by, turn, course_from, course}
use Rattle.runs.specs.Tails.{tails}
use Rattle.runs.specs.Good.{Covering, GoodStates}
use Rattle.runs.specs.Sentences.{AreTokens}
use Rattle.runs.proofs.Choices.{picked_alike}
use Rattle.runs.proofs.TokenPlaces.{token_at_most}
use Rattle.runs.proofs.Sources.{Popped, popped}
use Rattle.runs.proofs.KnuthHonest.{tails_length, cells_drop, act_at_lem, goto_at_lem}
use Rattle.runs.proofs.Acts.{shifts_act, reduces_act, goes_goto}
use Rattle.runs.proofs.GoodHonest.{Stacked, bottom, stacked_length, stacked_reach, stacked_drop, stacked_onto, goto_under}
use Rattle.runs.proofs.Invariants.{place_never_falls, course_from_keeps}

module _ (l : Limits) (g : Grammar) (checked : Checked l g) (states : List State) (good : GoodStates g states)
    (table : Table (List Symbol)) (knuth : KnuthTable (Rule g) (start g) (terminal_count g) table) (w : List ℕ) (below : AreTokens g w) (b : Allowance) where
  abbrev ours : Table ℕ
  ours = table_in (table_of g states)

  -- two spots that a run answers alike at
  record Alike (c : Spot ℕ) (c' : Spot (List Symbol)) : Type 0 where
    made : c.made ≡ c'.made
    steps : c.steps ≡ c'.steps
    place : c.place ≡ c'.place

  -- and whose states stand for one stack of symbols
  record Together (c : Spot ℕ) (c' : Spot (List Symbol)) : Type 0 where
    γ : List Symbol
    stacked : Stacked g states c.cells γ
    cells : c'.cells ≡ tails γ
    alike : Alike c c'

  abbrev Lock : Turn ℕ → Turn (List Symbol) → Type 0
  Lock (goes_on c) (goes_on c') = Together c c'
  Lock (goes_on c) (stops end c') = ⊥
  Lock (stops end c) (goes_on c') = ⊥
  Lock (stops end c) (stops end' c') = (end ≡ end') × Alike c c'

  module _ (c : Spot ℕ) (c' : Spot (List Symbol)) (together : Together c c') where
    abbrev γ : List Symbol
    γ = together.γ

    abbrev alike : Alike c c'
    alike = together.alike

    same_height : length c.cells ≡ length c'.cells
    same_height = stacked_length g states together.stacked ∙ sym (ap length together.cells ∙ tails_length γ)

    same_list_test : leb b.list (length c.made) ≡ leb b.list (length c'.made)
    same_list_test = ap (λ (m : List ℕ). leb b.list (length m)) alike.made

    lock_shift : (to : ℕ) (to' : List Symbol) (x : Symbol) → Stacked g states (to ∷ c.cells) (x ∷ γ) → to' ≡ x ∷ γ
        → Lock (turn_shift ours g w b to c) (turn_shift table g w b to' c')
    unfolding turn_shift
    lock_shift to to' x st e =
        picked_alike Lock (ap (leb b.stack) same_height) (refl, alike) (λ f. record {
          γ = x ∷ γ;
          stacked = st;
          cells = ap₂ ◌∷◌ e together.cells;
          alike = record { made = alike.made; steps = ap (λ n. n + 1) alike.steps; place = ap (λ n. n + 1) alike.place };
        })

    lock_goto : (p to : ℕ) (to' : List Symbol) (x : Symbol) → side_length g p ≤ length γ
        → Stacked g states (to ∷ drop (side_length g p) c.cells) (x ∷ drop (side_length g p) γ) → to' ≡ x ∷ drop (side_length g p) γ
        → Lock (turn_goto ours g w b p (some to) c) (turn_goto table g w b p (some to') c')
    unfolding turn_goto
    lock_goto p to to' x fits st e =
        let k : ℕ = side_length g p in
        picked_alike Lock same_list_test (refl, alike) (λ f.
        picked_alike Lock (ap (λ (n : ℕ). leb b.stack (n - k)) same_height) (refl, alike) (λ f'. record {
          γ = x ∷ drop k γ;
          stacked = st;
          cells = ap₂ ◌∷◌ e (cells_drop γ together.cells k fits);
          alike = record { made = ap (λ (m : List ℕ). p ∷ m) alike.made; steps = ap (λ n. n + 1) alike.steps; place = alike.place };
        }))

    lock_end : Lock (turn_end ours g w b c) (turn_end table g w b c')
    unfolding turn_end
    lock_end =
        picked_alike Lock (ap₂ (λ (m n : ℕ). eqb m (length w) && eqb n (side_length g 0 + 1)) alike.place same_height)
        (picked_alike Lock same_list_test (refl, alike)
        (λ f. (refl, record { made = ap (λ (m : List ℕ). 0 ∷ m) alike.made; steps = ap (λ n. n + 1) alike.steps; place = alike.place })))
        (λ f. (refl, alike))

    -- where Knuth's table goes on after a reduction, ours does
    lock_reduce : (p : ℕ) → Reduces (Rule g) (start g) (terminal_count g) γ p (token_at g w c'.place) → Lock (turn_reduce ours g w b p c) (turn_reduce table g w b p c')
    unfolding turn_reduce table_in
    lock_reduce zero r = lock_end
    lock_reduce (suc p) r =
        picked_alike Lock (ap (λ (n : ℕ). leb n k) same_height) (refl, alike) (λ f. go _ _ _ our_goto knuths_goto (stacked_onto g states under cov.among before))
      where
        k : ℕ
        k = side_length g (suc p)

        A : ℕ
        A = left_of g (suc p)

        h : Popped l g checked γ (suc p)
        h = popped l g checked (record { left = r.left; α = r.α; token = _; item = r.item })

        awaits : Awaits (Rule g) (start g) (terminal_count g) (drop k γ) (nonterminal A)
        awaits = rw h.is_under h.awaits

        under : Stacked g states (drop k c.cells) (drop k γ)
        under = stacked_drop g states k together.stacked h.fits

        cov : Covering g (get_or states (get_or (drop k c.cells) 0 0) []) awaits.production (nonterminal A ∷ awaits.β) awaits.token
        cov = good.covers (stacked_reach g states under) awaits.item

        before : is_before g (nonterminal A) cov.entry.item ≡ true
        before = (symbol_behind g cov.entry.item cov.behind).0

        our_goto : ours.goto (get_or c.cells k 0) A ≡ some cov.entry.next
        our_goto = sym (goto_under g states c.cells k A) ∙ goes_goto g states good (get_or (drop k c.cells) 0 0) A cov.among before

        knuths_goto : table.goto (get_or c'.cells k table.bottom) A ≡ some (nonterminal A ∷ drop k γ)
        knuths_goto =
            sym (goto_at_lem g table knuth γ together.cells k A) ∙ (knuth.goes (drop k γ) (nonterminal A ∷ drop k γ) A).1 (refl, awaits)

        go : (o : Option ℕ) (o' : Option (List Symbol)) (to : ℕ) → o ≡ some to → o' ≡ some (nonterminal A ∷ drop k γ)
            → Stacked g states (to ∷ drop k c.cells) (nonterminal A ∷ drop k γ) → Lock (turn_goto ours g w b (suc p) o c) (turn_goto table g w b (suc p) o' c')
        go o o' to e e' st = rw (e, e') (lock_goto (suc p) to (nonterminal A ∷ drop k γ) (nonterminal A) h.fits st refl)

    -- ---- what Knuth's table does, ours does
    abbrev t : ℕ
    t = token_at g w c'.place

    abbrev top : ℕ
    top = get_or c.cells 0 0

    knuth_acts : table.act γ t ≡ act_at table g w c'
    knuth_acts = act_at_lem g table knuth γ together.cells t

    ours_acts : (a : Act ℕ) → ours.act top t ≡ a → act_at ours g w c ≡ a
    unfolding table_in
    ours_acts a e = ap (λ (n : ℕ). ours.act top (token_at g w n)) alike.place ∙ e

    lock_by : (a' : Act (List Symbol)) → act_at table g w c' ≡ a' → (a' ≡ no_act → ⊥) → Lock (turn_by ours g w b (act_at ours g w c) c) (turn_by table g w b a' c')
    unfolding turn_by
    lock_by no_act e h = absurd (h refl)
    lock_by (shift to') e h =
        let (q, a) = (knuth.shifts γ to' t).0 (knuth_acts ∙ e) in
        let cov = good.covers (stacked_reach g states together.stacked) a.item in
        let before = (symbol_behind g cov.entry.item cov.behind).0 in
        let f : act_at ours g w c ≡ shift cov.entry.next = ours_acts (shift cov.entry.next) (shifts_act g states good top t cov.among before) in
        go (act_at ours g w c) cov.entry.next f (terminal t) (stacked_onto g states together.stacked cov.among before) q
      where
        go : (a : Act ℕ) (to : ℕ) → a ≡ shift to → (x : Symbol) → Stacked g states (to ∷ c.cells) (x ∷ γ) → to' ≡ x ∷ γ
            → Lock (turn_by ours g w b a c) (turn_by table g w b (shift to') c')
        go a to f x st q = rw f (picked_alike Lock (ap (leb b.limit) alike.steps) (refl, alike) (λ f'. lock_shift to to' x st q))
    lock_by (reduce p) e h =
        let r = (knuth.reduces γ t p).0 (knuth_acts ∙ e) in
        let cov = good.covers (stacked_reach g states together.stacked) r.item in
        let f : ours.act top t ≡ reduce p =
        reduces_act g states good top t (token_at_most g w below c'.place) cov.among cov.behind (cov.token refl) ∙ ap reduce cov.number in
        go (act_at ours g w c) (ours_acts (reduce p) f) r
      where
        go : (a : Act ℕ) → a ≡ reduce p → Reduces (Rule g) (start g) (terminal_count g) γ p t → Lock (turn_by ours g w b a c) (turn_by table g w b (reduce p) c')
        go a f r = rw f (picked_alike Lock (ap (leb b.limit) alike.steps) (refl, alike) (λ f'. lock_reduce p r))

  -- ---- the courses
  -- they end alike, or Knuth's has rejected and ours is no earlier
  abbrev pub EndAlike : Course ℕ → Course (List Symbol) → Type 0
  EndAlike r r' = ((r.end ≡ r'.end) × (r.spot.made ≡ r'.spot.made) × (r.spot.steps ≡ r'.spot.steps) × (r.spot.place ≡ r'.spot.place))
      ⊎ ((r'.end ≡ Rejected) × (r'.spot.place ≤ r.spot.place))

  course_from_lock : (fuel : ℕ) (c : Spot ℕ) (c' : Spot (List Symbol)) → Together c c' → EndAlike (course_from ours g w b fuel c) (course_from table g w b fuel c')
  unfolding course_from turn turn_by
  course_from_lock zero c c' together = let a = together.alike in inl (refl, a.made, a.steps, a.place)
  course_from_lock (suc fuel) c c' together = go (act_at table g w c') refl (course_from_lock fuel)
    where
      later : c'.place ≤ (course_from ours g w b (suc fuel) c).spot.place
      later = course_from_keeps ours g w b (λ d. c'.place ≤ d.place) (λ end d. c'.place ≤ d.place) (place_never_falls ours g w c'.place) (suc fuel) c
          (omega (arith, together.alike.place))

      More : Type 0
      More = (c : Spot ℕ) (c' : Spot (List Symbol)) → Together c c' → EndAlike (course_from ours g w b fuel c) (course_from table g w b fuel c')

      by_turn : (t : Turn ℕ) (t' : Turn (List Symbol)) → Lock t t' → More → EndAlike (after_turn (course_from ours g w b fuel) t) (after_turn (course_from table g w b fuel) t')
      by_turn (goes_on c) (goes_on c') h more = more c c' h
      by_turn (goes_on c) (stops end c') h more = absurd h
      by_turn (stops end c) (goes_on c') h more = absurd h
      by_turn (stops end c) (stops end' c') (e, a) more = inl (e, a.made, a.steps, a.place)

      go : (a' : Act (List Symbol)) → act_at table g w c' ≡ a' → More
          → EndAlike (course_from ours g w b (suc fuel) c) (after_turn (course_from table g w b fuel) (turn_by table g w b a' c'))
      go no_act e more = inr (refl, later)
      go (shift to) e more =
          by_turn (turn ours g w b c) (turn_by table g w b (shift to) c') (lock_by c c' together (shift to) e (λ q. let z : ◌≡◌ {A = ℕ} 0 1 = cc in omega arith)) more
      go (reduce p) e more =
          by_turn (turn ours g w b c) (turn_by table g w b (reduce p) c') (lock_by c c' together (reduce p) e (λ q. let z : ◌≡◌ {A = ℕ} 0 1 = cc in omega arith)) more

  pub lockstep : EndAlike (course ours g w b) (course table g w b)
  unfolding course table_in
  lockstep = go (eqb b.stack 0)
    where
      together : Together (opened ours) (opened table)
      together = record { γ = []; stacked = bottom; cells = ap (λ x. x ∷ []) knuth.bottom; alike = record { made = refl; steps = refl; place = refl } }

      go : (t : Bool) → EndAlike (pick t (ends_at StackFull unopened) (course_from ours g w b (turns_in b) (opened ours)))
          (pick t (ends_at StackFull unopened) (course_from table g w b (turns_in b) (opened table)))
      go true = inl (refl, refl, refl, refl)
      go false = course_from_lock (turns_in b) (opened ours) (opened table) together
