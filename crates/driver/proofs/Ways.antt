-- The ways of a move, as the code goes through them, against the definition of the run.
use Prim.Native.Nat.{ℕ, zero, suc, ◌+◌, ◌-◌, ◌<◌, ◌≤◌}
use mathlib.Core.Path.{◌≡◌, refl, sym, ◌∙◌}
use mathlib.Core.List.{List, [], ◌∷◌}
use native.Mathlib.Omega.{arith}
use native.Mathlib.Nat.{sub-zero}
use lib.ListN.{length, get_or, set, get_or-eq_default}
use borrow.Author.Tests.{eq-eqb, ne_eqb, le-leb, lt-leb}
use Rattle.rules.specs.Records.{Grammar}
use Rattle.rules.specs.Grammar.{left_of, terminal_count}
use Rattle.rules.specs.Table.{TableRecord, table_in}
use Rattle.rules.specs.Run.{Standing, Moved, ends, side_length, state_under, token_at, list_full, move_shift, move_goto, move_end, move_reduce, move_by, move}
use Rattle.rules.specs.declared.RunEnd.TheVariants.{Accepted, Rejected, Broken, ListFull, StepLimit}
use Rattle.std.specs.Prelude as code
use Rattle.record.specs.declared.lookup.Act.{Act}
use Rattle.record.specs.declared.lookup.Act.TheVariants.{Shift, Reduce}
use Rattle.record.specs.Lookup.{found_in, act_in}
use Rattle.driver.specs.Standings.{put_reduction}

-- ---- the token at a place
pub token_there : (tokens : List ℕ) (n place x : ℕ) → place < length tokens → x ≡ get_or tokens place 0 → x ≡ get_or tokens place n
token_there [] n place x h e = absurd (omega arith)
token_there (t ∷ tokens) n zero x h e = e
token_there (t ∷ tokens) n (suc place) x h e = token_there tokens n place x (omega arith) e

pub token_end : (tokens : List ℕ) (n place : ℕ) → length tokens ≤ place → n ≡ get_or tokens place n
token_end tokens n place h = sym (get_or-eq_default tokens n h)

-- ---- production 0; `symbols` is how many it has
module _ (g : Grammar) (tokens : List ℕ) (s : Standing ℕ) where
  pub off_eof : (s.place ≡ length tokens → ⊥) → ends Broken s ≡ move_end g tokens s
  unfolding move_end
  off_eof h = rw (ne_eqb s.place (length tokens) h)

  module _ (symbols : ℕ) (on-eof : s.place ≡ length tokens) (some_left : 0 < s.depth) (e : symbols ≡ side_length g 0) where
    pub more_left : (s.depth - 1 ≡ symbols → ⊥) → ends Broken s ≡ move_end g tokens s
    unfolding move_end
    more_left h = rw (eq-eqb s.place (length tokens) on-eof, ne_eqb s.depth (side_length g 0 + 1) (λ q. h (omega arith)))

    module _ (just : s.depth - 1 ≡ symbols) where
      pub end_full : length s.list ≤ s.listed → ends ListFull s ≡ move_end g tokens s
      unfolding move_end list_full
      end_full h =
          rw (eq-eqb s.place (length tokens) on-eof, eq-eqb s.depth (side_length g 0 + 1) (omega arith), le-leb (length s.list) s.listed h)

pub accepts : (g : Grammar) (tokens stack list : List ℕ) (depth listed steps place symbols : ℕ) → place ≡ length tokens → 0 < depth
    → symbols ≡ side_length g 0 → depth - 1 ≡ symbols → listed < length list
    → ends Accepted (record { stack = stack; depth = 1; list = set list listed 0; listed = listed + 1; steps = steps + 1; place = place })
    ≡ move_end g tokens (record { stack = stack; depth = depth; list = list; listed = listed; steps = steps; place = place })
unfolding move_end list_full
accepts g tokens stack list depth listed steps place symbols on-eof some_left e just h =
    rw (eq-eqb place (length tokens) on-eof, eq-eqb depth (side_length g 0 + 1) (omega arith), lt-leb (length list) listed h)

-- ---- a reduction by production p
module _ (rs : List TableRecord) (g : Grammar) (tokens : List ℕ) (p : ℕ) (s : Standing ℕ) where
  pub reduces_0 : (x : Moved ℕ) → p ≡ 0 → x ≡ move_end g tokens s → x ≡ move_reduce (table_in rs) g tokens p s
  unfolding move_reduce
  reduces_0 x z e = rw z e

  module _ (symbols : ℕ) (nonzero : p ≡ 0 → ⊥) (e : symbols ≡ side_length g p) where
    pub pops_past : s.depth ≤ symbols → ends Broken s ≡ move_reduce (table_in rs) g tokens p s
    unfolding move_reduce
    pops_past h = go p nonzero e
      where
        go : (q : ℕ) → (q ≡ 0 → ⊥) → symbols ≡ side_length g q → ends Broken s ≡ move_reduce (table_in rs) g tokens q s
        go zero n f = absurd (n refl)
        go (suc q) n f = rw (le-leb s.depth (side_length g (suc q)) (omega arith))

    module _ (pops : symbols < s.depth) (under a : ℕ) (f : under ≡ get_or s.stack (s.depth - 1 - symbols) 0) (left : a ≡ left_of g p)
        (r : code.Option ℕ) (goes : found_in r ≡ (table_in rs).goto under a) where
      by_goto : move_reduce (table_in rs) g tokens p s ≡ move_goto g p (found_in r) s
      unfolding move_reduce state_under table_in
      by_goto = go p nonzero e left
        where
          go : (q : ℕ) → (q ≡ 0 → ⊥) → symbols ≡ side_length g q → a ≡ left_of g q
              → move_reduce (table_in rs) g tokens q s ≡ move_goto g q (found_in r) s
          go zero n h l = absurd (n refl)
          go (suc q) n h l = rw (lt-leb s.depth (side_length g (suc q)) (omega arith), ← h, ← l, ← f, goes)

      pub no_goto : r ≡ code.None → ends Broken s ≡ move_reduce (table_in rs) g tokens p s
      unfolding found_in move_goto
      no_goto h = sym (by_goto ∙ rw h)

      pub reduces : (to : ℕ) (x : Moved ℕ) → r ≡ code.Some to → x ≡ put_reduction p symbols to s → x ≡ move_reduce (table_in rs) g tokens p s
      unfolding found_in move_goto put_reduction
      reduces to x h put = put ∙ sym (by_goto ∙ rw (h, e))

-- ---- a move; a is what the topmost state does at the next token
module _ (rs : List TableRecord) (g : Grammar) (tokens : List ℕ) (limit : ℕ) (s : Standing ℕ) (n state token : ℕ) (a : code.Option Act)
    (terminals : n ≡ terminal_count g) (next : token ≡ get_or tokens s.place n) (top : state ≡ get_or s.stack (s.depth - 1) 0)
    (acts : act_in a ≡ (table_in rs).act state token) where
  by_act : move (table_in rs) g tokens limit s ≡ move_by (table_in rs) g tokens limit (act_in a) s
  unfolding move state_under token_at table_in
  by_act = rw (sub-zero, ← terminals, ← next, ← top, acts)

  pub rejects : a ≡ code.None → ends Rejected s ≡ move (table_in rs) g tokens limit s
  unfolding act_in move_by
  rejects h = sym (by_act ∙ rw h)

  module _ (act : Act) (h : a ≡ code.Some act) where
    pub at_limit : limit ≤ s.steps → ends StepLimit s ≡ move (table_in rs) g tokens limit s
    unfolding act_in move_by
    at_limit l = go act h
      where
        go : (b : Act) → a ≡ code.Some b → ends StepLimit s ≡ move (table_in rs) g tokens limit s
        go (Shift to) e = sym (by_act ∙ rw (e, le-leb limit s.steps l))
        go (Reduce p) e = sym (by_act ∙ rw (e, le-leb limit s.steps l))

    pub shifts : (to : ℕ) (x : Moved ℕ) → act ≡ Shift to → s.steps < limit → x ≡ move_shift to s → x ≡ move (table_in rs) g tokens limit s
    unfolding act_in move_by
    shifts to x f l e = e ∙ sym (by_act ∙ rw (h, f, lt-leb limit s.steps l))

    pub reduces_by : (p : ℕ) (x : Moved ℕ) → act ≡ Reduce p → s.steps < limit → x ≡ move_reduce (table_in rs) g tokens p s
        → x ≡ move (table_in rs) g tokens limit s
    unfolding act_in move_by
    reduces_by p x f l e = e ∙ sym (by_act ∙ rw (h, f, lt-leb limit s.steps l))
