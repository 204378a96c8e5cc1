-- What is collected along the symbols behind a dot, in the form that a search at a need goes by.
use Prim.Native.Nat.{ℕ, ◌+◌, ◌≤◌, ◌<◌}
use mathlib.Core.Path.{◌≡◌, refl, sym, ap, ◌∙◌}
use mathlib.Core.Bool.{Bool, true, false, not, false≢true}
use mathlib.Core.List.{List, [], ◌∷◌}
use native.Mathlib.Omega.{arith}
use lib.ListN.{length, drop, drop_of_length-le}
use borrow.Author.Tests.{not-true, not-false}
use Rattle.base.specs.Pick.{pick}
use Rattle.base.proofs.Each.{each_at}
use Rattle.rules.specs.Limits.{work_size}
use Rattle.rules.specs.Records.{Grammar, at, records, is_terminal}
use Rattle.rules.specs.Tokens.{TokenSet, has, single, join, without}
use Rattle.rules.specs.Grammar.{Symbol, nonterminal, terminal, symbol_of, side_of, symbols_behind, at_start, nonterminal_count}
use Rattle.rules.specs.First.{Sets, set_of, first0}
use Rattle.room.specs.Areas.{Room, view, with_sets}
use Rattle.room.specs.Bounds.{LongEnough, IsSlot}
use Rattle.room.proofs.Lengths.{view_lengths}
use Rattle.lookahead.specs.Sets.{load_set, set_at, put_set}
use Rattle.lookahead.proofs.Slots.{store_loaded, put_there, put_again}
use Rattle.rules.proofs.Laws.{length_records, side_from, nonterminal_counted_at}
use Rattle.grammar.specs.Asked.{InRange, NoFault, Faultless}
use Rattle.grammar.proofs.Coded.{nonterminal_count_below, symbol_read}
use Rattle.first.specs.Asked.{NotFirst}
use Rattle.first.specs.Firsts.{firsts_in, join_symbol, goes_on}
use Rattle.sets.proofs.Joins.{none_lacks, without_lacks, join_none, join_assoc, join_lacks, join_had, without_join, without_none}
use Rattle.first.proofs.Loads.{loads_before}

-- ---- a set put into a slot
pub slot_fits : (l : ℕ) (w : List ℕ) (slot : ℕ) → work_size ≤ l → length w ≡ l → IsSlot slot → slot < length (view w).sets
slot_fits l w slot fits same low = let sized = view_lengths w (omega arith) in omega arith

module _ (v q : Room) (slot s : ℕ) (put : q ≡ put_set slot s v) where
  pub firsts_kept : (g : Grammar) → NoFault g → NotFirst slot → firsts_in g q ≡ firsts_in g v
  firsts_kept g clean h =
      let m = nonterminal_count_below g clean in
      ap (firsts_in g) put ∙ loads_before slot s v.sets 0 (nonterminal_count g) (omega arith)

-- ---- one symbol
module _ (bytes : List ℕ) (n k slot a : ℕ) (b : Bool) (w : List ℕ) (is : b ≡ is_terminal (at (records bytes) k)) (named : a ≡ (at (records bytes) k).symbol) where
  symbol_terminal : b ≡ true → symbol_of (at (records bytes) k) ≡ terminal a
  unfolding symbol_of
  symbol_terminal t = rw (← is, t, named)

  symbol_nonterminal : b ≡ false → symbol_of (at (records bytes) k) ≡ nonterminal a
  unfolding symbol_of
  symbol_nonterminal f = rw (← is, f, named)

  module _ (t : b ≡ true) where
    pub terminal_joined : (q : Room) → q ≡ put_set slot (join (set_at (view w) slot) (single a)) (view w)
        → q ≡ put_set slot (join_symbol n (firsts_in (records bytes) (view w)) (set_at (view w) slot) (symbol_of (at (records bytes) k))) (view w)
    unfolding join_symbol
    terminal_joined q e = rw (symbol_terminal t) e

    pub terminal_stops : false ≡ goes_on n (firsts_in (records bytes) (view w)) (set_at (view w) slot) (symbol_of (at (records bytes) k))
    unfolding goes_on
    terminal_stops = rw (symbol_terminal t)

  first_of : InRange k bytes → b ≡ false → set_of (firsts_in (records bytes) (view w)) a ≡ set_at (view w) a
  unfolding set_of
  first_of h f =
      let l : (at (records bytes) k).symbol < nonterminal_count (records bytes) = nonterminal_counted_at (records bytes) k (omega (arith, length_records bytes)) (sym is ∙ f) in
      let z : 0 + a ≡ a = omega arith in
      each_at (load_set (view w).sets) 0 (nonterminal_count (records bytes)) a 0 (omega arith) ∙ ap (load_set (view w).sets) z

  module _ (p : Room) (s : ℕ) (fits : LongEnough w) (low : IsSlot slot) (h : InRange k bytes) (f : b ≡ false) (z : s ≡ a)
      (e : p ≡ put_set slot (join (set_at (view w) slot) (set_at (view w) s)) (view w)) where
    there : set_at p slot ≡ join (set_at (view w) slot) (set_of (firsts_in (records bytes) (view w)) a)
    there =
        let sized = view_lengths w fits in
        put_there (view w) p slot _ e (omega arith) ∙ ap (λ (i : ℕ). join (set_at (view w) slot) (set_at (view w) i)) z ∙ ap (join (set_at (view w) slot)) (sym (first_of h f))

    pub nonterminal_joined : (q : Room) → q ≡ put_set slot (without (set_at p slot) n) p
        → q ≡ put_set slot (join_symbol n (firsts_in (records bytes) (view w)) (set_at (view w) slot) (symbol_of (at (records bytes) k))) (view w)
    unfolding join_symbol
    nonterminal_joined q d = rw (symbol_nonterminal f, ← there) (put_again (view w) p slot _ e q _ d)

    pub nonterminal_goes : (r : Bool) → r ≡ has (set_at p slot) n → r ≡ goes_on n (firsts_in (records bytes) (view w)) (set_at (view w) slot) (symbol_of (at (records bytes) k))
    unfolding goes_on
    nonterminal_goes r x = rw (symbol_nonterminal f, ← there) x

pub first_slot_low : (bytes : List ℕ) (k a s : ℕ) → Faultless bytes → InRange k bytes → a ≡ (at (records bytes) k).symbol → s ≡ a → IsSlot s
first_slot_low bytes k a s clean h named e = let l = symbol_read bytes k a clean h named in omega arith

-- ---- first0 by its symbols
module _ (n : ℕ) (sets : Sets) where
  first0_none : first0 n sets [] ≡ single n
  unfolding first0
  first0_none = refl

  first0_terminal : (t : ℕ) (xs : List Symbol) → first0 n sets (terminal t ∷ xs) ≡ single t
  unfolding first0
  first0_terminal t xs = refl

  first0_nonterminal : (a : ℕ) (xs : List Symbol) → first0 n sets (nonterminal a ∷ xs) ≡ pick (has (set_of sets a) n) (join (without (set_of sets a) n) (first0 n sets xs)) (set_of sets a)
  unfolding first0
  first0_nonterminal a xs = refl

  module _ (found : TokenSet) (lacks : has found n ≡ false) (xs : List Symbol) where
    collect_stops : (x : Symbol) → goes_on n sets found x ≡ false → join_symbol n sets found x ≡ join found (first0 n sets (x ∷ xs))
    unfolding goes_on join_symbol
    collect_stops (terminal t) e = ap (join found) (sym (first0_terminal t xs))
    collect_stops (nonterminal a) e = without_none (join found (set_of sets a)) n e ∙ ap (join found) (sym (first0_nonterminal a xs ∙ rw (join_lacks found (set_of sets a) n e)))

    collect_goes : (x : Symbol) → goes_on n sets found x ≡ true → join (join_symbol n sets found x) (first0 n sets xs) ≡ join found (first0 n sets (x ∷ xs))
    unfolding goes_on join_symbol
    collect_goes (terminal t) e = absurd (false≢true e)
    collect_goes (nonterminal a) e =
        ap (λ (s : TokenSet). join s (first0 n sets xs)) (without_join found (set_of sets a) n lacks)
        ∙ join_assoc found (without (set_of sets a) n) (first0 n sets xs)
        ∙ ap (join found) (sym (first0_nonterminal a xs ∙ rw (join_had found (set_of sets a) n lacks e)))

  collect_lacks : (found : TokenSet) (x : Symbol) → goes_on n sets found x ≡ true → has (join_symbol n sets found x) n ≡ false
  unfolding goes_on join_symbol
  collect_lacks found (terminal t) e = absurd (false≢true e)
  collect_lacks found (nonterminal a) e = without_lacks (join found (set_of sets a)) n

-- ---- at record k: the slot has what was collected, and what is left gives t
pub record Collected (g : Grammar) (n slot : ℕ) (v : Room) (t : TokenSet) (k : ℕ) (q : Room) : Type 0 where
  pub only : q ≡ put_set slot (set_at q slot) v
  pub lacks : has (set_at q slot) n ≡ false
  pub left : join (set_at q slot) (first0 n (firsts_in g v) (side_of (drop k g))) ≡ t

pub collect_start : (g : Grammar) (n slot i : ℕ) (v : Room) → set_at v slot ≡ 0 → Collected g n slot v (first0 n (firsts_in g v) (symbols_behind g i)) (i + 1) v
unfolding symbols_behind
collect_start g n slot i v e = record {
  only = sym (ap (λ (words : List ℕ). with_sets words v) (store_loaded v.sets slot));
  lacks = rw e (none_lacks n);
  left = rw e (join_none (first0 n (firsts_in g v) (side_of (drop (i + 1) g))));
}

module _ (g : Grammar) (n slot : ℕ) (v : Room) (t : TokenSet) (k : ℕ) (q : Room) (at-k : Collected g n slot v t k q) where
  ended : side_of (drop k g) ≡ [] → (p : Room) → p ≡ put_set slot (join (set_at q slot) (single n)) q → p ≡ put_set slot t v
  ended e p put =
      let whole : join (set_at q slot) (single n) ≡ t = ap (join (set_at q slot)) (sym (first0_none n (firsts_in g v))) ∙ rw e at at-k.left in
      put_again v q slot (set_at q slot) at-k.only p t (rw whole at put)

  module _ (count : ℕ) (size : count ≡ length g) where
    pub collect_over : (p : Room) → count ≤ k → p ≡ put_set slot (join (set_at q slot) (single n)) q → p ≡ put_set slot t v
    unfolding side_of
    collect_over p h put = let l : length g ≤ k = omega arith in ended (rw (drop_of_length-le g l)) p put

    module _ (b : Bool) (starts : b ≡ at_start g k) (h : k < count) where
      more : side_of (drop k g) ≡ pick (at_start g k) [] (symbol_of (at g k) ∷ side_of (drop (k + 1) g))
      unfolding at_start
      more = side_from g k

      pub collect_ends : (p : Room) → b ≡ true → p ≡ put_set slot (join (set_at q slot) (single n)) q → p ≡ put_set slot t v
      collect_ends p f put = ended (more ∙ rw (← starts, f)) p put

      module _ (clean : NoFault g) (high : NotFirst slot) (f : b ≡ false) (d : Bool) (p : Room)
          (goes : d ≡ goes_on n (firsts_in g q) (set_at q slot) (symbol_of (at g k)))
          (put : p ≡ put_set slot (join_symbol n (firsts_in g q) (set_at q slot) (symbol_of (at g k))) q) where
        same : firsts_in g q ≡ firsts_in g v
        same = firsts_kept v q slot (set_at q slot) at-k.only g clean high

        left_here : join (set_at q slot) (first0 n (firsts_in g v) (symbol_of (at g k) ∷ side_of (drop (k + 1) g))) ≡ t
        left_here =
            let e : side_of (drop k g) ≡ symbol_of (at g k) ∷ side_of (drop (k + 1) g) = more ∙ rw (← starts, f) in
            rw e at at-k.left

        goes_here : goes_on n (firsts_in g v) (set_at q slot) (symbol_of (at g k)) ≡ d
        goes_here = sym (rw same at goes)

        put_here : p ≡ put_set slot (join_symbol n (firsts_in g v) (set_at q slot) (symbol_of (at g k))) q
        put_here = rw same at put

        pub collect_stop : not d ≡ true → p ≡ put_set slot t v
        collect_stop e =
            let whole : join_symbol n (firsts_in g v) (set_at q slot) (symbol_of (at g k)) ≡ t =
            collect_stops n (firsts_in g v) (set_at q slot) at-k.lacks (side_of (drop (k + 1) g)) (symbol_of (at g k)) (goes_here ∙ not-true d e) ∙ left_here in
            put_again v q slot (set_at q slot) at-k.only p t (rw whole at put_here)

        pub collect_on : slot < length q.sets → not d ≡ false → Collected g n slot v t (k + 1) p
        collect_on low e =
            let there : set_at p slot ≡ join_symbol n (firsts_in g v) (set_at q slot) (symbol_of (at g k)) = put_there q p slot _ put_here low in
            let on : goes_on n (firsts_in g v) (set_at q slot) (symbol_of (at g k)) ≡ true = goes_here ∙ not-false d e in
            record {
              only = rw there (put_again v q slot (set_at q slot) at-k.only p _ put_here);
              lacks = rw there (collect_lacks n (firsts_in g v) (set_at q slot) (symbol_of (at g k)) on);
              left = rw there (collect_goes n (firsts_in g v) (set_at q slot) at-k.lacks (side_of (drop (k + 1) g)) (symbol_of (at g k)) on ∙ left_here);
            }

-- the slot was cleared before
pub collect_cleared : (g : Grammar) (n slot : ℕ) (v q p : Room) (xs : List Symbol) → NoFault g → NotFirst slot → q ≡ put_set slot 0 v
    → p ≡ put_set slot (first0 n (firsts_in g q) xs) q → p ≡ put_set slot (first0 n (firsts_in g v) xs) v
collect_cleared g n slot v q p xs clean high cleared put = put_again v q slot 0 cleared p _ (rw (firsts_kept v q slot 0 cleared g clean high) at put)

pub slot_cleared : (w w₀ : List ℕ) (slot : ℕ) → LongEnough w₀ → IsSlot slot → view w ≡ put_set slot 0 (view w₀) → set_at (view w) slot ≡ 0
slot_cleared w w₀ slot fits low e = let sized = view_lengths w₀ fits in put_there (view w₀) (view w) slot 0 e (omega arith)
