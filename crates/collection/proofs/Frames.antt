-- What stays while states are collected.
use Prim.Native.Nat.{ℕ, ◌+◌, ◌≤◌, ◌<◌}
use mathlib.Core.Path.{◌≡◌, refl, ap, ◌∙◌}
use mathlib.Core.Bool.{Bool}
use mathlib.Core.List.{[]}
use native.Mathlib.Omega.{arith}
use lib.Seq.{get_or-set_other}
use Rattle.base.proofs.Each.{each_same}
use Rattle.rules.specs.Records.{Grammar}
use Rattle.rules.specs.Grammar.{nonterminal_count}
use Rattle.room.specs.Areas.{Room, with_entries, with_first_entries, with_sets, put_first_entry}
use Rattle.lookahead.specs.Sets.{load_set, set_at}
use Rattle.grammar.specs.Asked.{NoFault}
use Rattle.grammar.proofs.Coded.{nonterminal_count_below}
use Rattle.first.specs.Firsts.{firsts_in}
use Rattle.states.specs.StatesIn.{entry_in, first_of}
use Rattle.closures.specs.Closures.{follow_of, follow_in}
use Rattle.closures.specs.Runs.{OnlyBehind}
use Rattle.lr.specs.Expansions.{OnlyExpanded}
use Rattle.collection.specs.Collections.{elsewhere, OnlyCollected}
use Rattle.collection.specs.Expands.{OnlyNext}

pub only_none : (v : Room) → OnlyCollected v v
only_none v = record { others = refl; firsts = λ slot h. refl; cells = λ slot h ne. refl }

pub only_both : (u v w : Room) → OnlyCollected u v → OnlyCollected v w → OnlyCollected u w
only_both u v w p q = record {
  others = q.others ∙ p.others;
  firsts = λ slot h. q.firsts slot h ∙ p.firsts slot h;
  cells = λ slot h ne. q.cells slot h ne ∙ p.cells slot h ne;
}

-- ---- each step of a turn
pub only_placed : (v q : Room) (i k : ℕ) → q ≡ put_first_entry i k v → OnlyCollected v q
only_placed v q i k put = record {
  others = ap elsewhere put;
  firsts = λ slot h. ap (λ (r : Room). set_at r slot) put;
  cells = λ slot h ne. ap (λ (r : Room). set_at r slot) put;
}

pub only_next : (v q : Room) (s : ℕ) → OnlyNext v q s → OnlyCollected v q
only_next v q s only = record { others = ap elsewhere only.others; firsts = only.firsts; cells = only.cells }

pub only_expanded : (v q : Room) (s : ℕ) → OnlyExpanded v q s → OnlyCollected v q
only_expanded v q s only = record {
  others = ap elsewhere only.others;
  firsts = λ slot h. ap (λ (r : Room). set_at r slot) only.others;
  cells = λ slot h ne. ap (λ (r : Room). set_at r slot) only.others;
}

-- ---- entries behind the first s states, and then where the next state ends
pub next_behind : (v q : Room) (first s : ℕ) → first ≡ first_of v s → OnlyBehind v q first → OnlyNext v q s
next_behind v q first s e only = record {
  others = ap (with_first_entries []) only.others;
  entries = λ k h. only.entries k (omega arith);
  places = λ t h. ap (λ (r : Room). first_of r t) only.others;
  firsts = only.firsts;
  cells = only.cells;
}

module _ (p q : Room) (s to : ℕ) (put : q ≡ put_first_entry (s + 1) to p) where
  pub entry_stays : (k : ℕ) → entry_in q k ≡ entry_in p k
  unfolding entry_in
  entry_stays k = rw put

  pub place_stays : (t : ℕ) → t ≤ s → first_of q t ≡ first_of p t
  place_stays t h = ap (λ (r : Room). first_of r t) put ∙ get_or-set_other p.first_entries (s + 1) t to 0 (λ e. omega arith)

  pub next_ended : (v : Room) → OnlyNext v p s → OnlyNext v q s
  next_ended v only = record {
    others = ap (λ (r : Room). with_entries [] (with_first_entries [] (with_sets [] r))) put ∙ only.others;
    entries = λ k h. entry_stays k ∙ only.entries k h;
    places = λ t h. place_stays t h ∙ only.places t h;
    firsts = λ slot h. ap (λ (r : Room). set_at r slot) put ∙ only.firsts slot h;
    cells = λ slot h ne. ap (λ (r : Room). set_at r slot) put ∙ only.cells slot h ne;
  }

-- ---- FIRST, by which alone goes what closures hand on
pub firsts_same : (g : Grammar) (v q : Room) → NoFault g → ((slot : ℕ) → slot < 64 → set_at q slot ≡ set_at v slot) → firsts_in g q ≡ firsts_in g v
firsts_same g v q clean same =
    let few = nonterminal_count_below g clean in
    each_same (load_set q.sets) (load_set v.sets) 0 (nonterminal_count g) (λ slot h l. same slot (omega arith))

pub follow_same : (g : Grammar) (v q : Room) (canonical : Bool) (n : ℕ) → NoFault g → ((slot : ℕ) → slot < 64 → set_at q slot ≡ set_at v slot) → follow_in g canonical n q ≡ follow_in g canonical n v
follow_same g v q canonical n clean same = ap (follow_of canonical n) (firsts_same g v q clean same)
