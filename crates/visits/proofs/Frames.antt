-- What a visit leaves: FIRST stays, and so does what is past the numbers that the builder takes.
use Prim.Native.Nat.{ℕ, ◌<◌}
use mathlib.Core.Path.{◌≡◌, refl, ◌∙◌}
use mathlib.Core.List.{List}
use native.Mathlib.Omega.{arith}
use lib.ListN.{length}
use Rattle.base.proofs.Each.{each_same}
use Rattle.rules.specs.Records.{Grammar, records}
use Rattle.rules.specs.Grammar.{nonterminal_count}
use Rattle.grammar.specs.Asked.{NoFault}
use Rattle.grammar.proofs.Coded.{nonterminal_count_below}
use Rattle.room.specs.Areas.{Room}
use Rattle.room.specs.Slots.{closure_slot}
use Rattle.lookahead.specs.Sets.{load_set, set_at}
use Rattle.first.specs.Firsts.{firsts_in}
use Rattle.states.specs.StatesIn.{Placed}
use Rattle.visits.specs.Visits.{Visitable, OnlyVisited}

pub only_none : (v : Room) → OnlyVisited v v
only_none v = record { firsts = λ slot h. refl; rest = refl }

pub only_both : (u v w : Room) → OnlyVisited u v → OnlyVisited v w → OnlyVisited u w
only_both u v w p q = record { firsts = λ slot h. q.firsts slot h ∙ p.firsts slot h; rest = q.rest ∙ p.rest }

-- FIRST lies in the slots before those of the closure
pub firsts_stay : (g : Grammar) (v q : Room) → NoFault g → ((slot : ℕ) → slot < closure_slot 0 → set_at q slot ≡ set_at v slot) → firsts_in g q ≡ firsts_in g v
firsts_stay g v q clean same =
    let few = nonterminal_count_below g clean in
    each_same (load_set q.sets) (load_set v.sets) 0 (nonterminal_count g) (λ slot h l. same slot (omega arith))

-- so states that are in place can be visited next
pub visitable_again : (bytes : List ℕ) (n count more : ℕ) (v q : Room) → Visitable bytes n count v → OnlyVisited v q → Placed (length (records bytes)) more q → Visitable bytes n more q
visitable_again bytes n count more v q ready only placed = record {
  clean = ready.clean;
  short = ready.short;
  few = ready.few;
  counted = ready.counted;
  placed = placed;
  firsts = firsts_stay (records bytes) v q ready.clean only.firsts ∙ ready.firsts;
}
