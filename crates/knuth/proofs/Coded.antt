-- What the check's answer `Coded` says of a grammar, and refusal 8.
use Prim.Native.Nat.{ℕ, ◌%◌, ◌<◌}
use mathlib.Core.Path.{◌≡◌, refl, sym}
use mathlib.Core.Bool.{Bool, true, false, ◌&&◌, ◌||◌, not}
use mathlib.Core.List.{List, [], ◌∷◌}
use native.Mathlib.Omega.{arith}
use lib.ListN.{length}
use lib.Dec.{eqb, ltb}
use borrow.Author.Tests.{eqb-true, eqb-false, ltb-true, not-false, not-true}
use Rattle.std.specs.Prelude.{Result, Ok, Err}
use Rattle.base.specs.Pick.{pick}
use Rattle.base.specs.Among.{Among, here, later}
use Rattle.base.proofs.Found.{before_first, at_first, none_first}
use Rattle.base.proofs.Tests.{or_false}
use Rattle.rules.proofs.Answers.{err≢ok}
use Rattle.rules.proofs.Laws.{length_records}
use Rattle.rules.specs.Limits.{Limits}
use Rattle.rules.specs.Records.{Grammar, at, records, bad_length, is_terminal, is_left_side, bad_record, in_sequence, out_of_sequence}
use Rattle.rules.specs.Tokens.{has}
use Rattle.rules.specs.Grammar.{Symbol, nonterminal, terminal, symbols_behind, nonterminal_count, names_start, has_production, productive, first_fault, fault_at, first_start, first_without, first_barren, grammar_answer}
use Rattle.rules.specs.declared.GrammarRefusal.{GrammarRefusal}
use Rattle.rules.specs.declared.GrammarRefusal.TheVariants.{Length, BadRecord, OutOfSequence, NoString}
use Rattle.sets.proofs.Laws.{has_true, has_false}
use Rattle.knuth.specs.Rules.{Rule}
use Rattle.knuth.specs.Derivations.{DerivesTokens, Fruitful, Productive}
use Rattle.knuth.specs.Coded.{NonterminalsLeft, Checked, Barren}
use Rattle.knuth.proofs.Productions.{nonterminal_below}
use Rattle.knuth.proofs.Collected.{productive_derives}

-- ---- refusals that are not given
passed : (b : Bool) (r : GrammarRefusal) (x y : Result (Unit {0}) GrammarRefusal) → (Err r ≡ y → ⊥) → pick b (Err r) x ≡ y → (b ≡ false) × (x ≡ y)
passed true r x y ne e = absurd (ne e)
passed false r x y ne e = (refl, e)

pub coded_is_checked : (l : Limits) (bytes : List ℕ) → grammar_answer l bytes ≡ Ok tt → Checked l (records bytes)
unfolding grammar_answer first_fault first_start first_without first_barren
coded_is_checked l bytes e =
    let g : Grammar = records bytes in
    let m : ℕ = nonterminal_count g in
    let (_, e₃) = passed (bad_length l bytes) _ _ _ (err≢ok _ tt) e in
    let (f₄, e₄) = passed (ltb (first_fault l g) (length g)) _ _ _ (err≢ok _ tt) e₃ in
    let (f₆, e₆) = passed (ltb (first_start g) (length g)) _ _ _ (err≢ok _ tt) e₄ in
    let (f₇, e₇) = passed (ltb (first_without g) m) _ _ _ (err≢ok _ tt) e₆ in
    let (f₈, _) = passed (ltb (first_barren g) m) _ _ _ (err≢ok _ tt) e₇ in
    record {
      faultless = λ i h. none_first (λ i. bad_record l (at g i) || out_of_sequence l g i) (length g) i h f₄;
      start_once = λ i h. none_first (names_start g) (length g) i h f₆;
      produced = λ a h. not-false _ (none_first (λ a. not (has_production g a)) m a h f₇);
      collected = λ a h. not-false _ (none_first (λ a. not (has (productive g) a)) m a h f₈);
    }

-- ---- refusal 3: there is a record
pub coded_has_a_record : (l : Limits) (bytes : List ℕ) → grammar_answer l bytes ≡ Ok tt → 0 < length (records bytes)
unfolding grammar_answer bad_length
coded_has_a_record l bytes e =
    let (f, _) = passed (bad_length l bytes) _ _ _ (err≢ok _ tt) e in
    let (some, rest) = or_false (eqb (length bytes) 0) _ f in
    let (_, whole) = or_false (ltb l.bytes (length bytes)) _ rest in
    omega (arith, length_records bytes, eqb-false (length bytes) 0 some, eqb-true (length bytes % 8) 0 (not-false _ whole))

-- ---- refusal 5
faultless_left : (l : Limits) (g : Grammar) → ((i : ℕ) → i < length g → (bad_record l (at g i) || out_of_sequence l g i) ≡ false) → NonterminalsLeft g
unfolding out_of_sequence NonterminalsLeft
faultless_left l g f i h e =
    let (_, q) = or_false (bad_record l (at g i)) _ (f i h) in
    let (_, q₂) = or_false (not (in_sequence g i)) _ q in
    let (q₃, _) = or_false (is_left_side (at g i) && is_terminal (at g i)) _ q₂ in
    rw e at q₃

pub checked_left : (l : Limits) (g : Grammar) → Checked l g → NonterminalsLeft g
checked_left l g c = faultless_left l g c.faultless

-- ---- refusal 8
fruitful_string : (g : Grammar) (xs : List Symbol) → ((a : ℕ) → Among (nonterminal a) xs → DerivesTokens (Rule g) (nonterminal a ∷ []))
    → Fruitful (Rule g) xs
fruitful_string g [] f = tt
fruitful_string g (terminal t ∷ xs) f = fruitful_string g xs (λ a m. f a (later m))
fruitful_string g (nonterminal a ∷ xs) f = (f a here, fruitful_string g xs (λ a m. f a (later m)))

-- each nonterminal of a coded grammar derives tokens
pub checked_derives : (l : Limits) (g : Grammar) → Checked l g → (a : ℕ) → a < nonterminal_count g → DerivesTokens (Rule g) (nonterminal a ∷ [])
checked_derives l g c a h = (productive_derives g (checked_left l g c) a).0 ((has_true _ _).0 (c.collected a h))

pub checked_productive : (l : Limits) (g : Grammar) → Checked l g → Productive (Rule g)
checked_productive l g c p A η r =
    rw r.right at (fruitful_string g (symbols_behind g r.left_side) (λ a m. checked_derives l g c a (nonterminal_below g r.left_side a m)))

-- refusal 8 names the lowest nonterminal that derives no tokens
first_barren_lem : (g : Grammar) → NonterminalsLeft g → first_barren g < nonterminal_count g → Barren g (first_barren g)
unfolding first_barren
first_barren_lem g left h =
    let at-barren : has (productive g) (first_barren g) ≡ false = not-true _ (at_first (λ a. not (has (productive g) a)) (nonterminal_count g) 0 (omega arith)) in
    record {
      named = h;
      derives_none = λ d. (has_false _ _).0 at-barren ((productive_derives g left _).1 d);
      lower_derive = λ b k.
          let lower = before_first (λ a. not (has (productive g) a)) (nonterminal_count g) 0 b (omega arith) k in
          (productive_derives g left b).0 ((has_true _ _).0 (not-false _ lower));
    }

-- the other refusals of a grammar
not_no_string : (r : GrammarRefusal) (a : ℕ) → (r ≡ NoString a → ⊥) → ◌≡◌ {A = Result (Unit {0}) GrammarRefusal} (Err r) (Err (NoString a)) → ⊥
not_no_string r a ne e = ne cc

not_fault : (l : Limits) (g : Grammar) (i a : ℕ) → fault_at l g i ≡ NoString a → ⊥
unfolding fault_at
not_fault l g i a e = by_test (bad_record l (at g i)) e
  where
    by_test : (b : Bool) → pick b (BadRecord i) (OutOfSequence i) ≡ NoString a → ⊥
    by_test true e = let z : ◌≡◌ {A = ℕ} 0 1 = cc in omega arith
    by_test false e = let z : ◌≡◌ {A = ℕ} 0 1 = cc in omega arith

pub no_string_barren : (l : Limits) (bytes : List ℕ) (a : ℕ) → grammar_answer l bytes ≡ Err (NoString a) → Barren (records bytes) a
unfolding grammar_answer first_fault
no_string_barren l bytes a e =
    let g : Grammar = records bytes in
    let m : ℕ = nonterminal_count g in
    let (_, e₃) = passed (bad_length l bytes) _ _ _ (not_no_string Length a (λ q. let z : ◌≡◌ {A = ℕ} 0 1 = cc in omega arith)) e in
    let (f₄, e₄) = passed (ltb (first_fault l g) (length g)) _ _ _ (not_no_string _ a (not_fault l g (first_fault l g) a)) e₃ in
    let (_, e₆) = passed (ltb (first_start g) (length g)) _ _ _ (not_no_string _ a (λ q. let z : ◌≡◌ {A = ℕ} 0 1 = cc in omega arith)) e₄ in
    let (_, e₇) = passed (ltb (first_without g) m) _ _ _ (not_no_string _ a (λ q. let z : ◌≡◌ {A = ℕ} 0 1 = cc in omega arith)) e₆ in
    let left : NonterminalsLeft g = faultless_left l g (λ i h. none_first (λ i. bad_record l (at g i) || out_of_sequence l g i) (length g) i h f₄) in
    by_test g left (ltb (first_barren g) m) refl e₇
  where
    by_test : (g : Grammar) → NonterminalsLeft g → (b : Bool) → ltb (first_barren g) (nonterminal_count g) ≡ b
        → ◌≡◌ {A = Result (Unit {0}) GrammarRefusal} (pick b (Err (NoString (first_barren g))) (Ok tt)) (Err (NoString a)) → Barren g a
    by_test g left true f e = let q : first_barren g ≡ a = cc in rw q at (first_barren_lem g left (ltb-true _ _ f))
    by_test g left false f e = absurd (err≢ok (NoString a) tt (sym e))
