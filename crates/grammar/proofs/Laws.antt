-- What this crate's functions go by: what a record of the bytes holds, what stands behind a dot, where the left sides are.
use Prim.Native.Nat.{ℕ, zero, suc, ◌+◌, ◌*◌, ◌/◌, ◌≤◌, ◌<◌}
use mathlib.Core.Path.{◌≡◌, refl, sym, ap, ◌∙◌}
use mathlib.Core.List.{List}
use mathlib.Core.Bool.{Bool, true, false}
use native.Mathlib.Omega.{arith}
use native.Mathlib.Nat.{add_assoc}
use lib.ListN.{length, get_or, drop}
use lib.Seq.{get_or-drop}
use Rattle.base.proofs.ListLoops.{kept, kept_start}
use Rattle.rules.proofs.Laws.{length_records, record_past, not_at_end_within}
use Rattle.rules.specs.Records.{Grammar, record_at, records_of, records, past, at}
use Rattle.rules.specs.Grammar.{at_end, at_start, left_sides}
use Rattle.grammar.specs.Asked.{InRange}

-- ---- records
record_dropped : (n : ℕ) (bytes : List ℕ) (i : ℕ) → record_at (drop n bytes) i ≡ record_at bytes (n + i)
unfolding record_at
record_dropped n bytes i = simp (get_or-drop, add_assoc)

records_of_at_lem : (k i : ℕ) (bytes : List ℕ) → i < k → get_or (records_of k bytes) i past ≡ record_at bytes (8 * i)
unfolding records_of
records_of_at_lem zero i bytes h = absurd (omega arith)
records_of_at_lem (suc k) zero bytes h = refl
records_of_at_lem (suc k) (suc i) bytes h =
    let e : 8 + 8 * i ≡ 8 * suc i = omega arith in
    records_of_at_lem k i (drop 8 bytes) (omega arith) ∙ record_dropped 8 bytes (8 * i) ∙ ap (record_at bytes) e

pub record_at_lem : (bytes : List ℕ) (i : ℕ) → InRange i bytes → at (records bytes) i ≡ record_at bytes (8 * i)
unfolding records at
record_at_lem bytes i h = records_of_at_lem (length bytes / 8) i bytes (omega arith)

-- ---- items
pub past_end : (g : Grammar) (n i : ℕ) → n ≡ length g → n ≤ i + 1 → true ≡ at_end g i
unfolding at_end
past_end g n i e h = let l : length g ≤ i + 1 = omega arith in rw (record_past g (i + 1) l)

pub behind_dot : (bytes : List ℕ) (i : ℕ) → at_end (records bytes) i ≡ false → InRange (i + 1) bytes
behind_dot bytes i f = omega (arith, not_at_end_within (records bytes) i f, length_records bytes)

-- what the test of the end said
pub end_known : (g : Grammar) (i : ℕ) (b : Bool) → b ≡ at_end g i → (v : Bool) → b ≡ v → at_end g i ≡ v
end_known g i b last v e = sym last ∙ e

-- ---- the left-side records, of n records
pub left_sides_lem : (g : Grammar) (n : ℕ) → n ≡ length g → kept (at_start g) n 0 ≡ left_sides g
unfolding left_sides
left_sides_lem g n e = kept_start (at_start g) n ∙ rw e
