-- A set for each nonterminal: what joining into one of them keeps, and how it counts.
use Prim.Native.Nat.{ℕ, ◌+◌, ◌^◌, ◌<◌, ◌≤◌, ◌*◌}
use mathlib.Core.Path.{◌≡◌, refl, ap, ◌∙◌}
use mathlib.Core.Logic.{◌⊎◌, inl, inr, ⊎_elim}
use mathlib.Core.Bool.{true, false}
use mathlib.Core.List.{map}
use native.Mathlib.Omega.{arith}
use lib.ListN.{length, get_or, set, replicate, length-set, length-replicate}
use lib.Seq.{get_or-set_same}
use Rattle.base.specs.Lists.{sum}
use Rattle.base.proofs.Lists.{at_replicate, after_set, set_same, sum_set, sum_le}
use Rattle.rules.specs.Tokens.{TokenSet, Has, join, within}
use Rattle.rules.specs.First.{Sets, set_of, join_at}
use Rattle.sets.specs.Size.{size}
use Rattle.sets.proofs.Laws.{has_join, none_below, join_below, join_within, size_le, size_grows}

-- ---- what a joined table has
-- every set has at least the tokens that it had
abbrev pub Grows : Sets → Sets → Type 0
Grows sets sets' = (a t : ℕ) → Has (set_of sets a) t → Has (set_of sets' a) t

pub join_at_grows_lem : (a : ℕ) (s : TokenSet) (sets : Sets) → Grows sets (join_at a s sets)
unfolding join_at set_of
join_at_grows_lem a s sets =
    after_set (λ b q. (t : ℕ) → Has (get_or sets b 0) t → Has q t) sets a (join (get_or sets a 0) s) 0 (λ t h. (has_join (get_or sets a 0) s t).1 (inl h)) (λ b t h. h)

pub join_at_has_lem : (a : ℕ) (s : TokenSet) (sets : Sets) (t : ℕ) → a < length sets → Has s t → Has (set_of (join_at a s sets) a) t
unfolding join_at set_of
join_at_has_lem a s sets t b h = rw (get_or-set_same sets a (join (get_or sets a 0) s) 0 b) ((has_join (get_or sets a 0) s t).1 (inr h))

pub join_at_only_lem : (a : ℕ) (s : TokenSet) (sets : Sets) (b t : ℕ) → Has (set_of (join_at a s sets) b) t → Has (set_of sets b) t ⊎ ((b ≡ a) × Has s t)
unfolding join_at set_of
join_at_only_lem a s sets =
    after_set (λ b q. (t : ℕ) → Has q t → Has (get_or sets b 0) t ⊎ ((b ≡ a) × Has s t)) sets a (join (get_or sets a 0) s) 0
    (λ t h. ⊎_elim inl (λ k. inr (refl, k)) ((has_join (get_or sets a 0) s t).0 h)) (λ b t h. inl h)

pub join_at_length_lem : (a : ℕ) (s : TokenSet) (sets : Sets) → length (join_at a s sets) ≡ length sets
unfolding join_at
join_at_length_lem a s sets = length-set sets a _

-- ---- sets of tokens up to n
module _ (n : ℕ) where
  abbrev pub Narrow : Sets → Type 0
  Narrow sets = (a : ℕ) → set_of sets a < 2 ^ (n + 1)

  -- how many tokens the sets have together
  abbrev pub mass : Sets → ℕ
  mass sets = sum (map (size (n + 1)) sets)

  mass_le : (sets : Sets) → mass sets ≤ length sets * (n + 1)
  mass_le = sum_le (size (n + 1)) (n + 1) (size_le (n + 1))

  pub join_at_rests_lem : (a : ℕ) (s : TokenSet) (sets : Sets) → within s (set_of sets a) ≡ true → join_at a s sets ≡ sets
  unfolding join_at set_of
  join_at_rests_lem a s sets e = ap (set sets a) (join_within (get_or sets a 0) s e) ∙ set_same sets a 0

  pub join_at_adds_lem : (a : ℕ) (s : TokenSet) (sets : Sets) → a < length sets → s < 2 ^ (n + 1) → within s (set_of sets a) ≡ false → mass sets < mass (join_at a s sets)
  unfolding join_at set_of
  join_at_adds_lem a s sets h b e =
      omega (arith, sum_set (size (n + 1)) sets a (join (get_or sets a 0) s) 0 h, size_grows (n + 1) (get_or sets a 0) s b e)

  pub join_at_narrow_lem : (a : ℕ) (s : TokenSet) (sets : Sets) → s < 2 ^ (n + 1) → Narrow sets → Narrow (join_at a s sets)
  unfolding join_at set_of
  join_at_narrow_lem a s sets b h = after_set (λ a q. q < 2 ^ (n + 1)) sets a (join (get_or sets a 0) s) 0 (join_below (n + 1) _ _ (h a) b) h

  -- ---- m sets of tokens up to n
  module _ (m : ℕ) where
    abbrev pub InRange : Sets → Type 0
    InRange sets = (length sets ≡ m) × Narrow sets

    pub none_in_range : InRange (replicate m 0)
    unfolding set_of
    none_in_range = (length-replicate m 0, λ a. rw (at_replicate {A = ℕ} m 0 a) (none_below (n + 1)))

    pub join_at_in_range_lem : (a : ℕ) (s : TokenSet) (sets : Sets) → s < 2 ^ (n + 1) → InRange sets → InRange (join_at a s sets)
    join_at_in_range_lem a s sets b (l, h) = (join_at_length_lem a s sets ∙ l, join_at_narrow_lem a s sets b h)

    pub mass_in_range : (sets : Sets) → InRange sets → mass sets ≤ m * (n + 1)
    mass_in_range sets (l, h) = rw l at (mass_le sets)
