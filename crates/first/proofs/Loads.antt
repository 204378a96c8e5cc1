-- The sets of the nonterminals, after a set was put into a slot.
use Prim.Native.Nat.{ℕ, ◌+◌, ◌<◌, ◌≤◌}
use mathlib.Core.Path.{◌≡◌, sym, ap, ◌∙◌}
use mathlib.Core.List.{List}
use native.Mathlib.Omega.{arith}
use lib.ListN.{length, set}
use Rattle.base.specs.Each.{each_from}
use Rattle.base.proofs.Each.{each_same, each_set}
use Rattle.lookahead.specs.Sets.{load_set, store_set}
use Rattle.lookahead.proofs.Slots.{load_stored, load_other}

module _ (slot s : ℕ) (words : List ℕ) (b m : ℕ) where
  -- the slot is past the run
  pub loads_before : b + m ≤ slot → each_from (load_set (store_set slot s words)) b m ≡ each_from (load_set words) b m
  loads_before h = each_same (load_set (store_set slot s words)) (load_set words) b m (λ j p q. load_other words slot s j (λ e. omega arith))

  -- the slot is in the run
  pub loads_stored : (a : ℕ) → slot ≡ b + a → a < m → slot < length words → each_from (load_set (store_set slot s words)) b m ≡ set (each_from (load_set words) b m) a s
  loads_stored a e h l =
      each_set (load_set (store_set slot s words)) (load_set words) b m a s h (ap (load_set (store_set slot s words)) (sym e) ∙ load_stored words slot s l) (λ j p q ne. load_other words slot s j (λ z. ne (z ∙ e)))
