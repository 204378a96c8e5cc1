-- The set in a slot after a set was put into a slot. Callers go by these laws, not by how a set is kept.
use Prim.Native.Nat.{ℕ, ◌<◌}
use mathlib.Core.Path.{◌≡◌, ap, ◌∙◌}
use mathlib.Core.List.{List}
use lib.ListN.{length, length-set}
use lib.Seq.{ext_get_or, get_or-set_same, get_or-set_other, set-get_or, set-set}
use Rattle.room.specs.Areas.{Room, with_sets}
use Rattle.lookahead.specs.Sets.{load_set, store_set, set_at, put_set}

module _ (words : List ℕ) (slot s : ℕ) where
  pub load_stored : slot < length words → load_set (store_set slot s words) slot ≡ s
  unfolding load_set store_set
  load_stored h = get_or-set_same words slot s 0 h

  pub load_other : (other : ℕ) → (other ≡ slot → ⊥) → load_set (store_set slot s words) other ≡ load_set words other
  unfolding load_set store_set
  load_other other ne = get_or-set_other words slot other s 0 ne

  pub store_again : (t : ℕ) → store_set slot t (store_set slot s words) ≡ store_set slot t words
  unfolding store_set
  store_again t = set-set words slot s t

  pub length_stored_set : length (store_set slot s words) ≡ length words
  unfolding store_set
  length_stored_set = simp length-set

pub store_loaded : (words : List ℕ) (slot : ℕ) → store_set slot (load_set words slot) words ≡ words
unfolding load_set store_set
store_loaded words slot = set-get_or words slot 0

-- words that hold the same sets are equal
pub same_words : (a b : List ℕ) → length a ≡ length b → ((slot : ℕ) → load_set a slot ≡ load_set b slot) → a ≡ b
unfolding load_set
same_words a b l same = ext_get_or 0 a b l (λ slot h. same slot)

-- ---- the room after a set was put into a slot
module _ (v q : Room) (slot s : ℕ) (put : q ≡ put_set slot s v) where
  pub put_there : slot < length v.sets → set_at q slot ≡ s
  put_there h = ap (λ (r : Room). set_at r slot) put ∙ load_stored v.sets slot s h

  pub put_elsewhere : (other : ℕ) → (other ≡ slot → ⊥) → set_at q other ≡ set_at v other
  put_elsewhere other ne = ap (λ (r : Room). set_at r other) put ∙ load_other v.sets slot s other ne

  pub put_again : (p : Room) (t : ℕ) → p ≡ put_set slot t q → p ≡ put_set slot t v
  put_again p t e = e ∙ ap (put_set slot t) put ∙ ap (λ (words : List ℕ). with_sets words v) (store_again v.sets slot s t)
