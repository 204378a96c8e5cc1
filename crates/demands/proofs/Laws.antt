-- Laws of entries and kernels: what stands in a list of one, or of one more; what equal entries have in common; what a state becomes over
-- a symbol.
use Prim.Native.Nat.{◌+◌}
use mathlib.Core.Path.{◌≡◌, ap}
use mathlib.Core.Logic.{⊎_elim}
use mathlib.Core.Bool.{true}
use mathlib.Core.List.{List, [], ◌∷◌, ◌++◌}
use Rattle.base.specs.Among.{Among}
use Rattle.base.specs.Lists.{keep}
use Rattle.base.proofs.Lists.{among_none, among_cons, among_map, among_keep, keep_among}
use Rattle.base.proofs.Members.{among_append, map_among}
use Rattle.rules.specs.Records.{Grammar}
use Rattle.rules.specs.Grammar.{Symbol, is_before}
use Rattle.rules.specs.States.{Entry, State, kernel_over}

pub among_one : {A : Type 0} {x y : A} → Among x (y ∷ []) → x ≡ y
among_one m = ⊎_elim (λ q. q) (λ k. absurd (among_none k)) (among_cons m)

-- what holds of each and of one put behind them holds of all
pub among_appended : {A : Type 0} (P : A → Type 0) (xs : List A) (y : A) → ((x : A) → Among x xs → P x) → P y → (x : A) → Among x (xs ++ (y ∷ [])) → P x
among_appended P xs y h p x m = ⊎_elim (h x) (λ n. let q : x ≡ y = among_one n in rw q p) (among_append xs m)

-- ---- equal entries
pub same_item : {e f : Entry} → e ≡ f → e.item ≡ f.item
same_item q = ap (λ (e : Entry). e.item) q

pub same_next : {e f : Entry} → e ≡ f → e.next ≡ f.next
same_next q = ap (λ (e : Entry). e.next) q

pub same_set : {e f : Entry} → e ≡ f → e.set ≡ f.set
same_set q = ap (λ (e : Entry). e.set) q

-- ---- kernels
-- the entry with its dot moved
abbrev pub moved : Entry → Entry
moved e = record { item = e.item + 1; next = 0; set = e.set }

module _ (g : Grammar) (x : Symbol) (state : State) where
  pub kernel_over_entry : {e : Entry} → Among e (kernel_over g x state) → (f : Entry) × Among f state × (is_before g x f.item ≡ true) × (e ≡ moved f)
  unfolding kernel_over
  kernel_over_entry m =
      let (f, k, q) = map_among moved (keep (λ (e : Entry). is_before g x e.item) state) m in
      let (n, b) = keep_among (λ (e : Entry). is_before g x e.item) state k in
      (f, n, b, q)

  pub moved_in_kernel_over : {f : Entry} → Among f state → is_before g x f.item ≡ true → Among (moved f) (kernel_over g x state)
  unfolding kernel_over
  moved_in_kernel_over m b = among_map moved (among_keep (λ (e : Entry). is_before g x e.item) m b)
