-- No second answer meets the promise of a lookup: two answers that say the same are equal.
use Prim.Native.Nat.{ℕ}
use mathlib.Core.Path.{◌≡◌, refl, sym, ap, ◌∙◌}
use mathlib.Core.Option.{Option, none, some}
use Rattle.rules.specs.Run as run
use Rattle.std.specs.Prelude as code
use Rattle.record.specs.declared.lookup.Act.{Act}
use Rattle.record.specs.declared.lookup.Act.TheVariants.{Shift, Reduce}
use Rattle.record.specs.Lookup.{found_in, act_in}

-- the answer that says it
found_by : Option ℕ → code.Option ℕ
found_by (some t) = code.Some t
found_by none = code.None

act_by : run.Act ℕ → code.Option Act
act_by (run.shift s) = code.Some (Shift s)
act_by (run.reduce p) = code.Some (Reduce p)
act_by run.no_act = code.None

found_back : (r : code.Option ℕ) → found_by (found_in r) ≡ r
unfolding found_in found_by
found_back (code.Some t) = refl
found_back code.None = refl

act_back : (r : code.Option Act) → act_by (act_in r) ≡ r
unfolding act_in act_by
act_back (code.Some (Shift s)) = refl
act_back (code.Some (Reduce p)) = refl
act_back code.None = refl

pub found_one : (said : Option ℕ) (q r : code.Option ℕ) → found_in q ≡ said → found_in r ≡ said → q ≡ r
found_one said q r e f = sym (found_back q) ∙ ap found_by (e ∙ sym f) ∙ found_back r

pub act_one : (said : run.Act ℕ) (q r : code.Option Act) → act_in q ≡ said → act_in r ≡ said → q ≡ r
act_one said q r e f = sym (act_back q) ∙ ap act_by (e ∙ sym f) ∙ act_back r
