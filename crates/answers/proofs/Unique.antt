-- No second answer meets the promises of this crate.
use mathlib.Core.Path.{◌≡◌, refl, sym, ap, ◌∙◌}
use Rattle.rules.specs.Answers as rules
use Rattle.answers.specs.declared.Said.{Said}
use Rattle.answers.specs.declared.Said.TheVariants.{Coded, Built, Refused, Accepted, Stopped}
use Rattle.answers.specs.Meant.{meant}

-- what was said, from what is meant
abbrev said_by : rules.Said → Said
said_by rules.coded = Coded
said_by (rules.built states records) = Built states records
said_by (rules.refused number place) = Refused number place
said_by (rules.accepted steps listed) = Accepted steps listed
said_by (rules.stopped number place steps listed) = Stopped number place steps listed

said_back : (s : Said) → said_by (meant s) ≡ s
said_back Coded = refl
said_back (Built states records) = refl
said_back (Refused number place) = refl
said_back (Accepted steps listed) = refl
said_back (Stopped number place steps listed) = refl

pub said_one : (promised : rules.Said) (s t : Said) → promised ≡ meant s → promised ≡ meant t → s ≡ t
said_one promised s t e f = sym (said_back s) ∙ ap said_by (sym e ∙ f) ∙ said_back t
