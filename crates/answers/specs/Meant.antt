-- The code's answers in document 01's numbers, as those of `rules`.
use Rattle.rules.specs.Answers as rules
use Rattle.answers.specs.declared.Said.{Said}
use Rattle.answers.specs.declared.Said.TheVariants.{Coded, Built, Refused, Accepted, Stopped}

abbrev pub meant : Said → rules.Said
meant Coded = rules.coded
meant (Built states records) = rules.built states records
meant (Refused number place) = rules.refused number place
meant (Accepted steps listed) = rules.accepted steps listed
meant (Stopped number place steps listed) = rules.stopped number place steps listed
