use Rattle.pid_lookup.proofs.AnswerLaws.{numbers_alone, maps_do_not_matter}
use Rattle.pid_lookup.proofs.laws.numbers_stand_alone.Goals as goal

pub returns-clause-number : goal.returns-clause-number
returns-clause-number c = numbers_alone

pub returns-clause-any_names : goal.returns-clause-any_names
returns-clause-any_names c = maps_do_not_matter
