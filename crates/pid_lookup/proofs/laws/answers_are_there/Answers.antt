use Rattle.pid_lookup.proofs.AnswerLaws.{answers_are_there}
use Rattle.pid_lookup.proofs.laws.answers_are_there.Goals as goal

pub returns : goal.returns
returns c = answers_are_there
