use Rattle.pid_lookup.proofs.AnswerLaws.{plain_answers_are_names}
use Rattle.pid_lookup.proofs.laws.plain_answers_are_names.Goals as goal

pub returns : goal.returns
returns c = plain_answers_are_names
