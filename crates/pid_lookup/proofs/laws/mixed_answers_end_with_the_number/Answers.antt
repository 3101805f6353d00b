use Rattle.pid_lookup.proofs.AnswerLaws.{mixed_answers_end_with_the_number}
use Rattle.pid_lookup.proofs.laws.mixed_answers_end_with_the_number.Goals as goal

pub returns : goal.returns
returns c = mixed_answers_end_with_the_number
