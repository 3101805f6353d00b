use Rattle.pid_lookup.proofs.AnswerLaws.{cuts_fit, answers_fit}
use Rattle.pid_lookup.proofs.laws.texts_fit_their_buffer.Goals as goal

pub returns-clause-cut : goal.returns-clause-cut
returns-clause-cut c = cuts_fit

pub returns-clause-answer : goal.returns-clause-answer
returns-clause-answer c = answers_fit
