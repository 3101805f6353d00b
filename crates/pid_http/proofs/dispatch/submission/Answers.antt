use Rattle.std.proofs.Common.{ℕ, refl}
use Rattle.pid_moderation.specs.Views.{views_of}
use Rattle.pid_moderation.specs.Submissions.{discussion_in, discussion_of}
use Rattle.pid_moderation.specs.declared.lists.Discussion.{Discussion}
use Rattle.pid_http.specs.declared.api.format.Format.{Format}
use Rattle.pid_http.specs.Api.SubmissionAnswers.{submission_answer}
use Rattle.pid_http.specs.Answering.{Asks}
use Rattle.pid_http.specs.declared.api.question.Question.TheVariants as questions
use Rattle.pid_http.proofs.Meeting.{IsQuestionIfThere, if_there_met, replied, shows_there}
use Rattle.pid_http.proofs.dispatch.submission.Goals as goal

asks : (number : ℕ) (format : Format) → IsQuestionIfThere format (λ (d : Discussion). submission_answer format number (discussion_of d)) (λ h. discussion_in (views_of h) number) discussion_of (Asks (questions.Submission number) format)
asks number format = shows_there format (submission_answer format number) discussion_of (λ h. discussion_in (views_of h) number) (questions.Submission number) (λ h. refl) refl

pub returns-in-Ok : goal.returns-in-Ok
returns-in-Ok g c = replied _ _ _ _ _ _ c.submission_reply.ensures (if_there_met _ g.met.R.RegistryCalls.lives _ _ _ _ _ _ _ _ (asks c.args.number c.args.format) c.in-Ok.ensures)

pub returns-in-Err : goal.returns-in-Err
returns-in-Err g c = replied _ _ _ _ _ _ c.refusal_reply.ensures (if_there_met _ g.met.R.RegistryCalls.lives _ _ _ _ _ _ _ _ (asks c.args.number c.args.format) c.in-Err.ensures)
