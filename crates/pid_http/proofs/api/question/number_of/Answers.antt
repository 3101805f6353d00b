use Rattle.std.proofs.Common.{sym, ap, ◌∙◌}
use Rattle.std.specs.Prelude.{ok_or}
use Rattle.pid_moderation.specs.Forms.{number_in}
use Rattle.pid_moderation.specs.declared.refusal.Refusal.TheVariants.{BadText}
use Rattle.pid_http.specs.Api.Questions.{on_said}
use Rattle.pid_http.specs.declared.api.early.RefusedEarly.TheVariants.{BadValue}
use Rattle.pid_http.specs.declared.api.question.Question.TheVariants.{Submission}
use Rattle.pid_http.proofs.api.question.number_of.Goals as goal

pub returns-in-Some : goal.returns-in-Some
returns-in-Some c = sym (ap (λ number. on_said Submission (ok_or number (BadValue BadText c.args.format))) (sym c.in-Some.is ∙ c.submission_number.ensures ∙ ap number_in c.rest_after.ensures))

pub returns-in-None : goal.returns-in-None
returns-in-None c = sym (ap (λ number. on_said Submission (ok_or number (BadValue BadText c.args.format))) (sym c.in-None.is ∙ c.submission_number.ensures ∙ ap number_in c.rest_after.ensures))
