use Rattle.std.proofs.Common.{sym, ap, ◌∙◌}
use Rattle.pid_ident.specs.PathReading.{path_of}
use Rattle.std.specs.Prelude.{ok_or}
use Rattle.pid_moderation.specs.declared.refusal.Refusal.TheVariants.{BadPath}
use Rattle.pid_http.specs.Api.Questions.{on_said}
use Rattle.pid_http.specs.declared.api.early.RefusedEarly.TheVariants.{BadValue}
use Rattle.pid_http.specs.declared.api.question.Question.TheVariants.{Read}
use Rattle.pid_http.proofs.api.question.item_of.Goals as goal

pub returns-in-Some : goal.returns-in-Some
returns-in-Some c = sym (ap (λ path. on_said Read (ok_or path (BadValue BadPath c.args.format))) (sym c.in-Some.is ∙ c.parse.ensures.computed ∙ ap path_of c.rest_after.ensures))

pub returns-in-None : goal.returns-in-None
returns-in-None c = sym (ap (λ path. on_said Read (ok_or path (BadValue BadPath c.args.format))) (sym c.in-None.is ∙ c.parse.ensures.computed ∙ ap path_of c.rest_after.ensures))
