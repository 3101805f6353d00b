use Rattle.std.proofs.Common.{refl, sym, ap, ◌∙◌, Some}
use Rattle.std.specs.Prelude.{ok_or}
use Rattle.pid_moderation.specs.declared.refusal.Refusal.TheVariants.{BadPath}
use Rattle.pid_http.specs.Api.Questions.{on_said}
use Rattle.pid_http.specs.declared.api.early.RefusedEarly.TheVariants.{BadValue}
use Rattle.pid_http.proofs.OfApi.Paths.{said_so}
use Rattle.pid_http.proofs.api.field_values.path_named.Goals as goal

pub returns-then-is_empty : goal.returns-then-is_empty
returns-then-is_empty c = rw (said_so _ _ _ c.is_empty.ensures c.if-is_empty.true) refl

pub returns-in-Some : goal.returns-in-Some
returns-in-Some c = rw (said_so _ _ _ c.is_empty.ensures c.if-is_empty.false) (ap (λ path. on_said Some (ok_or path (BadValue BadPath c.args.format))) (sym c.in-Some.is ∙ c.parse.ensures.computed))

pub returns-in-None : goal.returns-in-None
returns-in-None c = rw (said_so _ _ _ c.is_empty.ensures c.if-is_empty.false) (ap (λ path. on_said Some (ok_or path (BadValue BadPath c.args.format))) (sym c.in-None.is ∙ c.parse.ensures.computed))
