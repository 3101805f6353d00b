use Rattle.std.proofs.Common.{cond, None, Some, refl, ap}
use Rattle.std.specs.Prelude.{ok_or}
use Rattle.pid_lookup.specs.Fields.{bytes_of, lookup_from, lookup_said}
use Rattle.pid_http.specs.Api.Questions.{lookup_asked, on_said}
use Rattle.pid_http.specs.declared.api.early.RefusedEarly.TheVariants.{BadQuery}
use Rattle.pid_http.proofs.api.question.lookup_of.Goals as goal

pub returns-in-Ok : goal.returns-in-Ok
returns-in-Ok c = ap (λ l. on_said lookup_asked (ok_or l BadQuery)) c.in-Ok.ensures.ok

pub returns-in-Err : goal.returns-in-Err
unfolding lookup_from
returns-in-Err c = ap (λ b. on_said lookup_asked (ok_or (cond b None (Some (lookup_said (bytes_of c.args.fields.now)))) BadQuery)) (c.in-Err.ensures.bad.0 refl)
