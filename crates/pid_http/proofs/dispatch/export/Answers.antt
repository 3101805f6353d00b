use Rattle.std.proofs.Common.{refl}
use Rattle.pid_http.specs.Answering.{Asks}
use Rattle.pid_http.specs.declared.api.question.Question.TheVariants.{Whole}
use Rattle.pid_http.specs.declared.api.route_table.Whole.TheVariants.{Export}
use Rattle.pid_http.proofs.Exports.{length_answered}
use Rattle.pid_http.proofs.Meeting.{asked_on, one_question, refused_call, replied}
use Rattle.pid_http.proofs.dispatch.export.Goals as goal

pub returns-in-Ok : goal.returns-in-Ok
returns-in-Ok g c = length_answered _ g.met.R.RegistryCalls.lives _ _ _ c.args.format _ (asked_on _ _ _ _ _ c.in-Ok.ensures) refl refl c.in-Ok.ensures one_question

pub returns-in-Err : goal.returns-in-Err
returns-in-Err g c = replied _ _ _ (Asks (Whole Export) c.args.format) _ _ c.refusal_reply.ensures (refused_call _ g.met.R.RegistryCalls.lives _ _ _ _ c.args.format (Asks (Whole Export) c.args.format) (λ x. (refl, refl)) refl c.in-Err.ensures)
