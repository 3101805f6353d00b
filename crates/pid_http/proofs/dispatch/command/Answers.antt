use Rattle.pid_moderation.specs.declared.refusal.Refusal.TheVariants.{BadText}
use Rattle.pid_moderation.specs.Files.{asks}
use Rattle.pid_http.specs.Api.Commands.{command_made}
use Rattle.pid_http.specs.Answering.{Denied, command_meaning}
use Rattle.pid_http.specs.Api.Senders.{sending_of}
use Rattle.pid_http.proofs.Meeting.{denied, form_refused, no_call, obeyed, obeyed_met, turned, replied}
use Rattle.pid_http.proofs.dispatch.command.Goals as goal

pub returns-in-None : goal.returns-in-None
returns-in-None g c = rw c.in-None.is (replied _ _ _ (Denied BadText c.args.format) _ _ c.refusal_reply.ensures (no_call _ _ _ (denied BadText c.args.format)))

pub returns-in-Err : goal.returns-in-Err
returns-in-Err g c =
    let made = command_made c.args.verb (sending_of c.in-Some.sender) c.args.body.now in
    rw c.in-Some.is (replied _ _ _ (command_meaning c.args.format made) _ _ c.refusal_reply-in-Err.ensures (no_call _ _ _ (form_refused c.in-Err.refusal made c.args.format c.in-Err.ensures.err)))

pub returns-in-Ok : goal.returns-in-Ok
returns-in-Ok g c =
    let e = c.obey-outcome.ensures in
    let asked = asks c.in-Ok.command in
    let done = replied _ _ _ _ _ _ c.outcome_reply.ensures (turned _ _ _ (λ k calls now is. obeyed_met asked c.args.format k now c.obey-outcome.result calls is) (obeyed _ g.met.R.RegistryCalls.lives _ _ c.obey-outcome.result asked e.calls e.failed e.obeys)) in
    rw (c.in-Some.is, c.in-Ok.ensures.ok) done
