use Rattle.std.proofs.Common.{refl, sym, ◌∙◌}
use Rattle.pid_http_stream.specs.declared.handler.Wanted.TheVariants.{Buffered}
use Rattle.pid_http.proofs.Handled.{asked_ok, asked_err, meaning_is}
use Rattle.pid_http.proofs.Meeting.{within_session}
use Rattle.pid_http.proofs.handling.ServiceHandler.answer.Goals as goal

pub returns-in-Ok-clause-answered : goal.returns-in-Ok-clause-answered
returns-in-Ok-clause-answered g c =
    let l = within_session _ _ _ _ c.in-Ok.ensures in
    record {
      good = l.good;
      leads = λ good t is.
          let x = l.leads good t is in (
            x.0,
            x.1,
            λ request at asked body. asked_ok _ t x.0 request _ c.in-Ok.reply
                (c.sender_for-sender.ensures request.head at _ ∙ meaning_is request (Buffered c.args.request) _ _ asked refl (sym body)) x.2,
          );
    }

pub returns-clause-answered : goal.returns-clause-answered
returns-clause-answered g c =
    let l = within_session _ _ _ _ c.in-Err.ensures in
    record {
      good = l.good;
      leads = λ good t is.
          let x = l.leads good t is in (
            x.0,
            x.1,
            λ request at asked body. asked_err _ t x.0 request _
                (c.sender_for-sender.ensures request.head at _ ∙ meaning_is request (Buffered c.args.request) _ _ asked refl (sym body)) x.2,
          );
    }
