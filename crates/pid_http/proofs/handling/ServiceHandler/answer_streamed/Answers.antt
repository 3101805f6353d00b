use Rattle.std.proofs.Common.{refl, sym}
use Rattle.pid_http_stream.specs.declared.handler.Wanted.TheVariants.{Streamed}
use Rattle.pid_http.proofs.Handled.{asked_after, by_calls, meaning_is, given_up_most}
use Rattle.pid_http.proofs.Meeting.{within_session}
use Rattle.pid_http.proofs.handling.ServiceHandler.answer_streamed.Goals as goal

pub returns-clause-answered : goal.returns-clause-answered
returns-clause-answered g c =
    let l = within_session _ _ _ _ c.import.ensures.replied in
    record {
      good = l.good;
      leads = λ good t is.
          let x = l.leads good t is in (
            x.0,
            x.1,
            λ request at asked comes fits. asked_after _ t x.0 request _ c.import.result _
                (meaning_is request (Streamed c.args.format) request.body _ asked (sym (c.sender_of.ensures request.head at)) refl)
                (given_up_most request c.args.format request.body _ asked (sym (c.sender_of.ensures request.head at)))
                (by_calls _ t x.0 _ _ (λ calls h. h request.body comes fits) x.2),
          );
    }
