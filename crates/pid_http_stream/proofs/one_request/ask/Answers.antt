use Rattle.std.proofs.Common.{refl, sym, ◌∙◌, inl}
use Rattle.pid_http_stream.proofs.BodyReads.{all_of_it, if_any}
use Rattle.pid_http_stream.proofs.Leading.{stays, turned, asked_left}
use Rattle.pid_http_stream.proofs.one_request.ask.Goals as goal

pub returns-in-Err-clause-body : goal.returns-in-Err-clause-body
returns-in-Err-clause-body g c = record { goes = g.met.B.Input.stays _; whole = tt }

pub returns-in-Err-read_whole-clause-body : goal.returns-in-Err-read_whole-clause-body
returns-in-Err-read_whole-clause-body g c = record { goes = c.read_whole.ensures.goes; whole = tt }

pub returns-in-Ok-clause-body : goal.returns-in-Ok-clause-body
returns-in-Ok-clause-body g c = record { goes = c.read_whole.ensures.goes; whole = if_any c.answer.result _ c.in-Ok.ensures.whole.1 }

pub returns-in-Ok-Streamed-clause-body : goal.returns-in-Ok-Streamed-clause-body
returns-in-Ok-Streamed-clause-body g c = record { goes = c.answer_streamed.ensures.goes; whole = c.answer_streamed.ensures.whole }

pub returns-in-Err-clause-becomes : goal.returns-in-Err-clause-becomes
returns-in-Err-clause-becomes g c = g.met.H.Handler.stays _

pub returns-in-Err-clause-answered : goal.returns-in-Err-clause-answered
returns-in-Err-clause-answered g c = stays _ _ (λ v request is came few. inl (inl refl))

pub returns-in-Ok-Streamed-clause-answered : goal.returns-in-Ok-Streamed-clause-answered
returns-in-Ok-Streamed-clause-answered g c = turned _ _ _ _ (λ v w answered request is came few. answered request is ((rw c.in-Ok-Streamed.field-0-is at c.in-Ok-Streamed.ensures) request.head is) came few) c.answer_streamed.ensures.answered

pub returns-in-Err-read_whole-clause-becomes : goal.returns-in-Err-read_whole-clause-becomes
returns-in-Err-read_whole-clause-becomes g c = g.met.H.Handler.stays _

pub returns-in-Err-read_whole-clause-answered : goal.returns-in-Err-read_whole-clause-answered
returns-in-Err-read_whole-clause-answered g c = stays _ _ (λ v request is came few. inl (inl refl))

pub returns-in-Ok-clause-answered : goal.returns-in-Ok-clause-answered
returns-in-Ok-clause-answered g c = turned _ _ _ _
    (λ v w answered request is came few.
    asked_left g.H.Handler.conduct v w request c.answer.result _ c.in-Ok.ensures.whole.1
    (answered request is ((rw c.in-Ok-Buffered.field-0-is at c.in-Ok-Buffered.ensures) request.head is) (all_of_it _ _ _ request.body c.in-Ok.ensures.whole.0 c.in-Ok.ensures.whole.1 came ∙ sym c.deref.ensures.value)))
    c.answer.ensures.answered
