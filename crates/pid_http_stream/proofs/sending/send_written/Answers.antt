use Rattle.std.proofs.Common.{Err, ap, inl, inr}
use Rattle.pid_http_stream.proofs.BodyReads.{some_by}
use Rattle.pid_http_stream.proofs.Leading.{stays, turned}
use Rattle.pid_http_stream.proofs.Lines.{headed, head_front, head_then_body, head_then_front, front_then_nothing, cut_in_body, wrote_none}
use Rattle.pid_http_stream.proofs.sending.send_written.Goals as goal

pub returns-in-Ok-write_body : goal.returns-in-Ok-write_body
returns-in-Ok-write_body g c = record {
  becomes = c.write_body.ensures.becomes;
  sent = turned _ _ _ _
      (λ v w written a request promised.
      (_, g.met.H.Handler.kept a request c.args.head c.args.content_length v written.0 w promised written.1, head_then_body c.args.head c.args.content_length c.args.closes _ _ _ written.0 (headed c.args.head _ _ _ _ c.in-Ok.ensures.sent) written.2))
      c.in-Ok-write_body.ensures.written;
  stops = tt;
}

pub returns-in-Err-Writer : goal.returns-in-Err-Writer
returns-in-Err-Writer g c = record {
  becomes = c.write_body.ensures.becomes;
  sent = turned _ _ _ _
      (λ v w written a request promised.
      inl (_, g.met.H.Handler.kept a request c.args.head c.args.content_length v written.0 w promised written.1, head_then_front c.args.head c.args.content_length c.args.closes _ _ _ written.0 (headed c.args.head _ _ _ _ c.in-Ok.ensures.sent) written.2))
      c.in-Err-Writer.ensures.written;
  stops = c.in-Err-Writer.ensures.fault (ap Err c.in-Err-Writer.field-0-is);
}

pub returns-in-Err : goal.returns-in-Err
returns-in-Err g c = record {
  becomes = c.write_body.ensures.becomes;
  sent = turned _ _ _ _
      (λ v w written a request promised.
      inl (
        _,
        g.met.H.Handler.kept a request c.args.head c.args.content_length v written.0 w promised written.1,
        head_then_front c.args.head c.args.content_length c.args.closes _ _ _ written.0 (headed c.args.head _ _ _ _ c.in-Ok.ensures.sent) (front_then_nothing _ _ _ written.0 written.2 (wrote_none _ _ _ c.write.ensures.bytes)),
      ))
      c.in-Err-Store.ensures.written;
  stops = some_by _ _ c.in-Err.ensures.fault;
}

pub returns-in-Ok-write : goal.returns-in-Ok-write
returns-in-Ok-write g c = record {
  becomes = c.write_body.ensures.becomes;
  sent = turned _ _ _ _
      (λ v w written a request promised.
      cut_in_body _ a v w request c.args.head c.args.content_length written.0 c.args.closes _ _ _ _ promised (g.met.H.Handler.kept a request c.args.head c.args.content_length v written.0 w promised written.1)
      (headed c.args.head _ _ _ _ c.in-Ok.ensures.sent) written.2 (wrote_none _ _ _ c.write.ensures.bytes))
      c.in-Err-Store.ensures.written;
  stops = (c.in-Ok-write.ensures.fault, c.in-Err-Store.ensures.store (ap Err c.in-Err-Store.field-0-is));
}

pub returns-in_default : goal.returns-in_default
returns-in_default g c = record {
  becomes = g.met.H.Handler.stays _;
  sent = stays _ _ (λ v a request promised. inr (c.args.head, c.args.content_length, promised, head_front c.args.head _ _ _ _ c.in_default.ensures.sent));
  stops = some_by _ _ c.in_default.ensures.fault;
}
