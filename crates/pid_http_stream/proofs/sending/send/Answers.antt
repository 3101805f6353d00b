use Rattle.pid_http_stream.proofs.Leading.{stays}
use Rattle.pid_http_stream.proofs.Stepping.{text_sent, text_stops}
use Rattle.pid_http_stream.proofs.sending.send.Goals as goal

pub returns-in-Bytes : goal.returns-in-Bytes
returns-in-Bytes g c = record {
  becomes = g.met.H.Handler.stays _;
  sent = stays _ _ (λ v a request may. text_sent g.H.Handler.conduct a v request _ _ _ c.args.closes c.send_bytes.result _ (rw c.deref.ensures.value at c.send_bytes.ensures.sent) c.send_bytes.ensures.stops (rw c.in-Bytes.is at may));
  stops = text_stops c.send_bytes.result _ _ c.send_bytes.ensures.stops;
}

pub returns-in-Written : goal.returns-in-Written
returns-in-Written g c = rw c.in-Written.is c.send_written.ensures
