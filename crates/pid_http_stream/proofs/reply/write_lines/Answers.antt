use Rattle.std.specs.Prelude.{codes}
use Rattle.pid_http_stream.proofs.Lines.{in_one}
use Rattle.pid_http_stream.proofs.reply.write_lines.Goals as goal

pub returns : goal.returns
returns g c = record {
  sent = in_one _ _ _ (codes "HTTP/1.1 ") (codes " ") c.args.status.now c.args.phrase.now (codes "\r\n") c.args.content.now (codes "Content-Length: ") c.args.length.now (codes "\r\n") c.args.allow.now c.args.close.now (codes "\r\n") c.args.body.now c.write_parts.ensures.sent;
  fault = c.write_parts.ensures.fault;
}
