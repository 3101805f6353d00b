use Rattle.std.proofs.Common.{◌∙◌}
use Rattle.pid_http_stream.proofs.Lines.{reply_is}
use Rattle.pid_http_stream.proofs.reply.write_reply.Goals as goal

pub returns : goal.returns
returns g c = record {
  sent = reply_is _ _ _ (record { status = c.args.head.status; content = c.args.head.content; content_length = c.args.content_length; body = c.args.body.now }) c.args.closes _ _ _ _ _ _ (c.as_bytes-status.ensures.value ∙ c.as_str.ensures) c.phrase_of-phrase.ensures c.type_line-content.ensures (c.as_bytes-length.ensures.value ∙ c.format.ensures.text) c.allow_line-allow.ensures c.close_line-close.ensures c.write_lines.ensures.sent;
  fault = c.write_lines.ensures.fault;
}
