use Rattle.std.proofs.Common.{sym}
use Rattle.pid_http_stream.proofs.RefusalTexts.{bad_head, body_too_long, encoding, body_short}
use Rattle.pid_http_stream.proofs.reply.fault_text.Goals as goal

pub returns-in-BadHead : goal.returns-in-BadHead
returns-in-BadHead c = rw c.in-BadHead.is (sym bad_head)

pub returns-in-Encoding : goal.returns-in-Encoding
returns-in-Encoding c = rw c.in-Encoding.is (sym encoding)

pub returns-in-BodyTooLong : goal.returns-in-BodyTooLong
returns-in-BodyTooLong c = rw c.in-BodyTooLong.is (sym body_too_long)

pub returns-in-BodyShort : goal.returns-in-BodyShort
returns-in-BodyShort c = rw c.in-BodyShort.is (sym body_short)
