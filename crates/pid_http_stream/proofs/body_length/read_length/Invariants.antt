use Rattle.pid_http_stream.proofs.FieldWalks.{HasDigits}
use Rattle.pid_http_stream.proofs.body_length.read_length.Given as goal

abbrev pub invariant-loop-digit : goal.invariant-loop-digit
invariant-loop-digit l = HasDigits l.value l.digit-index l.length
