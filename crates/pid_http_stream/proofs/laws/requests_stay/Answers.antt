use Rattle.pid_http_stream.proofs.Heads.{IsRequest-append}
use Rattle.pid_http_stream.proofs.laws.requests_stay.Goals as goal

pub returns : goal.returns
returns c = λ front more request behind is. IsRequest-append front request behind more is
