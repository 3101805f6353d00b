use Rattle.pid_http.proofs.OfApi.Targets.{text_found}
use Rattle.pid_http.proofs.api.text.text_of.Goals as goal

pub returns : goal.returns
returns c = rw c.ok.ensures.value (text_found _ _ c.from_utf8.result c.from_utf8.ensures.cases)
