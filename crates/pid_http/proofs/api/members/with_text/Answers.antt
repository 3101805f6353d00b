use Rattle.std.proofs.Common.{ap, ◌∙◌}
use Rattle.serde_json.specs.Data.{string}
use Rattle.pid_http.proofs.api.members.with_text.Goals as goal

pub returns : goal.returns
returns c = λ ms word has is. c.with_value.ensures ms (string word) has (c.in_ok-value.ensures ∙ ap string is)
