use Rattle.std.proofs.Common.{ap, ◌∙◌}
use Rattle.serde_json.specs.Data.{object}
use Rattle.serde_json.proofs.Views.{view-Object}
use Rattle.pid_http.proofs.api.members.object_of.Goals as goal

pub returns-in-Ok : goal.returns-in-Ok
returns-in-Ok c = λ ms has. view-Object c.in-Ok.members ∙ ap object (rw c.in-Ok.is at has)

pub returns-in-Err : goal.returns-in-Err
returns-in-Err c = λ ms has. tt
