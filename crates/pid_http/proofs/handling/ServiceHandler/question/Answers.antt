use Rattle.std.proofs.Common.{◌∙◌}
use Rattle.pid_http.specs.Api.Questions.{question}
use Rattle.pid_http.proofs.handling.ServiceHandler.question.Goals as goal

pub returns-in-Ok : goal.returns-in-Ok
returns-in-Ok g c h at = c.in-Ok.ensures ∙ (λ i. question (c.method.ensures h at i) (c.target.ensures h at i))
