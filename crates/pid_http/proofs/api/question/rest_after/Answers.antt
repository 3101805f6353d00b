use Rattle.std.proofs.Common.{ℕ, List, ap, refl, ◌∙◌}
use Rattle.std.specs.Borrow.{Bor}
use Rattle.pid_http.proofs.OfApi.Targets.{rest_found}
use Rattle.pid_http.proofs.api.question.rest_after.Goals as goal

pub returns : goal.returns
returns c = ap (λ (b : Bor (List ℕ)). b.now) c.unwrap_or.ensures ∙ rest_found _ _ c.strip_prefix.result _ refl c.strip_prefix.ensures.cases
