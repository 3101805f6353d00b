use Rattle.pid_http.proofs.OfApi.RouteRows.{all_fit, whole}
use Rattle.pid_http.proofs.api.router.Routes.new.Goals as goal

pub invariant_of-result : goal.invariant_of-result
invariant_of-result c = record { whole = whole _ _ _ c.in-Ok.ensures.inserted c.table.ensures c.new-router.ensures }

pub returns-in-Err : goal.returns-in-Err
returns-in-Err c = c.in-Err.ensures.refused (all_fit _ _ c.table.ensures c.new-router.ensures)
