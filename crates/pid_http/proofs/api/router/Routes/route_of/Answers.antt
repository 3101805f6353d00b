use Rattle.std.proofs.Common.{◌∙◌}
use Rattle.pid_http.proofs.OfApi.Targets.{at_path, row_found}
use Rattle.pid_http.proofs.api.router.Routes.route_of.Goals as goal

pub returns-in-Ok : goal.returns-in-Ok
returns-in-Ok c = row_found _ _ _ c.table.ensures c.get.ensures.lookup.3 ∙ at_path _ _ c.args.self.now.whole _ c.in-Ok.ensures.found

pub returns-in-Err : goal.returns-in-Err
returns-in-Err c = at_path _ _ c.args.self.now.whole _ c.in-Err.ensures.missing
