use Rattle.std.proofs.Common.{subst}
use Rattle.std.proofs.lemmas.Result.{err_from_is_err_and}
use Rattle.pid_cli.specs.Openings.{IsOpening, Refused, Unconnected}
use Rattle.pid_cli.proofs.alone.AloneRegistries.open.Goals as goal

pub returns-in_err-conn-clause-unopened : goal.returns-in_err-conn-clause-unopened
returns-in_err-conn-clause-unopened g c =
    let p = err_from_is_err_and c.from_residual.result c.from_residual.ensures.1 in
    rw p.1 (rw p.2 (Unconnected c.in_err-conn.ensures.unopened))

pub returns-in-Err-clause-unopened : goal.returns-in-Err-clause-unopened
returns-in-Err-clause-unopened g c = Refused c.in_ok-conn.conn c.in-Err.refused
    c.in-Err.fault c.in_ok-conn.ensures.opened
    (subst (λ r. IsOpening g.D.Connection.Database c.in_ok-conn.conn r) c.in-Err.is (record {
      history = c.open-2.ensures.history;
      registry = c.open-2.ensures.registry;
      at_once = c.open-2.ensures.at_once;
      explains = c.open-2.ensures.explains;
    }))
    c.of_tables.ensures
