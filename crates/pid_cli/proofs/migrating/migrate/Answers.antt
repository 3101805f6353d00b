use Rattle.std.proofs.Common.{refl, subst, sym, ◌∙◌}
use Rattle.pid_cli.specs.Migrations.{IsMigration, Migrated, Unconnected, Unmoved}
use Rattle.pid_cli.proofs.migrating.migrate.Goals as goal

pub returns-in-Ok-migrate : goal.returns-in-Ok-migrate
returns-in-Ok-migrate g c = Migrated c.in-Ok.conn c.in-Ok-migrate.conn c.in-Ok-migrate.step
    c.in-Ok.ensures.opened
    (subst (λ r. IsMigration g.C.Database c.in-Ok.conn r) c.in-Ok-migrate.is (record {
      history = c.migrate.ensures.history;
      at_once = c.migrate.ensures.at_once;
      shown = c.migrate.ensures.shown;
      judged = c.migrate.ensures.judged;
    }))
    (rw (c.as_bytes.ensures.value ∙ c.step_text.ensures) at c.print_line-end.ensures, refl) c.close.ensures

pub returns-in-Err : goal.returns-in-Err
returns-in-Err g c =
    Unconnected c.in-Err.why c.in-Err.ensures.unopened (refl, c.report_unopened.ensures)

pub returns-in-Err-migrate : goal.returns-in-Err-migrate
returns-in-Err-migrate g c = Unmoved c.in-Ok.conn c.in-Err-migrate.refused c.in-Err-migrate.fault
    c.in-Ok.ensures.opened
    (subst (λ r. IsMigration g.C.Database c.in-Ok.conn r) c.in-Err-migrate.is (record {
      history = c.migrate.ensures.history;
      at_once = c.migrate.ensures.at_once;
      shown = c.migrate.ensures.shown;
      judged = c.migrate.ensures.judged;
    }))
    (refl, rw (sym c.of_tables.ensures) c.report_unopened-in-Err-migrate.ensures)
