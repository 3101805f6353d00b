use Rattle.std.specs.Prelude.{[], ◌∷◌}
use Rattle.std.proofs.Common.{refl}
use Rattle.std.proofs.lemmas.Result.{err_from_is_err_and}
use Rattle.pid_moderation.specs.BeforeFile.{import_of}
use Rattle.pid_moderation.specs.Files.{file_reading}
use Rattle.pid_service_laws.specs.Imports.{import_sent}
use Rattle.pid_cli_jobs.proofs.imports.import_file.Goals as goal

pub returns : goal.returns
returns g c =
    let new = c.import_from-result.new.self in
    let i = c.import_from-result.ensures in
    let asked = import_of c.args.sender.0 c.args.sender.1 (file_reading i.obeyed.text) in (
      (i.reads.fault, i.reads.fault_first),
      record {
        opened = c.in_ok-registry.registry;
        opens = c.in_ok-registry.ensures.opened;
        ended = new;
        goes = record {
          calls = import_sent asked c.import_from-result.result (g.G.Registry.RegistryCalls.is_live new) ∷ [];
          lead = (new, i.obeyed.holds.calls, refl);
        };
        does = i.obeyed;
        closes = c.close.ensures;
      },
    )

pub returns-in_err-registry : goal.returns-in_err-registry
returns-in_err-registry g c =
    let p = err_from_is_err_and c.from_residual.result c.from_residual.ensures.1 in
    rw p.1 (rw p.2 c.in_err-registry.ensures.unopened)
