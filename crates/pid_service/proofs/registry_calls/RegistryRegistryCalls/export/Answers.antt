use Rattle.pid_service.proofs.QueriesMet.{exported_then}
use Rattle.pid_service.proofs.registry_calls.RegistryRegistryCalls.export.Goals as goal

pub returns : goal.returns
returns g c = exported_then g.C.Database g.O.Output c.args.self.now c.export_length.new.self c.export_rows.new.self _ _ c.export_length.result c.export_rows.result _ c.export_length.ensures c.export_rows.ensures
