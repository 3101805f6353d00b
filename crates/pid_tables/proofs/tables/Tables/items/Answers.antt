use Rattle.std.proofs.Common.{length, refl}
use Rattle.pid_tables.proofs.ThenReads.{read_number}
use Rattle.pid_tables.proofs.tables.Tables.items.Goals as goal

pub returns : goal.returns
returns g c = read_number g.C.Database.state c.args.self.now.conn c.count.new.tables.conn c.count.result (λ v. length v.items) c.count.ensures.rests (c.count.ensures.found (λ counts. refl))
