use Rattle.pid_ident.specs.PathTexts.{path_text}
use Rattle.pid_tables.proofs.ImportPuts.{put_means, put_gives_up}
use Rattle.pid_tables.proofs.put_sink.AnyPutter.put_name.Goals as goal

pub returns-clause-put : goal.returns-clause-put
returns-clause-put g c =
    put_means c.args.revision _ _ c.put.result (g.B.Batch.batch.state c.args.self.now) (g.B.Batch.batch.state c.put.new.batch) (path_text c.args.path.now) c.args.name.now c.put.ensures.same_reference c.put.ensures.survives c.put.ensures.puts.written c.put.ensures.puts.told

pub returns-clause-fault : goal.returns-clause-fault
returns-clause-fault g c =
    put_gives_up c.put.result _ _ (g.B.Batch.batch.state c.args.self.now) (g.B.Batch.batch.state c.put.new.batch) c.put.ensures.same_reference c.put.ensures.survives c.put.ensures.puts.holds
