use Rattle.std.proofs.Common.{[]}
use Rattle.pid_tables.proofs.Carrying.{carried_one}
use Rattle.pid_tables.proofs.CreateLemmas.{made_one}
use Rattle.pid_tables.proofs.MetLemmas.{taken}
use Rattle.pid_tables.proofs.creation.make_table.Goals as goal

pub returns : goal.returns
returns g c = record {
  works =
      record {
        same_reference = c.write_one.ensures.same_reference;
        goes = c.write_one.ensures.goes;
        carried = λ clean inside. carried_one g.B.Batch.batch.state c.args.sql.now [] c.args.tx.now c.write_one.new.self c.write_one.result (c.write_one.ensures.runs.ran clean inside);
      };
  made = λ before table it tables. made_one before c.args.sql.now table c.write_one.result (g.B.Batch.batch.state c.args.tx.now) (g.B.Batch.batch.state c.write_one.new.self) it tables c.write_one.ensures.goes c.write_one.ensures.runs.ran c.write_one.ensures.runs.only_store;
  takes = λ name it clean inside. taken c.args.sql.now name (g.B.Batch.batch.state c.args.tx.now) (g.B.Batch.batch.state c.write_one.new.self) it c.write_one.result (c.write_one.ensures.runs.ran clean inside) c.write_one.ensures.never;
}
