use Rattle.pid_tables.specs.Rows.Faults.{IsMemoryOrStore}
use Rattle.pid_tables.proofs.OfRows.CauseLemmas.{passed_on}
use Rattle.pid_tables.proofs.OfRows.GoingLemmas.{earlier, goes_then}
use Rattle.pid_tables.proofs.OfRows.WriteFaults.{led}
use Rattle.std.proofs.Common.{refl, ◌∙◌}
use Rattle.pid_tables.proofs.MoveLemmas.{goes_fault, goes_nowhere}
use Rattle.pid_tables.proofs.rows.item.write_both.Goals as goal

pub returns : goal.returns
returns g c = record {
  same_reference = c.write_one-2.ensures.same_reference ∙ c.write_one.ensures.same_reference;
  goes = goes_then (g.B.Batch.batch.state c.args.tx.now) (g.B.Batch.batch.state c.write_one.new.self) (g.B.Batch.batch.state c.write_one-2.new.self) _ c.write_one-2.result c.in_ok-write_one.ensures.goes c.write_one-2.ensures.goes;
  runs = λ clean inside schema has first keeps second.
      let mid = c.write_one.new.self in
      let before = earlier (g.B.Batch.batch.state mid) (g.B.Batch.batch.state c.write_one-2.new.self) c.write_one-2.ensures.goes.survives clean in
      let one = c.in_ok-write_one.ensures in
      let ran = rw (c.to_sql-path.ensures, c.to_sql-name.ensures) at (one.runs.ran before inside) in
      led c.write_one-2.result (λ more. (mid, ran, more)) (rw (c.to_sql-path.ensures, c.in_ok-since.ensures) at (c.write_one-2.ensures.runs.ran clean (one.goes.going before inside).1))
      (c.write_one-2.ensures.runs.only_store clean schema (λ opened. keeps mid ran) second);
}

pub returns-in_err-since : goal.returns-in_err-since
returns-in_err-since g c = record {
  same_reference = refl;
  goes = goes_nowhere (g.B.Batch.batch.state c.args.tx.now) _ c.from_residual.result c.from_residual.ensures.1;
  runs = λ clean inside schema has first keeps second. passed_on c.from_residual.result _ _ IsMemoryOrStore c.from_residual.ensures.1 c.in_err-since.ensures;
}

pub returns-in_err-write_one : goal.returns-in_err-write_one
returns-in_err-write_one g c = record {
  same_reference = c.write_one.ensures.same_reference;
  goes = goes_fault (g.B.Batch.batch.state c.args.tx.now) (g.B.Batch.batch.state c.write_one.new.self) _ c.from_residual-in_err-write_one.result c.from_residual-in_err-write_one.ensures.1 c.in_err-write_one.ensures.goes;
  runs = λ clean inside schema has first keeps second.
      passed_on c.from_residual-in_err-write_one.result _ _ IsMemoryOrStore c.from_residual-in_err-write_one.ensures.1 (c.in_err-write_one.ensures.runs.only_store clean schema (λ opened. has) first);
}
