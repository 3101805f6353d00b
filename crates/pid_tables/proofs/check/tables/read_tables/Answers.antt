use Rattle.std.proofs.Common.{inl, inr, refl}
use Rattle.sqlite.specs.State.{HasCleanDisk}
use Rattle.pid_tables.specs.Rows.Faults.{IsMemoryOrStore}
use Rattle.pid_tables.proofs.OfRows.CauseLemmas.{passed_on}
use Rattle.pid_tables.proofs.OfRows.OnlyReading.{reads_then}
use Rattle.pid_tables.proofs.OfCheck.Complete.{tables_each}
use Rattle.pid_tables.proofs.OfCheck.KeepingFacts.{judged}
use Rattle.pid_tables.proofs.check.tables.read_tables.Goals as goal

pub returns-in_err-submitted : goal.returns-in_err-submitted
returns-in_err-submitted g c = record {
  rests = c.read_submitted.ensures.rests;
  told = λ clean d is has. passed_on c.from_residual.result _ _ IsMemoryOrStore c.from_residual.ensures.1 (c.in_err-submitted.ensures.told clean d is (tables_each _ d.schema has));
}

pub returns-in_err-named : goal.returns-in_err-named
returns-in_err-named g c = record {
  rests =
      reads_then (g.C.Database.state c.args.tables.now.conn) (g.C.Database.state c.read_submitted.new.tables.conn) (g.C.Database.state c.read_named.new.tables.conn) c.read_submitted.ensures.rests c.read_named.ensures.rests;
  told = λ clean d is has.
      let mid : HasCleanDisk (g.C.Database.state c.read_submitted.new.tables.conn) = c.read_named.ensures.rests.clean clean in
      let one = c.in_ok-submitted.ensures.told mid d is (tables_each _ d.schema has) in
      passed_on c.from_residual-in_err-named.result _ _ IsMemoryOrStore c.from_residual-in_err-named.ensures.1 (c.in_err-named.ensures.told clean d one.1 has);
}

pub returns-in_err-remarks : goal.returns-in_err-remarks
returns-in_err-remarks g c = record {
  rests =
      let a = g.C.Database.state c.args.tables.now.conn in
      let mid = g.C.Database.state c.read_submitted.new.tables.conn in
      let late = g.C.Database.state c.read_named.new.tables.conn in
      reads_then a late (g.C.Database.state c.read_remarks.new.tables.conn) (reads_then a mid late c.read_submitted.ensures.rests c.read_named.ensures.rests) c.read_remarks.ensures.rests;
  told = λ clean d is has.
      let late : HasCleanDisk (g.C.Database.state c.read_named.new.tables.conn) = c.read_remarks.ensures.rests.clean clean in
      let mid : HasCleanDisk (g.C.Database.state c.read_submitted.new.tables.conn) = c.read_named.ensures.rests.clean late in
      let one = c.in_ok-submitted.ensures.told mid d is (tables_each _ d.schema has) in
      let two = c.in_ok-named.ensures.told late d one.1 has in
      passed_on c.from_residual-in_err-remarks.result _ _ IsMemoryOrStore c.from_residual-in_err-remarks.ensures.1 (c.in_err-remarks.ensures.keeps clean d two.1 (tables_each _ d.schema has _ (inr (inr (inr (inr (inl refl)))))));
}

pub returns : goal.returns
returns g c = record {
  rests =
      let a = g.C.Database.state c.args.tables.now.conn in
      let mid = g.C.Database.state c.read_submitted.new.tables.conn in
      let late = g.C.Database.state c.read_named.new.tables.conn in
      reads_then a late (g.C.Database.state c.read_remarks.new.tables.conn) (reads_then a mid late c.read_submitted.ensures.rests c.read_named.ensures.rests) c.read_remarks.ensures.rests;
  told = λ clean d is has.
      let late : HasCleanDisk (g.C.Database.state c.read_named.new.tables.conn) = c.read_remarks.ensures.rests.clean clean in
      let mid : HasCleanDisk (g.C.Database.state c.read_submitted.new.tables.conn) = c.read_named.ensures.rests.clean late in
      let one = c.in_ok-submitted.ensures.told mid d is (tables_each _ d.schema has) in
      let two = c.in_ok-named.ensures.told late d one.1 has in
      let three = c.in_ok-remarks.ensures.keeps clean d two.1 (tables_each _ d.schema has _ (inr (inr (inr (inr (inl refl)))))) in
      (judged c.args.version c.args.revision d c.in_ok-submitted.submitted c.in_ok-named.named c.in_ok-remarks.remarks one.0 two.0 three.0, three.1);
}
