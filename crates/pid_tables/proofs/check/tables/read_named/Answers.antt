use Rattle.std.proofs.Common.{inl, inr, refl, subst}
use Rattle.sqlite.specs.State.{HasCleanDisk}
use Rattle.pid_tables.specs.Rows.Faults.{IsMemoryOrStore}
use Rattle.pid_tables.specs.declared.rows.schema_version.Version.{Version}
use Rattle.pid_tables.proofs.OfRows.CauseLemmas.{passed_on}
use Rattle.pid_tables.proofs.OfRows.OnlyReading.{reads_then}
use Rattle.pid_tables.specs.Check.Shapes.{HasTables}
use Rattle.pid_tables.proofs.OfCheck.Complete.{tables_each}
use Rattle.pid_tables.proofs.OfCheck.KeepingFacts.{first_named, second_named}
use Rattle.pid_tables.proofs.check.tables.read_named.Goals as goal

pub returns-in_err-items : goal.returns-in_err-items
returns-in_err-items g c = record {
  rests = c.read_items.ensures.rests;
  told = λ clean d is has.
      passed_on c.from_residual.result _ _ IsMemoryOrStore c.from_residual.ensures.1 (c.in_err-items.ensures.keeps clean d is (tables_each _ d.schema has _ (inr (inr (inl refl)))));
}

pub returns-in-One : goal.returns-in-One
returns-in-One g c = record {
  rests = c.read_items.ensures.rests;
  told = λ clean d is has.
      let one = c.in_ok-items.ensures.keeps clean d is (tables_each _ d.schema has _ (inr (inr (inl refl)))) in
      (first_named c.args.version c.args.revision d c.in_ok-items.items one.0 c.in-One.is, one.1);
}

pub returns-in_err-dated-in-Two : goal.returns-in_err-dated-in-Two
returns-in_err-dated-in-Two g c = record {
  rests = reads_then (g.C.Database.state c.args.tables.now.conn) (g.C.Database.state c.read_items.new.tables.conn) (g.C.Database.state c.read_sinces.new.tables.conn) c.read_items.ensures.rests c.read_sinces.ensures.rests;
  told = λ clean d is has.
      let mid : HasCleanDisk (g.C.Database.state c.read_items.new.tables.conn) = c.read_sinces.ensures.rests.clean clean in
      let one = c.in_ok-items.ensures.keeps mid d is (tables_each _ d.schema has _ (inr (inr (inl refl)))) in
      let tables = subst (λ (v : Version). HasTables v d.schema) c.in-Two.is has in
      passed_on c.from_residual-in_err-dated-in-Two.result _ _ IsMemoryOrStore c.from_residual-in_err-dated-in-Two.ensures.1 (c.in_err-dated-in-Two.ensures.keeps clean d one.1 tables.2);
}

pub returns : goal.returns
returns g c = record {
  rests = reads_then (g.C.Database.state c.args.tables.now.conn) (g.C.Database.state c.read_items.new.tables.conn) (g.C.Database.state c.read_sinces.new.tables.conn) c.read_items.ensures.rests c.read_sinces.ensures.rests;
  told = λ clean d is has.
      let mid : HasCleanDisk (g.C.Database.state c.read_items.new.tables.conn) = c.read_sinces.ensures.rests.clean clean in
      let one = c.in_ok-items.ensures.keeps mid d is (tables_each _ d.schema has _ (inr (inr (inl refl)))) in
      let tables = subst (λ (v : Version). HasTables v d.schema) c.in-Two.is has in
      let two = c.in_ok-dated-in-Two.ensures.keeps clean d one.1 tables.2 in
      (second_named c.args.version c.args.revision d c.in_ok-items.items one.0 c.in-Two.is c.in_ok-dated-in-Two.dated two.0, two.1);
}
