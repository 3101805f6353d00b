use Rattle.std.proofs.Common.{Option, None, ℕ, inl, refl, subst}
use Rattle.pid_tables.specs.declared.rows.schema_version.Version.{Version}
use Rattle.pid_tables.proofs.OfRows.CauseLemmas.{passed_on}
use Rattle.pid_tables.proofs.OfRows.OnlyReading.{reads_then}
use Rattle.pid_tables.specs.Check.Checking.{Explains}
use Rattle.pid_tables.specs.Check.Shapes.{HasTables, ShowsLater}
use Rattle.pid_tables.specs.Check.Steps.Shapes.{HasTablesOf}
use Rattle.pid_tables.proofs.OfCheck.Labels.{later_shown}
use Rattle.pid_tables.proofs.OfCheck.Telling.{only_store, damage_explained, neither_schema}
use Rattle.pid_tables.proofs.check.checking.check_tables.Goals as goal

pub returns-in_err-found-clause-told : goal.returns-in_err-found-clause-told
returns-in_err-found-clause-told g c clean each =
    let d = (g.C.Database.state c.args.tables.now.conn).now in
    passed_on c.from_residual.result _ _ (Explains d) c.from_residual.ensures.1 (only_store d _ c.in_err-found.ensures.only_store)

pub returns-in_err-labels-clause-told : goal.returns-in_err-labels-clause-told
returns-in_err-labels-clause-told g c clean each =
    let d = (g.C.Database.state c.args.tables.now.conn).now in
    let mid = c.in_err-labels.ensures.rests.clean clean in
    passed_on c.from_residual-in_err-labels.result _ _ (Explains d) c.from_residual-in_err-labels.ensures.1
    (only_store d _ (c.in_err-labels.ensures.keeps clean d (c.in_ok-found.ensures.same mid) (each _ (inl refl))))

pub returns-in-Some-clause-told : goal.returns-in-Some-clause-told
returns-in-Some-clause-told g c clean each =
    let d = (g.C.Database.state c.args.tables.now.conn).now in
    let mid = c.in_ok-labels.ensures.rests.clean clean in
    let it = (c.in_ok-labels.ensures.keeps clean d (c.in_ok-found.ensures.same mid) (each _ (inl refl))).0 in
    subst (λ (o : Option ℕ). ShowsLater d o) c.in-Some.is (later_shown d it.0 c.in_ok-labels.labels.later it.1 it.2.later)

pub returns-in_default-found-clause-told : goal.returns-in_default-found-clause-told
returns-in_default-found-clause-told g c clean each =
    let d = (g.C.Database.state c.args.tables.now.conn).now in
    let mid = c.in_ok-labels.ensures.rests.clean clean in
    let it = (c.in_ok-labels.ensures.keeps clean d (c.in_ok-found.ensures.same mid) (each _ (inl refl))).0 in
    let none : ShowsLater d None = subst (λ (o : Option ℕ). ShowsLater d o) c.in_default.is (later_shown d it.0 c.in_ok-labels.labels.later it.1 it.2.later) in
    neither_schema d each none (subst (λ (o : Option Version). HasTablesOf o d.schema) c.in_default-found.is (c.in_ok-found.ensures.asked mid each))

pub returns-in_err-check_rows-clause-told : goal.returns-in_err-check_rows-clause-told
returns-in_err-check_rows-clause-told g c clean each =
    let d = (g.C.Database.state c.args.tables.now.conn).now in
    let late = c.in_err-check_rows.ensures.rests.clean clean in
    let mid = c.in_ok-labels.ensures.rests.clean late in
    let it = c.in_ok-labels.ensures.keeps late d (c.in_ok-found.ensures.same mid) (each _ (inl refl)) in
    let none : ShowsLater d None = subst (λ (o : Option ℕ). ShowsLater d o) c.in_default.is (later_shown d it.0.0 c.in_ok-labels.labels.later it.0.1 it.0.2.later) in
    let version = c.in-Some-found.version in
    let has : HasTables version d.schema = subst (λ (o : Option Version). HasTablesOf o d.schema) c.in-Some-found.is (c.in_ok-found.ensures.asked mid each) in
    passed_on c.from_residual-in_err-check_rows.result _ _ (Explains d) c.from_residual-in_err-check_rows.ensures.1
    (damage_explained d each none version has _ (c.in_err-check_rows.ensures.told clean d it.1 (has, it.0)))

pub returns-clause-told : goal.returns-clause-told
returns-clause-told g c clean each =
    let d = (g.C.Database.state c.args.tables.now.conn).now in
    let late = c.in_ok-check_rows.ensures.rests.clean clean in
    let mid = c.in_ok-labels.ensures.rests.clean late in
    let it = c.in_ok-labels.ensures.keeps late d (c.in_ok-found.ensures.same mid) (each _ (inl refl)) in
    let none : ShowsLater d None = subst (λ (o : Option ℕ). ShowsLater d o) c.in_default.is (later_shown d it.0.0 c.in_ok-labels.labels.later it.0.1 it.0.2.later) in
    let has : HasTables c.in-Some-found.version d.schema = subst (λ (o : Option Version). HasTablesOf o d.schema) c.in-Some-found.is (c.in_ok-found.ensures.asked mid each) in
    (has, (c.in_ok-check_rows.ensures.told clean d it.1 (has, it.0)).0, none)

pub returns-in_err-labels-clause-rests : goal.returns-in_err-labels-clause-rests
returns-in_err-labels-clause-rests g c = reads_then (g.C.Database.state c.args.tables.now.conn) (g.C.Database.state c.tables_of.new.tables.conn) (g.C.Database.state c.read_labels.new.tables.conn) c.in_ok-found.ensures.rests c.in_err-labels.ensures.rests

pub returns-in-Some-clause-rests : goal.returns-in-Some-clause-rests
returns-in-Some-clause-rests g c = reads_then (g.C.Database.state c.args.tables.now.conn) (g.C.Database.state c.tables_of.new.tables.conn) (g.C.Database.state c.read_labels.new.tables.conn) c.in_ok-found.ensures.rests c.in_ok-labels.ensures.rests

pub returns-in_default-found-clause-rests : goal.returns-in_default-found-clause-rests
returns-in_default-found-clause-rests g c = reads_then (g.C.Database.state c.args.tables.now.conn) (g.C.Database.state c.tables_of.new.tables.conn) (g.C.Database.state c.read_labels.new.tables.conn) c.in_ok-found.ensures.rests c.in_ok-labels.ensures.rests

pub returns-in_err-check_rows-clause-rests : goal.returns-in_err-check_rows-clause-rests
returns-in_err-check_rows-clause-rests g c =
    let a = g.C.Database.state c.args.tables.now.conn in
    let d = g.C.Database.state c.read_labels.new.tables.conn in
    reads_then a d (g.C.Database.state c.check_rows.new.tables.conn) (reads_then a (g.C.Database.state c.tables_of.new.tables.conn) d c.in_ok-found.ensures.rests c.in_ok-labels.ensures.rests) c.in_err-check_rows.ensures.rests

pub returns-clause-rests : goal.returns-clause-rests
returns-clause-rests g c =
    let a = g.C.Database.state c.args.tables.now.conn in
    let d = g.C.Database.state c.read_labels.new.tables.conn in
    reads_then a d (g.C.Database.state c.check_rows.new.tables.conn) (reads_then a (g.C.Database.state c.tables_of.new.tables.conn) d c.in_ok-found.ensures.rests c.in_ok-labels.ensures.rests) c.in_ok-check_rows.ensures.rests
