use Rattle.std.proofs.Common.{Ok, [], ◌∷◌, codes, refl, ◌∙◌}
use Rattle.sqlite.specs.declared.types.Value.TheVariants.{Text}
use Rattle.pid_tables.specs.Rows.Faults.{IsMemoryOrStore, IsNotNewerSchema}
use Rattle.pid_tables.specs.Rows.Schema.{schema_of}
use Rattle.pid_tables.specs.declared.rows.schema_version.Version.TheVariants.{One, Two}
use Rattle.pid_tables.specs.Rows.TableRows.{number}
use Rattle.pid_tables.proofs.OfRows.CauseLemmas.{passed_on}
use Rattle.pid_tables.proofs.OfRows.GoingLemmas.{earlier, goes_then}
use Rattle.pid_tables.proofs.OfRows.KeyTexts.{insert_meta_is, update_meta_is}
use Rattle.pid_tables.proofs.OfRows.MovingLemmas.{table_made, table_added, fill_writes, between_schema, labels_raised}
use Rattle.pid_tables.proofs.OfRows.SinceTexts.{create_is, create_plain, create_whole, create_defined}
use Rattle.pid_tables.proofs.OfRows.StatementTexts.{create_since}
use Rattle.pid_tables.proofs.OfRows.WriteFaults.{led, create_writes, insert_writes, update_writes}
use Rattle.pid_tables.specs.Statements.{item_since_text, item_since_rows_text, label_text, new_label_text}
use Rattle.pid_tables.proofs.Carrying.{carried_one, carried_then}
use Rattle.pid_tables.proofs.MoveLemmas.{goes_fault, goes_fault_after, not_on_ok}
use Rattle.pid_tables.proofs.schema_1_to_2.move_tables.Goals as goal

pub returns : goal.returns
returns g c = record {
  works =
      record {
        same_reference = c.write_one-4.ensures.same_reference ∙ (c.write_one-3.ensures.same_reference ∙ (c.write_one-2.ensures.same_reference ∙ c.write_one.ensures.same_reference));
        goes =
            let a = g.B.Batch.batch.state c.write_one.new.self in
            let b = g.B.Batch.batch.state c.write_one-2.new.self in
            let end = g.B.Batch.batch.state c.write_one-4.new.self in
            goes_then (g.B.Batch.batch.state c.args.tx.now) a end _ c.write_one-4.result c.in_ok-write_one.ensures.goes
            (goes_then a b end _ c.write_one-4.result c.in_ok-write_one-2.ensures.goes
            (goes_then b (g.B.Batch.batch.state c.write_one-3.new.self) end _ c.write_one-4.result c.in_ok-write_one-3.ensures.goes c.write_one-4.ensures.goes));
        carried = λ clean inside.
            let start = c.args.tx.now in
            let a = c.write_one.new.self in
            let b = c.write_one-2.new.self in
            let d = c.write_one-3.new.self in
            let end = c.write_one-4.new.self in
            let third = earlier (g.B.Batch.batch.state d) (g.B.Batch.batch.state end) c.write_one-4.ensures.goes.survives clean in
            let second = earlier (g.B.Batch.batch.state b) (g.B.Batch.batch.state d) c.write_one-3.ensures.goes.survives third in
            let first = earlier (g.B.Batch.batch.state a) (g.B.Batch.batch.state b) c.write_one-2.ensures.goes.survives second in
            let one = c.in_ok-write_one.ensures in
            let two = c.in_ok-write_one-2.ensures in
            let three = c.in_ok-write_one-3.ensures in
            let in_one = (one.goes.going first inside).1 in
            let in_two = (two.goes.going second in_one).1 in
            let made = one.runs.ran first inside in
            let filled = two.runs.ran second in_one in
            let added = rw (c.to_sql-revision.ensures, c.to_sql-none.ensures) at (three.runs.ran third in_two) in
            let schema = Text (codes "schema") ∷ number 2 ∷ [] in
            carried_then g.B.Batch.batch.state ((item_since_text, []) ∷ (item_since_rows_text, []) ∷ (new_label_text, Text (codes "revision") ∷ number 0 ∷ []) ∷ []) ((label_text, schema) ∷ []) start d end c.write_one-4.result
            (a, made.0, made.1, (b, filled.0, filled.1, (d, added.0, added.1, refl)))
            (carried_one g.B.Batch.batch.state label_text schema d end c.write_one-4.result
            (rw (c.to_sql-schema.ensures, c.to_sql-latest.ensures) at (c.write_one-4.ensures.runs.ran clean (three.goes.going third in_two).1)));
      };
  never = c.write_one-4.ensures.never;
  shows = λ clean inside counts v shows.
      let start = g.B.Batch.batch.state c.args.tx.now in
      let a = g.B.Batch.batch.state c.write_one.new.self in
      let b = g.B.Batch.batch.state c.write_one-2.new.self in
      let d = g.B.Batch.batch.state c.write_one-3.new.self in
      let end = g.B.Batch.batch.state c.write_one-4.new.self in
      let third = earlier d end c.write_one-4.ensures.goes.survives clean in
      let second = earlier b d c.write_one-3.ensures.goes.survives third in
      let first = earlier a b c.write_one-2.ensures.goes.survives second in
      let one = c.in_ok-write_one.ensures in
      let two = c.in_ok-write_one-2.ensures in
      let three = c.in_ok-write_one-3.ensures in
      let in_one = (one.goes.going first inside).1 in
      let in_two = (two.goes.going second in_one).1 in
      let there = shows (one.goes.was_open first (one.goes.going first inside).0) in
      let between = table_added start a b counts v there (one.runs.ran first inside) (two.runs.ran second in_one) in
      let added = rw (c.to_sql-revision.ensures, c.to_sql-none.ensures) at (three.runs.ran third in_two) in
      led c.write_one-4.result (labels_raised b d end counts v between added)
      (rw (c.to_sql-schema.ensures, c.to_sql-latest.ensures) at (c.write_one-4.ensures.runs.ran clean (three.goes.going third in_two).1))
      (c.write_one-4.ensures.runs.only_store clean (schema_of Two) (λ opened. between_schema b d end counts v between added) (update_writes (update_meta_is Two)));
}

pub returns-in_err-write_one : goal.returns-in_err-write_one
returns-in_err-write_one g c = record {
  works =
      record {
        same_reference = c.write_one.ensures.same_reference;
        goes =
            goes_fault (g.B.Batch.batch.state c.args.tx.now) (g.B.Batch.batch.state c.write_one.new.self) _ c.from_residual.result c.from_residual.ensures.1 c.in_err-write_one.ensures.goes;
        carried = λ clean inside. not_on_ok c.from_residual.result _ _ c.from_residual.ensures.1;
      };
  never = passed_on c.from_residual.result _ _ IsNotNewerSchema c.from_residual.ensures.1 c.in_err-write_one.ensures.never;
  shows = λ clean inside counts v shows.
      passed_on c.from_residual.result _ _ IsMemoryOrStore c.from_residual.ensures.1
      (c.in_err-write_one.ensures.runs.only_store clean (schema_of One) (λ opened. (shows opened).schema) (create_writes (schema_of One) create_since _ create_is create_plain create_whole create_defined));
}

pub returns-in_err-write_one-2 : goal.returns-in_err-write_one-2
returns-in_err-write_one-2 g c = record {
  works =
      record {
        same_reference = c.write_one-2.ensures.same_reference ∙ c.write_one.ensures.same_reference;
        goes =
            goes_fault_after (g.B.Batch.batch.state c.args.tx.now) (g.B.Batch.batch.state c.write_one.new.self) (g.B.Batch.batch.state c.write_one-2.new.self) _ _
            c.from_residual-in_err-write_one-2.result c.from_residual-in_err-write_one-2.ensures.1 c.in_ok-write_one.ensures.goes c.in_err-write_one-2.ensures.goes;
        carried = λ clean inside. not_on_ok c.from_residual-in_err-write_one-2.result _ _ c.from_residual-in_err-write_one-2.ensures.1;
      };
  never = passed_on c.from_residual-in_err-write_one-2.result _ _ IsNotNewerSchema c.from_residual-in_err-write_one-2.ensures.1 c.in_err-write_one-2.ensures.never;
  shows = λ clean inside counts v shows.
      let start = g.B.Batch.batch.state c.args.tx.now in
      let a = g.B.Batch.batch.state c.write_one.new.self in
      let first = earlier a (g.B.Batch.batch.state c.write_one-2.new.self) c.write_one-2.ensures.goes.survives clean in
      let one = c.in_ok-write_one.ensures in
      let there = shows (one.goes.was_open first (one.goes.going first inside).0) in
      passed_on c.from_residual-in_err-write_one-2.result _ _ IsMemoryOrStore c.from_residual-in_err-write_one-2.ensures.1
      (c.in_err-write_one-2.ensures.runs.only_store clean (schema_of Two) (λ opened. (table_made start a there.schema (one.runs.ran first inside)).schema) fill_writes);
}

pub returns-in_err-write_one-3 : goal.returns-in_err-write_one-3
returns-in_err-write_one-3 g c = record {
  works =
      record {
        same_reference = c.write_one-3.ensures.same_reference ∙ (c.write_one-2.ensures.same_reference ∙ c.write_one.ensures.same_reference);
        goes =
            let start = g.B.Batch.batch.state c.args.tx.now in
            let a = g.B.Batch.batch.state c.write_one.new.self in
            let b = g.B.Batch.batch.state c.write_one-2.new.self in
            goes_fault_after start b (g.B.Batch.batch.state c.write_one-3.new.self) _ _ c.from_residual-in_err-write_one-3.result c.from_residual-in_err-write_one-3.ensures.1
            (goes_then start a b _ (Ok c.in_ok-write_one-2.field-0) c.in_ok-write_one.ensures.goes c.in_ok-write_one-2.ensures.goes) c.in_err-write_one-3.ensures.goes;
        carried = λ clean inside. not_on_ok c.from_residual-in_err-write_one-3.result _ _ c.from_residual-in_err-write_one-3.ensures.1;
      };
  never = passed_on c.from_residual-in_err-write_one-3.result _ _ IsNotNewerSchema c.from_residual-in_err-write_one-3.ensures.1 c.in_err-write_one-3.ensures.never;
  shows = λ clean inside counts v shows.
      let start = g.B.Batch.batch.state c.args.tx.now in
      let a = g.B.Batch.batch.state c.write_one.new.self in
      let b = g.B.Batch.batch.state c.write_one-2.new.self in
      let second = earlier b (g.B.Batch.batch.state c.write_one-3.new.self) c.write_one-3.ensures.goes.survives clean in
      let first = earlier a b c.write_one-2.ensures.goes.survives second in
      let one = c.in_ok-write_one.ensures in
      let two = c.in_ok-write_one-2.ensures in
      let there = shows (one.goes.was_open first (one.goes.going first inside).0) in
      let between = table_added start a b counts v there (one.runs.ran first inside) (two.runs.ran second (one.goes.going first inside).1) in
      passed_on c.from_residual-in_err-write_one-3.result _ _ IsMemoryOrStore c.from_residual-in_err-write_one-3.ensures.1
      (c.in_err-write_one-3.ensures.runs.only_store clean (schema_of Two) (λ opened. between.schema) (insert_writes (insert_meta_is Two)));
}
