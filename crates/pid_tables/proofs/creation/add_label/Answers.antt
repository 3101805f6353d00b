use Rattle.std.proofs.Common.{[], ◌∷◌}
use Rattle.sqlite.specs.declared.types.Value.TheVariants.{Text}
use Rattle.pid_tables.specs.Rows.TableRows.{number}
use Rattle.pid_tables.specs.Statements.{new_label_text}
use Rattle.pid_tables.proofs.Carrying.{carried_one}
use Rattle.pid_tables.proofs.CreateLemmas.{label_added}
use Rattle.pid_tables.specs.declared.rows.schema_version.Version.TheVariants.{Two}
use Rattle.pid_tables.specs.Rows.Schema.{pid_schema}
use Rattle.pid_tables.proofs.OfRows.KeyTexts.{insert_meta_is}
use Rattle.pid_tables.proofs.OfRows.WriteFaults.{led, insert_writes}
use Rattle.pid_tables.proofs.creation.add_label.Goals as goal

pub returns-clause-added : goal.returns-clause-added
returns-clause-added g c clean inside m has none =
    led c.write_one.result (label_added (g.B.Batch.batch.state c.args.tx.now) (g.B.Batch.batch.state c.write_one.new.self) m c.args.label.now c.args.value has none)
    (rw (c.to_sql-label.ensures, c.to_sql-value.ensures) at (c.write_one.ensures.runs.ran clean inside))
    (c.write_one.ensures.runs.only_store clean pid_schema (λ opened. has.schema) (insert_writes (insert_meta_is Two)))

pub returns-clause-works : goal.returns-clause-works
returns-clause-works g c = record {
  same_reference = c.write_one.ensures.same_reference;
  goes = c.write_one.ensures.goes;
  carried = λ clean inside.
      carried_one g.B.Batch.batch.state new_label_text (Text c.args.label.now ∷ number c.args.value ∷ []) c.args.tx.now c.write_one.new.self c.write_one.result
      (rw (c.to_sql-label.ensures, c.to_sql-value.ensures) at (c.write_one.ensures.runs.ran clean inside));
}
