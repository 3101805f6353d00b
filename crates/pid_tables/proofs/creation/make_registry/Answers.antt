use Rattle.std.proofs.Common.{[], ◌∷◌, ◌++◌, codes, refl, ◌∙◌}
use Rattle.sqlite.specs.declared.types.Value.TheVariants.{Text}
use Rattle.pid_moderation.specs.declared.rank.Rank.TheVariants.{Administrator}
use Rattle.pid_tables.specs.declared.rows.schema_version.Version.TheVariants.{Two}
use Rattle.pid_tables.specs.Rows.Faults.{IsMemoryOrStore, IsNotNewerSchema}
use Rattle.pid_tables.specs.Rows.Schema.{pid_schema}
use Rattle.pid_tables.specs.Rows.TableRows.{number}
use Rattle.pid_tables.proofs.OfRows.CauseLemmas.{passed_on, passed_from}
use Rattle.pid_tables.proofs.OfRows.GoingLemmas.{earlier, goes_then}
use Rattle.pid_tables.proofs.OfRows.KeyTexts.{insert_account_is}
use Rattle.pid_tables.proofs.OfRows.WriteFaults.{led, insert_writes}
use Rattle.pid_tables.proofs.OfRows.WriteRows.{account_added}
use Rattle.pid_tables.specs.Statements.{new_account_text}
use Rattle.pid_tables.specs.Steps.Making.{all_statements, label_statements, root_statement}
use Rattle.pid_tables.proofs.Carrying.{carried_both, carried_one, carried_then}
use Rattle.pid_tables.proofs.CreateLemmas.{all_made, shows_nothing, nothing_yet}
use Rattle.pid_tables.proofs.MoveLemmas.{goes_fault, goes_fault_after, not_on_ok}
use Rattle.pid_tables.proofs.MetLemmas.{none_met}
use Rattle.pid_tables.proofs.creation.make_registry.Goals as goal

pub returns : goal.returns
returns g c = record {
  works =
      record {
        same_reference = c.write_one.ensures.same_reference ∙ (c.add_labels.ensures.works.same_reference ∙ c.make_tables.ensures.works.same_reference);
        goes =
            let b = g.B.Batch.batch.state c.make_tables.new.tx in
            let e = g.B.Batch.batch.state c.write_one.new.self in
            goes_then (g.B.Batch.batch.state c.args.tx.now) b e _ c.write_one.result c.in_ok-make_tables.ensures.works.goes
            (goes_then b (g.B.Batch.batch.state c.add_labels.new.tx) e _ c.write_one.result c.in_ok-add_labels.ensures.works.goes c.write_one.ensures.goes);
        carried = λ clean inside.
            let a = c.args.tx.now in
            let b = c.make_tables.new.tx in
            let d = c.add_labels.new.tx in
            let e = c.write_one.new.self in
            let second = earlier (g.B.Batch.batch.state d) (g.B.Batch.batch.state e) c.write_one.ensures.goes.survives clean in
            let first = earlier (g.B.Batch.batch.state b) (g.B.Batch.batch.state d) c.add_labels.ensures.works.goes.survives second in
            let one = c.in_ok-make_tables.ensures in
            let two = c.in_ok-add_labels.ensures in
            let within = (one.works.goes.going first inside).1 in
            carried_then g.B.Batch.batch.state (all_statements ++ label_statements) (root_statement ∷ []) a d e c.write_one.result
            (carried_both g.B.Batch.batch.state all_statements label_statements a b d (one.works.carried first inside) (two.works.carried second within))
            (carried_one g.B.Batch.batch.state new_account_text (Text (codes "root") ∷ number 3 ∷ []) d e c.write_one.result
            (rw (c.to_sql-name.ensures, c.to_sql-rank.ensures, c.from.ensures, c.number.ensures) at (c.write_one.ensures.runs.ran clean (two.works.goes.going second within).1)));
      };
  filled = λ clean inside made.
      let b = g.B.Batch.batch.state c.make_tables.new.tx in
      let d = g.B.Batch.batch.state c.add_labels.new.tx in
      let second = earlier d (g.B.Batch.batch.state c.write_one.new.self) c.write_one.ensures.goes.survives clean in
      let first = earlier b d c.add_labels.ensures.works.goes.survives second in
      let one = c.in_ok-make_tables.ensures in
      let two = c.in_ok-add_labels.ensures in
      let within = (one.works.goes.going first inside).1 in
      let has = two.added second within (all_made b.now (one.made first inside made)) in
      let shown = shows_nothing d.now has in
      led c.write_one.result (account_added d (g.B.Batch.batch.state c.write_one.new.self) _ nothing_yet shown (codes "root") Administrator refl)
      (rw (c.to_sql-name.ensures, c.to_sql-rank.ensures, c.from.ensures, c.number.ensures) at (c.write_one.ensures.runs.ran clean (two.works.goes.going second within).1))
      (c.write_one.ensures.runs.only_store clean pid_schema (λ opened. shown.schema) (insert_writes (insert_account_is Two)));
  never = λ clean inside. c.write_one.ensures.never;
  refused = λ clean inside met.
      let b = g.B.Batch.batch.state c.make_tables.new.tx in
      let d = g.B.Batch.batch.state c.add_labels.new.tx in
      let second = earlier d (g.B.Batch.batch.state c.write_one.new.self) c.write_one.ensures.goes.survives clean in
      let first = earlier b d c.add_labels.ensures.works.goes.survives second in
      let one = c.in_ok-make_tables.ensures in
      absurd (none_met _ _ (one.takes first inside) (met (one.works.goes.was_open first (one.works.goes.going first inside).0)));
}

pub returns-in_err-make_tables : goal.returns-in_err-make_tables
returns-in_err-make_tables g c = record {
  works =
      record {
        same_reference = c.make_tables.ensures.works.same_reference;
        goes =
            goes_fault (g.B.Batch.batch.state c.args.tx.now) (g.B.Batch.batch.state c.make_tables.new.tx) _ c.from_residual.result c.from_residual.ensures.1 c.in_err-make_tables.ensures.works.goes;
        carried = λ clean inside. not_on_ok c.from_residual.result _ _ c.from_residual.ensures.1;
      };
  filled = λ clean inside made. passed_on c.from_residual.result _ _ IsMemoryOrStore c.from_residual.ensures.1 (c.in_err-make_tables.ensures.made clean inside made);
  never = λ clean inside. passed_from c.from_residual.result _ IsNotNewerSchema c.from_residual.ensures.1 (c.in_err-make_tables.ensures.takes clean inside);
  refused = λ clean inside met. passed_on c.from_residual.result _ _ IsNotNewerSchema c.from_residual.ensures.1 (c.in_err-make_tables.ensures.takes clean inside);
}

pub returns-in_err-add_labels : goal.returns-in_err-add_labels
returns-in_err-add_labels g c = record {
  works =
      record {
        same_reference = c.add_labels.ensures.works.same_reference ∙ c.make_tables.ensures.works.same_reference;
        goes =
            goes_fault_after (g.B.Batch.batch.state c.args.tx.now) (g.B.Batch.batch.state c.make_tables.new.tx) (g.B.Batch.batch.state c.add_labels.new.tx) _ _
            c.from_residual-in_err-add_labels.result c.from_residual-in_err-add_labels.ensures.1 c.in_ok-make_tables.ensures.works.goes c.in_err-add_labels.ensures.works.goes;
        carried = λ clean inside. not_on_ok c.from_residual-in_err-add_labels.result _ _ c.from_residual-in_err-add_labels.ensures.1;
      };
  filled = λ clean inside made. let b = g.B.Batch.batch.state c.make_tables.new.tx in let first = earlier b (g.B.Batch.batch.state c.add_labels.new.tx) c.add_labels.ensures.works.goes.survives clean in let one = c.in_ok-make_tables.ensures in passed_on c.from_residual-in_err-add_labels.result _ _ IsMemoryOrStore c.from_residual-in_err-add_labels.ensures.1 (c.in_err-add_labels.ensures.added clean (one.works.goes.going first inside).1 (all_made b.now (one.made first inside made)));
  never = λ clean inside. passed_from c.from_residual-in_err-add_labels.result _ IsNotNewerSchema c.from_residual-in_err-add_labels.ensures.1 c.in_err-add_labels.ensures.never;
  refused = λ clean inside met.
      let b = g.B.Batch.batch.state c.make_tables.new.tx in
      let first = earlier b (g.B.Batch.batch.state c.add_labels.new.tx) c.add_labels.ensures.works.goes.survives clean in
      let one = c.in_ok-make_tables.ensures in
      absurd (none_met _ _ (one.takes first inside) (met (one.works.goes.was_open first (one.works.goes.going first inside).0)));
}
