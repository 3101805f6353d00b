use Rattle.std.proofs.Common.{◌≡◌, ◌⊎◌, ◌∙◌, [], ◌∷◌, ap, slice_get, length}
use Rattle.pid_tables.specs.declared.rows.schema_version.Version.TheVariants.{Two}
use Rattle.pid_tables.specs.Rows.Causes.{IsCaused, IsReadable}
use Rattle.pid_tables.specs.Rows.Shows.{counts_of}
use Rattle.pid_tables.specs.Rows.Steps.Answers.{value_row}
use Rattle.pid_tables.specs.Rows.Schema.{pid_schema}
use Rattle.pid_tables.proofs.OfRows.CauseLemmas.{passed_on}
use Rattle.pid_tables.proofs.OfRows.FindLemmas.{rows_at_rest}
use Rattle.pid_tables.proofs.OfRows.LastRemark.{select_last, last_found}
use Rattle.pid_tables.proofs.OfRows.QueryTexts.{last_query}
use Rattle.pid_tables.proofs.OfRows.ReadBack.{no_only, number_read, only_row}
use Rattle.pid_tables.proofs.rows.remark.remark_count.Goals as goal

pub returns-in-Some : goal.returns-in-Some
returns-in-Some g c = record {
  rests = c.in_ok-rows.ensures.rests;
  told = λ clean v rest.
      let rows = c.in_ok-rows.rows.items in
      let last = length (v.remarks c.args.number) in
      let found = rows_at_rest g.C.Database.state c.args.tables.now.conn v select_last _ rows (((rows ≡ []) × (last ≡ 0)) ⊎ (rows ≡ value_row last ∷ [])) rest (λ mid shows h. last_found _ mid (counts_of v) v shows c.args.number rows h) (rw c.to_sql-number.ensures at (c.in_ok-rows.ensures.shown clean)) in
      number_read (g.C.Database.state c.args.tables.now.conn) (g.C.Database.state c.read_rows.new.tables.conn) v c.in-Some.row.now c.number_at.result last
      (only_row rows c.in-Some.row.now (value_row last) (c.in-Some.ensures.value ∙ ap (λ l. slice_get l 0) c.deref.ensures.value) found)
      (λ readable. readable.remark_count c.args.number) c.number_at.ensures.read c.number_at.ensures.unread;
}

pub returns : goal.returns
returns g c = record {
  rests = c.in_ok-rows.ensures.rests;
  told = λ clean v rest.
      let rows = c.in_ok-rows.rows.items in
      let last = length (v.remarks c.args.number) in
      let found = rows_at_rest g.C.Database.state c.args.tables.now.conn v select_last _ rows (((rows ≡ []) × (last ≡ 0)) ⊎ (rows ≡ value_row last ∷ [])) rest (λ mid shows h. last_found _ mid (counts_of v) v shows c.args.number rows h) (rw c.to_sql-number.ensures at (c.in_ok-rows.ensures.shown clean)) in
      no_only rows last (c.in-None.ensures.value ∙ ap (λ l. slice_get l 0) c.deref.ensures.value) found;
}

pub returns-in_err-rows : goal.returns-in_err-rows
returns-in_err-rows g c = record {
  rests = c.in_err-rows.ensures.rests;
  told = λ clean v rest.
      passed_on c.from_residual.result _ _ (λ fault. IsReadable v → IsCaused (g.C.Database.state c.args.tables.now.conn) (g.C.Database.state c.read_rows.new.tables.conn) fault) c.from_residual.ensures.1
      (λ readable. (rw c.to_sql-number.ensures at (c.in_err-rows.ensures.faults.caused clean pid_schema (λ opened. (rest.shows opened).schema))) (last_query Two c.args.number));
}
