use Rattle.std.proofs.Common.{◌≡◌, Result, IfOk, MatchResult, refl, sym, ap, subst, ◌∙◌, slice_get}
use Rattle.pid_moderation.specs.Items.{name_at}
use Rattle.pid_tables.specs.declared.rows.fault.TableFault.{TableFault}
use Rattle.pid_tables.specs.declared.rows.schema_version.Version.TheVariants.{Two}
use Rattle.pid_tables.specs.Rows.Faults.{IsMemoryOrStore}
use Rattle.pid_tables.specs.Rows.Schema.{pid_schema}
use Rattle.pid_tables.specs.Rows.Steps.Shows.{ShowsCounting}
use Rattle.pid_tables.proofs.OfRows.CauseLemmas.{passed_on}
use Rattle.pid_tables.proofs.OfRows.FindLemmas.{name_found}
use Rattle.pid_tables.proofs.OfRows.KeyTexts.{select_item_is}
use Rattle.pid_tables.proofs.OfRows.ReadLemmas.{shows_still}
use Rattle.pid_tables.proofs.OfRows.StatementTexts.{select_item}
use Rattle.pid_tables.specs.declared.putting.Put.{Put}
use Rattle.pid_tables.specs.Steps.Puts.{put_over}
use Rattle.pid_tables.proofs.MoveLemmas.{goes_fault, goes_still, not_ok}
use Rattle.pid_tables.proofs.putting.compare.Goals as goal

-- ---- the row is that of the item, if it is there

pub returns : goal.returns
returns g c = record {
  same_reference = c.read_inside.ensures.same_reference;
  goes = goes_still (g.B.Batch.batch.state c.args.batch.now) (g.B.Batch.batch.state c.read_inside.new.self) _ c.put_by.result c.in_ok-rows.ensures.goes;
  shows = λ clean inside counts v shows _.
      let shown = c.in_ok-rows.ensures.shown clean in
      let found = name_found (g.B.Batch.batch.state c.args.batch.now) (g.B.Batch.batch.state c.read_inside.new.self) counts v shows c.in_ok-rows.rows.items c.args.path.now (rw c.to_sql-path.ensures at shown) in
      let put = c.put_by.ensures (name_at c.args.path.now v.items) (ap (λ l. slice_get l 0) c.as_slice.ensures.value ∙ found) in
      subst (λ (r : Result Put TableFault). MatchResult r (λ _. ShowsCounting counts (g.B.Batch.batch.state c.read_inside.new.self).now v) IsMemoryOrStore) (sym put)
      (shows_still select_item _ (g.B.Batch.batch.state c.args.batch.now) (g.B.Batch.batch.state c.read_inside.new.self) c.in_ok-rows.rows.items counts v (select_item_is Two).plain shows shown);
  told = λ clean counts v shows.
      let found = name_found (g.B.Batch.batch.state c.args.batch.now) (g.B.Batch.batch.state c.read_inside.new.self) counts v shows c.in_ok-rows.rows.items c.args.path.now (rw c.to_sql-path.ensures at (c.in_ok-rows.ensures.shown clean)) in
      let item = name_at c.args.path.now v.items in
      let put = c.put_by.ensures item (ap (λ l. slice_get l 0) c.as_slice.ensures.value ∙ found) in
      subst (λ (r : Result Put TableFault). IfOk r (λ put. put ≡ put_over c.args.name.now item)) (sym put) refl;
}

-- ---- the query fails

pub returns-in_err-rows : goal.returns-in_err-rows
returns-in_err-rows g c = record {
  same_reference = c.read_inside.ensures.same_reference;
  goes = goes_fault (g.B.Batch.batch.state c.args.batch.now) (g.B.Batch.batch.state c.read_inside.new.self) _ c.from_residual.result c.from_residual.ensures.1 c.in_err-rows.ensures.goes;
  shows = λ clean inside counts v shows _.
      passed_on c.from_residual.result _ _ IsMemoryOrStore c.from_residual.ensures.1 (c.in_err-rows.ensures.faults.only_store clean pid_schema shows.schema (select_item_is Two).plain);
  told = λ clean counts v shows. not_ok c.from_residual.result _ _ c.from_residual.ensures.1;
}
