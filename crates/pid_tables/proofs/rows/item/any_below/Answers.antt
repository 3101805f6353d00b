use Rattle.std.proofs.Common.{◌≡◌, ◌∙◌, ap, length}
use Rattle.std.specs.Prelude.{not, ◌==◌}
use Rattle.std.specs.Vec.{vec_len}
use Rattle.pid_tables.specs.declared.rows.schema_version.Version.TheVariants.{Two}
use Rattle.pid_tables.specs.Rows.Causes.{IsCaused, IsReadable}
use Rattle.pid_tables.specs.Rows.Shows.{AreViews, counts_of}
use Rattle.pid_tables.specs.Rows.Steps.Answers.{IsFirstWithin}
use Rattle.pid_tables.specs.Rows.Steps.Ranges.{holds_between}
use Rattle.pid_tables.specs.Rows.Schema.{pid_schema}
use Rattle.pid_tables.proofs.OfRows.CauseLemmas.{passed_on}
use Rattle.pid_tables.proofs.OfRows.FindLemmas.{rows_at_rest}
use Rattle.pid_tables.proofs.OfRows.QueryTexts.{between_query}
use Rattle.pid_tables.proofs.OfRows.RangeLemmas.{select_between, between_found, rows_within}
use Rattle.pid_tables.proofs.ThenReads.{no_memory}
use Rattle.pid_tables.proofs.OfCheck.Asking.{nothing_read}
use Rattle.pid_tables.proofs.rows.item.any_below.Goals as goal

pub returns : goal.returns
returns g c = record {
  rests = c.in_ok-rows.ensures.rests;
  told = λ clean v rest.
      let low = c.in_ok-range.range.low.items in
      let high = c.in_ok-range.range.high.items in
      let rows = c.in_ok-rows.rows.items in
      let found = rows_at_rest g.C.Database.state c.args.tables.now.conn v select_between _ rows (AreViews v × IsFirstWithin low high v.items rows) rest (λ mid shows h. (shows.views, between_found _ mid (counts_of v) v shows low high rows h))
      (rw (c.as_slice.ensures.value, c.as_slice-2.ensures.value) at (c.in_ok-rows.ensures.shown clean)) in
      let many : vec_len c.in_ok-rows.rows ≡ length rows = c.in_ok-rows.rows.ok.0 in
      (found.0, ap not (c.is_empty.ensures ∙ ap (λ n. n == 0) many) ∙ rows_within low high v.items rows found.1 ∙ (λ i. holds_between (c.in_ok-range.ensures.low i) (c.in_ok-range.ensures.high i) v.items));
}

pub returns-in_err-rows : goal.returns-in_err-rows
returns-in_err-rows g c = record {
  rests = c.in_err-rows.ensures.rests;
  told = λ clean v rest.
      passed_on c.from_residual-in_err-rows.result _ _ (λ fault. IsReadable v → IsCaused (g.C.Database.state c.args.tables.now.conn) (g.C.Database.state c.read_rows.new.tables.conn) fault) c.from_residual-in_err-rows.ensures.1
      (λ readable. c.in_err-rows.ensures.faults.caused clean pid_schema (λ opened. (rest.shows opened).schema) (rw (c.as_slice.ensures.value, c.as_slice-2.ensures.value) (between_query Two c.in_ok-range.range.low.items c.in_ok-range.range.high.items)));
}

pub returns-in_err-range : goal.returns-in_err-range
returns-in_err-range g c = no_memory g.C.Database.state c.args.tables.now.conn c.args.tables.now.conn c.from_residual.result c.from_residual.ensures.1 (nothing_read (g.C.Database.state c.args.tables.now.conn) c.args.tables.now.settled)
