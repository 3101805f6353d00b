use Rattle.std.proofs.Common.{◌≡◌, ◌++◌, ◌∙◌, Ok, map, refl}
use Rattle.pid_moderation.specs.ItemPairs.{pair_of}
use Rattle.pid_tables.specs.Rows.Causes.{IsCaused, IsReadable}
use Rattle.pid_tables.specs.Rows.Shows.{AreViews, counts_of}
use Rattle.pid_tables.specs.Rows.Steps.Answers.{item_shown}
use Rattle.pid_tables.specs.Rows.Steps.Ranges.{is_between}
use Rattle.pid_tables.specs.Rows.Schema.{pid_schema}
use Rattle.pid_tables.proofs.OfRows.CauseLemmas.{passed_on}
use Rattle.pid_tables.proofs.OfRows.FindLemmas.{at_rest}
use Rattle.pid_tables.specs.Lists.Steps.Children.{between, children_among}
use Rattle.pid_tables.proofs.OfLists.BelowLemmas.{kept_items}
use Rattle.pid_tables.proofs.OfLists.ItemLists.{select_range, range_found, range_query}
use Rattle.pid_tables.proofs.OfLists.RowLists.{read_or_caused}
use Rattle.pid_tables.proofs.ThenReads.{no_memory}
use Rattle.pid_tables.proofs.OfCheck.Asking.{nothing_read}
use Rattle.pid_tables.proofs.lists.children.add_under.Goals as goal

pub returns : goal.returns
returns g c = record {
  rests = c.in_ok-rows.ensures.rests;
  told = λ clean v rest.
      let old = g.C.Database.state c.args.tables.now.conn in
      let new = g.C.Database.state c.read_rows.new.tables.conn in
      let low = c.in_ok-range.range.low.items in
      let high = c.in_ok-range.range.high.items in
      let found = at_rest g.C.Database.state c.args.tables.now.conn new v select_range _ (Ok c.in_ok-rows.rows) (λ rows. rows.items) (λ rows. AreViews v × (rows.items ≡ map item_shown (between low high v.items))) rest
      (λ mid rows shows h. (shows.views, range_found _ (counts_of v) v shows low high _ mid refl rows.items h))
      (rw (c.as_slice.ensures.value, c.as_slice-2.ensures.value) at (c.in_ok-rows.ensures.shown clean)) tt in
      read_or_caused old new v c.add_children.result _ _ (λ readable. kept_items (λ e. is_between low high e.0) v.items readable.items)
      (λ x h. (found.0, h ∙ (λ i. map pair_of c.args.kept.now.items ++ children_among c.args.path (between (c.in_ok-range.ensures.low i) (c.in_ok-range.ensures.high i) v.items))))
      (c.add_children.ensures (between low high v.items) (c.as_slice-3.ensures.value ∙ found.1));
}

pub returns-in_err-rows : goal.returns-in_err-rows
returns-in_err-rows g c = record {
  rests = c.in_err-rows.ensures.rests;
  told = λ clean v rest.
      passed_on c.from_residual-in_err-rows.result _ _ (λ fault. IsReadable v → IsCaused (g.C.Database.state c.args.tables.now.conn) (g.C.Database.state c.read_rows.new.tables.conn) fault) c.from_residual-in_err-rows.ensures.1
      (λ readable. c.in_err-rows.ensures.faults.caused clean pid_schema (λ opened. (rest.shows opened).schema) (rw (c.as_slice.ensures.value, c.as_slice-2.ensures.value) (range_query c.in_ok-range.range.low.items c.in_ok-range.range.high.items)));
}

pub returns-in_err-range : goal.returns-in_err-range
returns-in_err-range g c = no_memory g.C.Database.state c.args.tables.now.conn c.args.tables.now.conn c.from_residual.result c.from_residual.ensures.1 (nothing_read (g.C.Database.state c.args.tables.now.conn) c.args.tables.now.settled)
