use Rattle.std.proofs.Common.{ap, ◌∙◌, slice_get, subst, sym}
use Rattle.std.proofs.lemmas.Bool.{false≢true}
use Rattle.std.specs.Prelude.{IsSome}
use Rattle.pid_tables.specs.Rows.Causes.{IsCaused, IsReadable}
use Rattle.pid_tables.specs.Rows.Steps.Answers.{value_row}
use Rattle.pid_tables.specs.Rows.Shows.{counts_of}
use Rattle.pid_tables.specs.Rows.Steps.Shows.{meta_of}
use Rattle.pid_tables.proofs.OfRows.DecodeLemmas.{no_row}
use Rattle.pid_tables.proofs.OfRows.ReadBack.{value_read, meta_fits, meta_there}
use Rattle.pid_tables.proofs.OfRows.LabelLemmas.{number_shown, number_refused, none_shown, query_refused, unread_never}
use Rattle.pid_tables.proofs.OfRows.CauseLemmas.{no_value, passed_from, passed_on}
use Rattle.pid_tables.specs.Rows.Faults.{IsNotNewerSchema}
use Rattle.pid_tables.specs.Rows.LabelRows.{IsDamageOf, ShowsNoNumber}
use Rattle.pid_tables.proofs.rows.meta.count.Goals as goal

pub returns-in-Some : goal.returns-in-Some
returns-in-Some g c =
    let db = (g.C.Database.state c.args.tables.now.conn).now in
    let row = c.in-Some.row.now in
    let first = c.in-Some.ensures.value ∙ ap (λ l. slice_get l 0) c.deref.ensures.value in
    let read = c.in_ok-rows.ensures in
    record {
      rests = read.reads.rests;
      found = λ known clean v rest.
          value_read (g.C.Database.state c.args.tables.now.conn) (g.C.Database.state c.value_rows.new.tables.conn) v row c.number_at.result (meta_of (counts_of v) v.revision c.args.label.now) (first ∙ read.reads.told clean v rest) (meta_fits v c.args.label.now (known (counts_of v))) c.number_at.ensures.read c.number_at.ensures.unread;
      shown = λ clean. number_shown db c.args.label.now _ row (read.shows clean) first c.number_at.result c.number_at.ensures.read;
      refused = λ clean. number_refused db c.args.label.now _ row (read.shows clean) first c.number_at.result c.number_at.ensures.unread;
      never = unread_never _ c.number_at.result c.number_at.ensures.unread;
    }

pub returns : goal.returns
returns g c =
    let first = c.in-None.ensures.value ∙ ap (λ l. slice_get l 0) c.deref.ensures.value in
    let read = c.in_ok-rows.ensures in
    record {
      rests = read.reads.rests;
      found = λ known clean v rest readable.
          let none = no_row value_row (meta_of (counts_of v) v.revision c.args.label.now) (first ∙ read.reads.told clean v rest) in
          let some = subst IsSome (sym none) (meta_there (counts_of v) v.revision c.args.label.now (known (counts_of v))) in
          absurd (false≢true some);
      shown = λ clean. tt;
      refused = λ clean. none_shown (g.C.Database.state c.args.tables.now.conn).now c.args.label.now _ (read.shows clean) first;
      never = tt;
    }

pub returns-in_err-rows : goal.returns-in_err-rows
returns-in_err-rows g c =
    let db = (g.C.Database.state c.args.tables.now.conn).now in
    let read = c.in_err-rows.ensures in
    record {
      rests = read.reads.rests;
      found = λ known clean v rest. passed_on c.from_residual.result _ _ (λ fault. IsReadable v → IsCaused (g.C.Database.state c.args.tables.now.conn) (g.C.Database.state c.value_rows.new.tables.conn) fault) c.from_residual.ensures.1 (read.reads.told clean v rest);
      shown = λ clean. no_value c.from_residual.result _ _ c.from_residual.ensures.1;
      refused = λ clean.
          passed_from c.from_residual.result _ (IsDamageOf (ShowsNoNumber db c.args.label.now)) c.from_residual.ensures.1 (query_refused db c.args.label.now _ (read.only_store clean) read.never);
      never = passed_from c.from_residual.result _ IsNotNewerSchema c.from_residual.ensures.1 read.never;
    }
