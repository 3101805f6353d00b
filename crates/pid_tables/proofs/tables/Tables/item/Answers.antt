use Rattle.std.proofs.Common.{◌∙◌, ap, slice_get}
use Rattle.pid_tables.specs.declared.rows.schema_version.Version.TheVariants.{Two}
use Rattle.pid_ident.specs.PathTexts.{path_text}
use Rattle.pid_tables.specs.Rows.Causes.{IsCaused, IsReadable}
use Rattle.pid_tables.specs.declared.rows.fault.TableFault.TheVariants.{Memory}
use Rattle.pid_tables.proofs.OfCheck.Asking.{nothing_read}
use Rattle.pid_tables.specs.Rows.Schema.{pid_schema}
use Rattle.pid_tables.proofs.OfRows.CauseLemmas.{passed_on}
use Rattle.pid_moderation.specs.Items.{name_at}
use Rattle.pid_tables.specs.Rows.Steps.Answers.{name_row}
use Rattle.pid_tables.proofs.OfRows.DecodeLemmas.{no_row, name_read}
use Rattle.pid_tables.proofs.OfRows.FindLemmas.{name_first}
use Rattle.pid_tables.proofs.OfRows.QueryTexts.{item_query}
use Rattle.pid_tables.proofs.OfRows.ReadBack.{name_written}
use Rattle.pid_tables.proofs.OfRows.UnreadLemmas.{caused_unread}
use Rattle.pid_tables.proofs.tables.Tables.item.Goals as goal

pub returns-in-Some : goal.returns-in-Some
returns-in-Some g c = record {
  rests = c.in_ok-rows.ensures.rests;
  told = λ clean v rest.
      let found = name_first g.C.Database.state c.args.self.now.conn v rest c.in_ok-rows.rows.items (path_text c.args.path.now) (rw (c.to_sql-key.ensures, c.as_str.ensures.value, c.in_ok-text.ensures) at (c.in_ok-rows.ensures.shown clean)) in
      name_read (name_at (path_text c.args.path.now) v.items) c.in-Some.row.now c.in_ok-name_at-in-Some.field-0 (c.in-Some.ensures.value ∙ ap (λ l. slice_get l 0) c.deref.ensures.value ∙ found) c.in_ok-name_at-in-Some.ensures.read;
}

pub returns : goal.returns
returns g c = record {
  rests = c.in_ok-rows.ensures.rests;
  told = λ clean v rest.
      let found = name_first g.C.Database.state c.args.self.now.conn v rest c.in_ok-rows.rows.items (path_text c.args.path.now) (rw (c.to_sql-key.ensures, c.as_str.ensures.value, c.in_ok-text.ensures) at (c.in_ok-rows.ensures.shown clean)) in
      no_row name_row (name_at (path_text c.args.path.now) v.items) (c.in-None.ensures.value ∙ ap (λ l. slice_get l 0) c.deref.ensures.value ∙ found);
}

pub returns-in_err-name_at-in-Some : goal.returns-in_err-name_at-in-Some
returns-in_err-name_at-in-Some g c = record {
  rests = c.in_ok-rows.ensures.rests;
  told = λ clean v rest.
      let old = g.C.Database.state c.args.self.now.conn in
      let new = g.C.Database.state c.read_rows-rows.new.tables.conn in
      let found = name_first g.C.Database.state c.args.self.now.conn v rest c.in_ok-rows.rows.items (path_text c.args.path.now) (rw (c.to_sql-key.ensures, c.as_str.ensures.value, c.in_ok-text.ensures) at (c.in_ok-rows.ensures.shown clean)) in
      passed_on c.from_residual-in_err-name_at-in-Some.result _ _ (λ fault. IsReadable v → IsCaused old new fault) c.from_residual-in_err-name_at-in-Some.ensures.1
      (λ readable. caused_unread old new c.in_err-name_at-in-Some.field-0.0 (name_written v.items (path_text c.args.path.now) c.in-Some.row.now readable.items (c.in-Some.ensures.value ∙ ap (λ l. slice_get l 0) c.deref.ensures.value ∙ found)) c.in_err-name_at-in-Some.ensures.unread);
}

pub returns-in_err-rows : goal.returns-in_err-rows
returns-in_err-rows g c = record {
  rests = c.in_err-rows.ensures.rests;
  told = λ clean v rest.
      passed_on c.from_residual-in_err-rows.result _ _ (λ fault. IsReadable v → IsCaused (g.C.Database.state c.args.self.now.conn) (g.C.Database.state c.read_rows-rows.new.tables.conn) fault) c.from_residual-in_err-rows.ensures.1
      (λ readable. (rw (c.to_sql-key.ensures, c.as_str.ensures.value, c.in_ok-text.ensures) at (c.in_err-rows.ensures.faults.caused clean pid_schema (λ opened. (rest.shows opened).schema))) (item_query Two (path_text c.args.path.now)));
}

pub returns-in_err-text : goal.returns-in_err-text
returns-in_err-text g c =
    let old = g.C.Database.state c.args.self.now.conn in
    record {
      rests = nothing_read old c.args.self.now.settled;
      told = λ clean v rest. passed_on c.from_residual.result Memory _ (λ fault. IsReadable v → IsCaused old old fault) c.from_residual.ensures.1 (λ readable. tt);
    }
