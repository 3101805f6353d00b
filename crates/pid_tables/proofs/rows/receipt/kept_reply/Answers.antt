use Rattle.std.proofs.Common.{◌∙◌, ap, slice_get}
use Rattle.pid_tables.specs.declared.rows.schema_version.Version.TheVariants.{Two}
use Rattle.pid_tables.specs.Rows.Causes.{IsCaused, IsReadable}
use Rattle.pid_tables.specs.Rows.Schema.{pid_schema}
use Rattle.pid_tables.proofs.OfRows.CauseLemmas.{passed_on}
use Rattle.pid_tables.specs.Rows.Steps.Answers.{reply_row}
use Rattle.pid_tables.proofs.OfRows.DecodeLemmas.{no_row, reply_read}
use Rattle.pid_tables.proofs.OfRows.FindLemmas.{reply_first}
use Rattle.pid_tables.proofs.OfRows.QueryTexts.{receipt_query}
use Rattle.pid_tables.proofs.OfRows.ReadBack.{reply_written}
use Rattle.pid_tables.proofs.OfRows.UnreadLemmas.{caused_unread}
use Rattle.pid_tables.proofs.rows.receipt.kept_reply.Goals as goal

pub returns-in-Some : goal.returns-in-Some
returns-in-Some g c = record {
  rests = c.in_ok-rows.ensures.rests;
  told = λ clean v rest.
      let found = reply_first g.C.Database.state c.args.tables.now.conn v rest c.in_ok-rows.rows.items c.args.account.now c.args.key.now (rw (c.to_sql-account.ensures, c.to_sql-key.ensures) at (c.in_ok-rows.ensures.shown clean)) in
      reply_read (v.kept c.args.account.now c.args.key.now) c.in-Some.row.now c.in_ok-reply_at-in-Some.field-0 (c.in-Some.ensures.value ∙ ap (λ l. slice_get l 0) c.deref.ensures.value ∙ found) c.in_ok-reply_at-in-Some.ensures.read;
}

pub returns : goal.returns
returns g c = record {
  rests = c.in_ok-rows.ensures.rests;
  told = λ clean v rest.
      let found = reply_first g.C.Database.state c.args.tables.now.conn v rest c.in_ok-rows.rows.items c.args.account.now c.args.key.now (rw (c.to_sql-account.ensures, c.to_sql-key.ensures) at (c.in_ok-rows.ensures.shown clean)) in
      no_row reply_row (v.kept c.args.account.now c.args.key.now) (c.in-None.ensures.value ∙ ap (λ l. slice_get l 0) c.deref.ensures.value ∙ found);
}

pub returns-in_err-reply_at-in-Some : goal.returns-in_err-reply_at-in-Some
returns-in_err-reply_at-in-Some g c = record {
  rests = c.in_ok-rows.ensures.rests;
  told = λ clean v rest.
      let old = g.C.Database.state c.args.tables.now.conn in
      let new = g.C.Database.state c.read_rows.new.tables.conn in
      let found = reply_first g.C.Database.state c.args.tables.now.conn v rest c.in_ok-rows.rows.items c.args.account.now c.args.key.now (rw (c.to_sql-account.ensures, c.to_sql-key.ensures) at (c.in_ok-rows.ensures.shown clean)) in
      passed_on c.from_residual-in_err-reply_at-in-Some.result _ _ (λ fault. IsReadable v → IsCaused old new fault) c.from_residual-in_err-reply_at-in-Some.ensures.1
      (λ readable. caused_unread old new c.in_err-reply_at-in-Some.field-0.0 (reply_written v c.args.account.now c.args.key.now c.in-Some.row.now readable (c.in-Some.ensures.value ∙ ap (λ l. slice_get l 0) c.deref.ensures.value ∙ found)) c.in_err-reply_at-in-Some.ensures.unread);
}

pub returns-in_err-rows : goal.returns-in_err-rows
returns-in_err-rows g c = record {
  rests = c.in_err-rows.ensures.rests;
  told = λ clean v rest.
      passed_on c.from_residual.result _ _ (λ fault. IsReadable v → IsCaused (g.C.Database.state c.args.tables.now.conn) (g.C.Database.state c.read_rows.new.tables.conn) fault) c.from_residual.ensures.1
      (λ readable. (rw (c.to_sql-account.ensures, c.to_sql-key.ensures) at (c.in_err-rows.ensures.faults.caused clean pid_schema (λ opened. (rest.shows opened).schema))) (receipt_query Two c.args.account.now c.args.key.now));
}
