use Rattle.pid_tables.specs.Rows.Steps.Unread.{IsDamagedRow}
use Rattle.pid_tables.specs.Rows.Steps.Unread.{IsReplyIn, IsReplyRow}
use Rattle.pid_tables.proofs.OfRows.CauseLemmas.{no_value, passed_from}
use Rattle.pid_tables.proofs.OfRows.UnreadLemmas.{unread_more}
use Rattle.pid_tables.proofs.OfRows.WrittenLemmas.{kind_written, first_written, second_written, third_written}
use Rattle.pid_tables.proofs.rows.value.reply_at.Goals as goal

pub returns-in_err-kind-clause-read : goal.returns-in_err-kind-clause-read
returns-in_err-kind-clause-read c = no_value c.from_residual.result c.in_err-kind.field-0.0 (IsReplyIn c.args.row.now) c.from_residual.ensures.1

pub returns-in_err-kind-clause-unread : goal.returns-in_err-kind-clause-unread
returns-in_err-kind-clause-unread c = passed_from c.from_residual.result c.in_err-kind.field-0.0 (IsDamagedRow (IsReplyRow c.args.row.now)) c.from_residual.ensures.1 (unread_more c.in_err-kind.field-0.0 (kind_written c.args.row.now) c.in_err-kind.ensures.unread)

pub returns-in_err-a-clause-read : goal.returns-in_err-a-clause-read
returns-in_err-a-clause-read c = no_value c.from_residual-in_err-a.result c.in_err-a.field-0.0 (IsReplyIn c.args.row.now) c.from_residual-in_err-a.ensures.1

pub returns-in_err-a-clause-unread : goal.returns-in_err-a-clause-unread
returns-in_err-a-clause-unread c = passed_from c.from_residual-in_err-a.result c.in_err-a.field-0.0 (IsDamagedRow (IsReplyRow c.args.row.now)) c.from_residual-in_err-a.ensures.1 (unread_more c.in_err-a.field-0.0 (first_written c.args.row.now) c.in_err-a.ensures.unread)

pub returns-in_err-b-clause-read : goal.returns-in_err-b-clause-read
returns-in_err-b-clause-read c = no_value c.from_residual-in_err-b.result c.in_err-b.field-0.0 (IsReplyIn c.args.row.now) c.from_residual-in_err-b.ensures.1

pub returns-in_err-b-clause-unread : goal.returns-in_err-b-clause-unread
returns-in_err-b-clause-unread c = passed_from c.from_residual-in_err-b.result c.in_err-b.field-0.0 (IsDamagedRow (IsReplyRow c.args.row.now)) c.from_residual-in_err-b.ensures.1 (unread_more c.in_err-b.field-0.0 (second_written c.args.row.now) c.in_err-b.ensures.unread)

pub returns-in_err-c-clause-read : goal.returns-in_err-c-clause-read
returns-in_err-c-clause-read c = no_value c.from_residual-in_err-c.result c.in_err-c.field-0.0 (IsReplyIn c.args.row.now) c.from_residual-in_err-c.ensures.1

pub returns-in_err-c-clause-unread : goal.returns-in_err-c-clause-unread
returns-in_err-c-clause-unread c = passed_from c.from_residual-in_err-c.result c.in_err-c.field-0.0 (IsDamagedRow (IsReplyRow c.args.row.now)) c.from_residual-in_err-c.ensures.1 (unread_more c.in_err-c.field-0.0 (third_written c.args.row.now) c.in_err-c.ensures.unread)
