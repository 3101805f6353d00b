use Rattle.std.proofs.Common.{ap}
use Rattle.sqlite.specs.Order.{column}
use Rattle.pid_moderation.specs.PendingPages.{told_of}
use Rattle.pid_tables.specs.Rows.Steps.Unread.{IsDamagedRow}
use Rattle.pid_tables.proofs.OfRows.CauseLemmas.{passed_on}
use Rattle.pid_tables.proofs.OfRows.UnreadLemmas.{unread_more}
use Rattle.pid_tables.specs.Lists.Steps.PendingRows.{IsReadablePending}
use Rattle.pid_tables.proofs.OfLists.NumberLemmas.{kept_row}
use Rattle.pid_tables.proofs.OfLists.PendingLists.{pending_read}
use Rattle.pid_tables.proofs.lists.pending.add_pending.Goals as goal

pub returns : goal.returns
returns c v s (views, is, row) =
    kept_row (IsReadablePending s) told_of c.args.page.now.items c.push_last.new.list.items _ s c.push_last.result c.push_last.ensures.items c.push_last.ensures.full
    (pending_read c.texts_have_one_path.ensures v s c.args.row.now c.in_ok-submission.submission c.in_ok-number.number views is.0 row c.in_ok-submission.ensures.read c.in_ok-number.ensures.read)

pub returns-in_err-number : goal.returns-in_err-number
returns-in_err-number c v s (views, is, row) =
    passed_on c.from_residual.result _ _ (IsDamagedRow (IsReadablePending s)) c.from_residual.ensures.1
    (unread_more c.in_err-number.field-0.0 (λ good. (s.0, good.0, ap (λ r. column r 8) row)) c.in_err-number.ensures.unread)
