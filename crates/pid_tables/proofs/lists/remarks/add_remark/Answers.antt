use Rattle.std.proofs.Common.{ap}
use Rattle.sqlite.specs.Order.{column}
use Rattle.pid_moderation.specs.RemarkPages.{placed_of}
use Rattle.pid_tables.specs.Rows.Steps.Unread.{IsDamagedRow}
use Rattle.pid_tables.proofs.OfRows.CauseLemmas.{passed_on}
use Rattle.pid_tables.proofs.OfRows.UnreadLemmas.{unread_more}
use Rattle.pid_tables.specs.Lists.Steps.RemarkRows.{IsReadablePlaced}
use Rattle.pid_tables.proofs.OfLists.NumberLemmas.{kept_row}
use Rattle.pid_tables.proofs.OfLists.RemarkPageLists.{placed_read}
use Rattle.pid_tables.proofs.lists.remarks.add_remark.Goals as goal

pub returns : goal.returns
returns c p is =
    kept_row (IsReadablePlaced p) placed_of c.args.page.now.items c.push_last.new.list.items _ p c.push_last.result c.push_last.ensures.items c.push_last.ensures.full
    (placed_read p c.args.row.now c.in_ok-place.place c.in_ok-remark.remark is c.in_ok-place.ensures.read c.in_ok-remark.ensures.author c.in_ok-remark.ensures.text)

pub returns-in_err-place : goal.returns-in_err-place
returns-in_err-place c p is =
    passed_on c.from_residual.result _ _ (IsDamagedRow (IsReadablePlaced p)) c.from_residual.ensures.1
    (unread_more c.in_err-place.field-0.0 (λ good. (p.0, good.0, ap (λ r. column r 2) is)) c.in_err-place.ensures.unread)

pub returns-in_err-remark : goal.returns-in_err-remark
returns-in_err-remark c p is =
    passed_on c.from_residual-in_err-remark.result _ _ (IsDamagedRow (IsReadablePlaced p)) c.from_residual-in_err-remark.ensures.1
    (unread_more c.in_err-remark.field-0.0 (λ good. (p.1, good.1, ap (λ r. column r 0) is, ap (λ r. column r 1) is)) c.in_err-remark.ensures.unread)
