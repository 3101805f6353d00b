use Rattle.sqlite.specs.Order.{column}
use Rattle.pid_ident.specs.Words.{is_text}
use Rattle.pid_tables.specs.Rows.Steps.Unread.{IsDamagedRow}
use Rattle.pid_tables.specs.Rows.Steps.Unread.{IsWord}
use Rattle.pid_tables.proofs.OfRows.CauseLemmas.{passed_from}
use Rattle.pid_tables.proofs.OfRows.UnreadLemmas.{unread_more, text_utf8}
use Rattle.pid_tables.proofs.rows.value.words_at.Goals as goal

pub returns-in_err-text-clause-unread : goal.returns-in_err-text-clause-unread
returns-in_err-text-clause-unread c =
    passed_from c.from_residual.result _ (IsDamagedRow (IsWord is_text (column c.args.row.now c.args.at))) c.from_residual.ensures.1 (unread_more c.in_err-text.field-0.0 (λ good. (good.0, text_utf8 good.0 good.1, good.2)) c.in_err-text.ensures.unread)
