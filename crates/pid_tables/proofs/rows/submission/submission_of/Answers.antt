use Rattle.pid_tables.specs.Rows.Steps.Standings.{ReadsTo}
use Rattle.pid_tables.specs.Rows.Steps.Unread.{IsDamagedRow, ReadsAsStanding}
use Rattle.pid_tables.proofs.OfRows.CauseLemmas.{no_value, passed_from}
use Rattle.pid_tables.proofs.OfRows.UnreadLemmas.{unread_more}
use Rattle.pid_tables.proofs.OfRows.WrittenLemmas.{author_written, path_written, proposal_written, note_written, state_written}
use Rattle.pid_tables.proofs.rows.submission.submission_of.Goals as goal

pub returns-in_err-author-clause-read : goal.returns-in_err-author-clause-read
returns-in_err-author-clause-read c = no_value c.from_residual.result c.in_err-author.field-0.0 (ReadsTo c.args.row.now) c.from_residual.ensures.1

pub returns-in_err-author-clause-unread : goal.returns-in_err-author-clause-unread
returns-in_err-author-clause-unread c = passed_from c.from_residual.result c.in_err-author.field-0.0 (IsDamagedRow (ReadsAsStanding c.args.row.now)) c.from_residual.ensures.1 (unread_more c.in_err-author.field-0.0 (author_written c.args.row.now) c.in_err-author.ensures.unread)

pub returns-in_err-path-clause-read : goal.returns-in_err-path-clause-read
returns-in_err-path-clause-read c = no_value c.from_residual-in_err-path.result c.in_err-path.field-0.0 (ReadsTo c.args.row.now) c.from_residual-in_err-path.ensures.1

pub returns-in_err-path-clause-unread : goal.returns-in_err-path-clause-unread
returns-in_err-path-clause-unread c = passed_from c.from_residual-in_err-path.result c.in_err-path.field-0.0 (IsDamagedRow (ReadsAsStanding c.args.row.now)) c.from_residual-in_err-path.ensures.1 (unread_more c.in_err-path.field-0.0 (path_written c.args.row.now) c.in_err-path.ensures.unread)

pub returns-in_err-proposal-clause-read : goal.returns-in_err-proposal-clause-read
returns-in_err-proposal-clause-read c = no_value c.from_residual-in_err-proposal.result c.in_err-proposal.field-0.0 (ReadsTo c.args.row.now) c.from_residual-in_err-proposal.ensures.1

pub returns-in_err-proposal-clause-unread : goal.returns-in_err-proposal-clause-unread
returns-in_err-proposal-clause-unread c = passed_from c.from_residual-in_err-proposal.result c.in_err-proposal.field-0.0 (IsDamagedRow (ReadsAsStanding c.args.row.now)) c.from_residual-in_err-proposal.ensures.1 (unread_more c.in_err-proposal.field-0.0 (proposal_written c.args.row.now) c.in_err-proposal.ensures.unread)

pub returns-in_err-note-clause-read : goal.returns-in_err-note-clause-read
returns-in_err-note-clause-read c = no_value c.from_residual-in_err-note.result c.in_err-note.field-0.0 (ReadsTo c.args.row.now) c.from_residual-in_err-note.ensures.1

pub returns-in_err-note-clause-unread : goal.returns-in_err-note-clause-unread
returns-in_err-note-clause-unread c = passed_from c.from_residual-in_err-note.result c.in_err-note.field-0.0 (IsDamagedRow (ReadsAsStanding c.args.row.now)) c.from_residual-in_err-note.ensures.1 (unread_more c.in_err-note.field-0.0 (note_written c.args.row.now) c.in_err-note.ensures.unread)

pub returns-in_err-state-clause-read : goal.returns-in_err-state-clause-read
returns-in_err-state-clause-read c = no_value c.from_residual-in_err-state.result c.in_err-state.field-0.0 (ReadsTo c.args.row.now) c.from_residual-in_err-state.ensures.1

pub returns-in_err-state-clause-unread : goal.returns-in_err-state-clause-unread
returns-in_err-state-clause-unread c = passed_from c.from_residual-in_err-state.result c.in_err-state.field-0.0 (IsDamagedRow (ReadsAsStanding c.args.row.now)) c.from_residual-in_err-state.ensures.1 (unread_more c.in_err-state.field-0.0 (λ it. state_written c.args.row.now it c.in_ok-author.author c.in_ok-author.ensures.read) c.in_err-state.ensures.unread)
