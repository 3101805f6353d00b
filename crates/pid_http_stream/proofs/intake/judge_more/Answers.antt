use Rattle.std.proofs.Common.{sym, ◌∙◌}
use Rattle.pid_http_stream.proofs.Heads.{quiet}
use Rattle.pid_http_stream.proofs.HeadReads.{still_none, still_begins}
use Rattle.pid_http_stream.proofs.intake.judge_more.Goals as goal

pub judge_unended-requires-clause-none : goal.judge_unended-requires-clause-none
judge_unended-requires-clause-none c = still_none c.args.held.now c.args.before c.requires.wants (rw c.split_at.ensures.back at (quiet c.split_at.result.1.now (sym c.contains.ensures.value ∙ c.if-contains.false)))

pub judge_unended-requires-clause-begins : goal.judge_unended-requires-clause-begins
judge_unended-requires-clause-begins c = still_begins c.args.held.now c.args.before c.requires.wants.begins (rw c.split_at.ensures.back at (quiet c.split_at.result.1.now (sym c.contains.ensures.value ∙ c.if-contains.false)))

pub returns-else-contains : goal.returns-else-contains
returns-else-contains c = c.judge_unended.ensures c.args.fields.now
