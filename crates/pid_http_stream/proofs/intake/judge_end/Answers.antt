use Rattle.std.proofs.Common.{sym, ◌∙◌}
use Rattle.pid_http_stream.proofs.EndsOfLines.{all_line_ends, no_line_ends}
use Rattle.pid_http_stream.proofs.HeadReads.{end_faulty}
use Rattle.pid_http_stream.proofs.intake.judge_end.Goals as goal

pub returns-then-are_line_ends-clause-judged : goal.returns-then-are_line_ends-clause-judged
returns-then-are_line_ends-clause-judged c = λ fields left end. (end, record { lines = all_line_ends c.args.held.now (sym c.are_line_ends.ensures ∙ c.if-are_line_ends.true); short = c.requires.short })

pub returns-else-are_line_ends-clause-judged : goal.returns-else-are_line_ends-clause-judged
returns-else-are_line_ends-clause-judged c = λ fields left end. end_faulty c.args.held.now c.requires.none (no_line_ends c.args.held.now (sym c.are_line_ends.ensures ∙ c.if-are_line_ends.false)) left end
