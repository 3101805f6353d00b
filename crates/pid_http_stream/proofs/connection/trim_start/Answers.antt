use Rattle.std.proofs.Common.{sym, ◌∙◌}
use Rattle.pid_http_stream.proofs.Closing.{blank_first, other_first, all_blank}
use Rattle.pid_http_stream.proofs.connection.trim_start.Goals as goal

pub loop-i-preserved : goal.loop-i-preserved
loop-i-preserved c = blank_first c.args.word.now c.loop-i.i c.loop-i-test.true (sym c.is_space_or_tab.ensures ∙ c.if-not-is_space_or_tab.false) ∙ c.loop-i.invariant

pub returns-then-not-is_space_or_tab : goal.returns-then-not-is_space_or_tab
returns-then-not-is_space_or_tab c = other_first c.args.word.now c.loop-i.i c.loop-i-test.true (sym c.is_space_or_tab.ensures ∙ c.if-not-is_space_or_tab.true) ∙ c.loop-i.invariant

pub returns : goal.returns
returns c = all_blank c.args.word.now c.loop-i.i c.loop-i-test.false c.loop-i.invariant
