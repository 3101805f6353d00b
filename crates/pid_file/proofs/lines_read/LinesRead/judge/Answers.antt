use Rattle.std.proofs.Common.{arith, inr}
use Rattle.pid_file.proofs.OneMoreLine.{own_refused}
use Rattle.pid_file.proofs.lines_read.LinesRead.judge.Goals as goal

pub returns-in-Err : goal.returns-in-Err
returns-in-Err c earlier shown = inr (own_refused c.args.self.now.lines c.in-Some.number earlier c.args.line.now c.in-Err.kind shown.shown.number (omega (arith, c.in-Some.ensures)) (c.in-Err.ensures earlier shown.shown.levels))
