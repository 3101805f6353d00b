use Rattle.std.proofs.Common.{[]}
use Rattle.pid_reader.proofs.WholeLineLaws.{text_again, ended_without_lf, open_without_lf}
use Rattle.pid_reader.proofs.laws.whole_lines_make_the_text.Goals as goal

pub returns-clause-text : goal.returns-clause-text
returns-clause-text c = text_again

pub returns-clause-lines : goal.returns-clause-lines
returns-clause-lines c = ended_without_lf

pub returns-clause-open : goal.returns-clause-open
returns-clause-open c = open_without_lf
