use Rattle.std.proofs.Common.{[], arith}
use Rattle.pid_file.specs.Lines.{lines_of}
use Rattle.pid_reader.proofs.Refusals.{not_refused, good_by_refused}
use Rattle.pid_file.proofs.Counting.{few_from}
use Rattle.pid_reader.proofs.laws.good_texts_are_read.Goals as goal

pub returns : goal.returns
returns c text = (λ h. (good_by_refused (lines_of text) [] tt h, few_from [] (lines_of text) h (omega arith)), λ h. not_refused (lines_of text) [] h.0 h.1)
