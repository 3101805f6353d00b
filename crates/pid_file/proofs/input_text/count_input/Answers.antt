use Rattle.std.proofs.Common.{Err, refl, ap}
use Rattle.pid_file.specs.InputTexts.{HasEntries}
use Rattle.pid_file.proofs.Counting.{count_is}
use Rattle.pid_file.proofs.InputTexts.{read_whole, leaves_as, ok_no_fault, is_read_fault}
use Rattle.pid_file.proofs.input_text.count_input.Goals as goal

pub returns-in-Ok-clause-end : goal.returns-in-Ok-clause-end
returns-in-Ok-clause-end g c =
    let read = c.in-Ok.ensures.read in
    read_whole HasEntries c.args.limit c.cut_input.new.sink.count _ _ read.0 read.1 read.2.0 read.2.1.0 (count_is read.0 _ c.cut_input.new.sink refl read.2.1)

pub returns-in-Ok-clause-leaves : goal.returns-in-Ok-clause-leaves
returns-in-Ok-clause-leaves g c = leaves_as g.I.Input c.args.limit _ _ _ _ (λ e. absurd (ok_no_fault _ e)) (λ e. absurd (ok_no_fault _ e)) c.in-Ok.ensures.leaves

pub returns-in-Err-clause-leaves : goal.returns-in-Err-clause-leaves
returns-in-Err-clause-leaves g c = leaves_as g.I.Input c.args.limit _ _ _ _ (λ e. ap Err (is_read_fault c.in-Err.end e)) (λ e. ap Err (is_read_fault c.in-Err.end e)) c.in-Err.ensures.leaves
