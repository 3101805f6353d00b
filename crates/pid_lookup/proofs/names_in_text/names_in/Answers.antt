use Rattle.std.proofs.Common.{Err, ap}
use Rattle.pid_file.proofs.InputTexts.{read_whole, leaves_as, ok_no_fault, is_read_fault}
use Rattle.pid_lookup.specs.Steps.AskedNames.{HasAsked}
use Rattle.pid_lookup.proofs.Asking.{has_asked, has_only}
use Rattle.pid_lookup.proofs.names_in_text.names_in.Goals as goal

pub returns-in-Ok-clause-names : goal.returns-in-Ok-clause-names
returns-in-Ok-clause-names g c =
    let read = c.in-Ok.ensures.read in
    read_whole (HasAsked c.args.args.now) c.args.limit c.cut_input.new.sink _ _ read.0 read.1 read.2.0 read.2.1.0
    (has_asked c.args.args.now read.0 c.new-names.result c.cut_input.new.sink c.new-names.ensures.asked c.new-names.ensures.none read.2.1)

pub returns-in-Ok-clause-no_others : goal.returns-in-Ok-clause-no_others
returns-in-Ok-clause-no_others g c =
    let read = c.in-Ok.ensures.read in
    has_only c.args.args.now c.new-names.result c.cut_input.new.sink _ c.new-names.ensures.asked c.new-names.ensures.none read.2.1.1

pub returns-in-Ok-clause-leaves : goal.returns-in-Ok-clause-leaves
returns-in-Ok-clause-leaves g c = leaves_as g.I.Input c.args.limit _ _ _ _ (λ e. absurd (ok_no_fault _ e)) (λ e. absurd (ok_no_fault _ e)) c.in-Ok.ensures.leaves

pub returns-in-Err-clause-leaves : goal.returns-in-Err-clause-leaves
returns-in-Err-clause-leaves g c =
    let same = c.end_without_fault.ensures.fault in
    leaves_as g.I.Input c.args.limit _ _ _ _ (λ e. ap Err (same.1 (is_read_fault c.in-Err.end e))) (λ e. ap Err (same.0 (is_read_fault _ e))) c.in-Err.ensures.leaves
