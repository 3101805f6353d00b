use Rattle.std.proofs.Common.{Bool, Ok, subst}
use Rattle.pid_journal.specs.Steps.Segments.{AsksOn}
use Rattle.pid_journal.proofs.Ending.{next_begun, next_first, next_reopened, next_unasked, next_uncut}
use Rattle.pid_journal.proofs.opening.segment_after.Goals as goal

pub returns-in_default : goal.returns-in_default
returns-in_default g c = next_first g.R.RegistryCalls g.F.JournalFolder g.F.Segment.JournalFile c.args.registry.now c.begin_segment.new.registry c.args.folder.now c.begin_segment.new.folder c.args.last c.begin_segment.result c.in_default.is c.begin_segment.ensures

pub returns-in-Err : goal.returns-in-Err
returns-in-Err g c = next_uncut g.R.RegistryCalls g.F.JournalFolder g.F.Segment.JournalFile c.args.registry.now c.args.folder.now c.cut_torn.new.folder c.in-Some.text c.args.last c.in-Err.fault c.in-Some.is c.in-Err.ensures

pub returns-in-Ok-true : goal.returns-in-Ok-true
returns-in-Ok-true g c =
    next_reopened g.R.RegistryCalls g.F.JournalFolder g.F.Segment.JournalFile c.args.registry.now c.goes_on.new.registry c.reopen.new.registry c.args.folder.now c.cut_torn.new.folder c.reopen.new.folder c.in-Some.text c.args.last c.reopen.result
    c.in-Some.is c.in-Ok.ensures (subst (λ (b : Bool). AsksOn g.R.RegistryCalls.showing c.args.registry.now c.goes_on.new.registry (Ok b)) c.in-Ok-true.field-0-test c.in-Ok-true.ensures) c.reopen.ensures

pub returns-in-Ok-false : goal.returns-in-Ok-false
returns-in-Ok-false g c =
    next_begun g.R.RegistryCalls g.F.JournalFolder g.F.Segment.JournalFile c.args.registry.now c.goes_on.new.registry c.begin_segment-in-Ok-false.new.registry c.args.folder.now c.cut_torn.new.folder c.begin_segment-in-Ok-false.new.folder c.in-Some.text c.args.last c.begin_segment-in-Ok-false.result
    c.in-Some.is c.in-Ok.ensures (subst (λ (b : Bool). AsksOn g.R.RegistryCalls.showing c.args.registry.now c.goes_on.new.registry (Ok b)) c.in-Ok-false.field-0-test c.in-Ok-false.ensures) c.begin_segment-in-Ok-false.ensures

-- the registry was not asked
pub returns : goal.returns
returns g c =
    next_unasked g.R.RegistryCalls g.F.JournalFolder g.F.Segment.JournalFile c.args.registry.now c.goes_on.new.registry c.args.folder.now c.cut_torn.new.folder c.in-Some.text c.args.last c.in-Err-goes_on.fault
    c.in-Some.is c.in-Ok.ensures c.in-Err-goes_on.ensures
