use Rattle.std.proofs.Common.{refl, subst}
use Rattle.pid_cli_jobs.specs.Jobs.{BadFields, InFile, IsReadFrom, fields_given}
use Rattle.pid_cli_jobs.proofs.lookups.answer_lookup.Goals as goal

pub returns-in-Ok-Err : goal.returns-in-Ok-Err
returns-in-Ok-Err g c = BadFields
    (subst (λ r. IsReadFrom (fields_given c.args.words.now) r) c.in-Ok-Err.field-0-is c.in-Ok-Err.ensures)
    (c.print_reply.ensures, refl)

pub returns-in-Some : goal.returns-in-Some
returns-in-Some g c = InFile c.in-Ok-Ok.lookup
    (subst (λ r. IsReadFrom (fields_given c.args.words.now) r) c.in-Ok-Ok.field-0-is c.in-Ok-Ok.ensures)
    c.in-Some.file c.in-Some.ensures (rw c.new.ensures.wraps at c.look_up.ensures)
