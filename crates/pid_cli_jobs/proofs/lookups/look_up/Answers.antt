use Rattle.std.proofs.Common.{inl, inr, refl}
use Rattle.std.proofs.lemmas.Option.{IfSome_then}
use Rattle.pid_cli_jobs.specs.declared.job_end.JobEnd.TheVariants.{Exited}
use Rattle.pid_cli_jobs.specs.Jobs.{Answered, Unread}
use Rattle.pid_cli_jobs.proofs.lookups.look_up.Goals as goal

pub returns-in-Ok : goal.returns-in-Ok
returns-in-Ok g c =
    Answered c.in-Ok.found c.in-Ok.ensures.bad_flags c.in-Ok.ensures.answer c.print_answer.ensures

pub returns-in-ReadFault : goal.returns-in-ReadFault
returns-in-ReadFault g c = Unread c.report_unread.result c.report_unread.ensures.not_done
    c.report_unread.ensures.reports
    (IfSome_then (g.I.Input.to_come c.args.input.now) c.in-Err.ensures.answer c.report_unread.ensures.told) refl
    (inl (c.in-ReadFault.is, refl))

pub returns-in_default : goal.returns-in_default
returns-in_default g c = Unread c.report_unread.result c.report_unread.ensures.not_done
    c.report_unread.ensures.reports
    (IfSome_then (g.I.Input.to_come c.args.input.now) c.in-Err.ensures.answer c.report_unread.ensures.told) refl
    (inr (
      λ is. elim is [
        | inl read ↦ c.in_default.not-ReadFault read
        | inr write ↦ c.in_default.not-WriteFault write
      ],
      λ k. Exited (c.status.ensures k),
    ))
