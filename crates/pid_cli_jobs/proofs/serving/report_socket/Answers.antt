use Rattle.std.proofs.Common.{refl}
use Rattle.pid_file.specs.Writing.{use_of}
use Rattle.pid_cli_jobs.specs.Jobs.{socket_line}
use Rattle.pid_cli_jobs.proofs.Writing.{tried}
use Rattle.pid_cli_jobs.proofs.serving.report_socket.Goals as goal

pub returns : goal.returns
returns g c = (
  tried (use_of g.F.Output c.args.faults.now c.write_all.new.out) socket_line c.write_all.result
      (rw c.as_bytes.ensures.value at c.write_all.ensures.sent) c.write_all.ensures.fault,
  refl,
)
