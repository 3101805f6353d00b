use Rattle.pid_file.proofs.Feeding.{refused_more}
use Rattle.pid_reader.proofs.laws.refusals_stand.Goals as goal

pub returns : goal.returns
returns c = refused_more
