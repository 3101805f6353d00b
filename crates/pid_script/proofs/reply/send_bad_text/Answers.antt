use Rattle.std.specs.Fmt.{digits}
use Rattle.pid_script.proofs.reply.send_bad_text.Goals as goal

pub returns : goal.returns
unfolding digits
returns g c = c.say.ensures
