use Rattle.pid_script.specs.ScriptLines.{ask_of}
use Rattle.pid_script.proofs.NoStopLines.{reply_no_stop}
use Rattle.pid_script.proofs.laws.replies_are_no_stop_lines.Goals as goal

pub returns : goal.returns
returns c line h = reply_no_stop (ask_of line) h
