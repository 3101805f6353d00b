-- The status of a process whose script ends so: a choice of this project.
use Rattle.std.specs.Prelude.{ℕ}
use Rattle.pid_script.specs.declared.script_end.ScriptEnd.{ScriptEnd}
use Rattle.pid_script.specs.declared.script_end.ScriptEnd.TheVariants.{Done, ReadFault, WriteFault}
use Rattle.pid_script.specs.declared.script_end.ScriptEnd.TheVariants.{TooLong, Stopped}
use Rattle.pid_script.specs.declared.script_end.ScriptEnd.TheVariants.{TurnsSpent}

-- 0 if all lines were answered, whatever was refused on the way; 1 if a line is too long; 3
-- for the others
abbrev pub script_status : ScriptEnd → ℕ
script_status Done = 0
script_status TooLong = 1
script_status Stopped = 3
script_status ReadFault = 3
script_status WriteFault = 3
script_status TurnsSpent = 3
