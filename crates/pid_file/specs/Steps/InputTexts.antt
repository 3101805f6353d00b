-- Steps of InputTexts.
use Rattle.pid_file.specs.declared.refusal.ReadRefusal.TheVariants.{Memory}
use Rattle.pid_file.specs.declared.sink.CutEnd.TheVariants.{Refused, Fault}
use Rattle.pid_file.specs.declared.whole_input.InputEnd.{InputEnd}
use Rattle.pid_file.specs.declared.whole_input.InputEnd.TheVariants.{ReadFault, TooLong, Cut}

-- the same end without the fault of a sink, which is out of memory
abbrev pub without_fault : {F G : Type 0} → InputEnd F → InputEnd G
without_fault ReadFault = ReadFault
without_fault TooLong = TooLong
without_fault (Cut (Refused r)) = Cut (Refused r)
without_fault (Cut (Fault f)) = Cut (Refused Memory)
