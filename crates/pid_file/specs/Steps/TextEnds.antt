-- Steps of TextEnds.
use Rattle.std.specs.Prelude.{ℕ, List, codes}
use Rattle.pid_file.specs.declared.refusal.ReadRefusal.{ReadRefusal}
use Rattle.pid_file.specs.declared.text_end.TextEnd.{TextEnd}
use Rattle.pid_file.specs.declared.text_end.TextEnd.TheVariants.{Line, TooManyEntries}
use Rattle.pid_file.specs.declared.text_end.TextEnd.TheVariants.{TooLarge, Memory, ReadFault}
use Rattle.pid_file.specs.declared.sink.CutEnd.TheVariants.{Refused, Fault}
use Rattle.pid_file.specs.declared.whole_input.InputEnd.{InputEnd}
use Rattle.pid_file.specs.declared.refusal.ReadRefusal.TheVariants as refusals
use Rattle.pid_file.specs.declared.whole_input.InputEnd.TheVariants as inputs

-- the end for a refusal
abbrev pub end_of : ReadRefusal → TextEnd
end_of (refusals.Line line kind) = Line line kind
end_of refusals.TooManyEntries = TooManyEntries
end_of refusals.Memory = Memory

-- the end for an input that was not read; a sink that faults is out of memory
abbrev pub unread_end : {F : Type 0} → InputEnd F → TextEnd
unread_end inputs.ReadFault = ReadFault
unread_end inputs.TooLong = TooLarge
unread_end (inputs.Cut (Refused r)) = end_of r
unread_end (inputs.Cut (Fault f)) = Memory

-- the line that reports that a file failed
abbrev pub failed_line : List ℕ
failed_line = codes "file: failed\n"
