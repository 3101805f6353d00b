-- How the fault of a text is reported.
use Rattle.std.specs.Prelude.{ℕ, List, Option}
use Rattle.std.specs.Io.KnownBytes.{Appends, Keeps}
use Rattle.pid_file.specs.Sending.{SendsFront}
use Rattle.pid_file.specs.Judgements.{IsFaultOf}
use Rattle.pid_file.specs.TextEnds.{fault_line}
use Rattle.pid_file.specs.Writing.{FailsWithin, WriterUse}
use Rattle.pid_file.specs.declared.text_end.TextEnd.{TextEnd}
use Rattle.pid_file.specs.declared.text_end.TextEnd.TheVariants.{Done, Line, TooManyEntries}
use Rattle.pid_file.specs.declared.text_end.TextEnd.TheVariants.{TooLarge, Memory, ReadFault}
use Rattle.pid_file.specs.declared.text_end.TextEnd.TheVariants.{WriteFault}

-- the end is a fault of the text or out of memory, and its line was written
pub record ReportsFault (end : TextEnd) (text : List ℕ) (old new : Option (List ℕ)) : Type 0 where
  pub is_fault : IsFaultOf end text
  pub told : Appends old new (fault_line end)

-- the writer failed, and a prefix of a fault line or of the line for out of memory was written
pub record ReportsPrefix (text : List ℕ) (old new : Option (List ℕ)) : Type 0 where
  pub end : TextEnd
  pub is_fault : IsFaultOf end text
  pub told : SendsFront old new (fault_line end)

-- an end without a result: a fault of the text and out of memory are reported, a fault of the
-- reader is not
abbrev pub IsReported : TextEnd → List ℕ → Option (List ℕ) → Option (List ℕ) → Type 0
IsReported Done text old new = ⊥
IsReported (Line line kind) text old new = ReportsFault (Line line kind) text old new
IsReported TooManyEntries text old new = ReportsFault TooManyEntries text old new
IsReported TooLarge text old new = ReportsFault TooLarge text old new
IsReported Memory text old new = ReportsFault Memory text old new
IsReported ReadFault text old new = Keeps old new
IsReported WriteFault text old new = ReportsPrefix text old new

-- the writer failed within the line of some end
pub record FailsInLine (w : WriterUse) : Type 0 where
  pub end : TextEnd
  pub failed : FailsWithin w (fault_line end)

-- whatever the text is: the writer took the line of the end, or it failed within such a line
abbrev pub ReportsEnd : TextEnd → WriterUse → Type 0
ReportsEnd WriteFault w = FailsInLine w
ReportsEnd end w = Appends w.before w.after (fault_line end)
