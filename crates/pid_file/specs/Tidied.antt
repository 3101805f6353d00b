-- What `tidy` writes for the text of its input.
use Rattle.std.specs.Prelude.{ℕ, ◌⊎◌, List, Option}
use Rattle.std.specs.Io.KnownBytes.{Appends, Keeps}
use Rattle.pid_file.specs.Trees.{TreeMap}
use Rattle.pid_file.specs.Printing.{print}
use Rattle.pid_file.specs.Judgements.{ReadsWithin}
use Rattle.pid_file.specs.Sending.{SendsFront}
use Rattle.pid_file.specs.Reports.{IsReported}
use Rattle.pid_file.specs.declared.text_end.TextEnd.{TextEnd}
use Rattle.pid_file.specs.declared.text_end.TextEnd.TheVariants.{Done, Line, TooManyEntries}
use Rattle.pid_file.specs.declared.text_end.TextEnd.TheVariants.{TooLarge, Memory, ReadFault}
use Rattle.pid_file.specs.declared.text_end.TextEnd.TheVariants.{WriteFault}

-- what the output and the writer of faults had taken before and after
pub record Writers : Type 0 where
  pub output : Option (List ℕ)
  pub output_after : Option (List ℕ)
  pub faults : Option (List ℕ)
  pub faults_after : Option (List ℕ)

-- the text reads to a tree, and the tree's text was printed
pub record Prints (text : List ℕ) (w : Writers) : Type 0 where
  pub tree : TreeMap
  pub reads : ReadsWithin text tree
  pub printed : Appends w.output w.output_after (print tree)
  pub nothing_reported : Keeps w.faults w.faults_after

-- the text reads to a tree, and a prefix of the tree's text was printed
pub record PrintsFront (text : List ℕ) (w : Writers) : Type 0 where
  pub tree : TreeMap
  pub reads : ReadsWithin text tree
  pub printed : SendsFront w.output w.output_after (print tree)
  pub nothing_reported : Keeps w.faults w.faults_after

-- nothing was printed, and the reason was reported
abbrev pub TellsOnly : TextEnd → List ℕ → Writers → Type 0
TellsOnly end text w = Keeps w.output w.output_after × IsReported end text w.faults w.faults_after

-- what was written, by the end: the canonical form, or why there is none
abbrev pub IsTidied : TextEnd → List ℕ → Writers → Type 0
IsTidied Done text w = Prints text w
IsTidied WriteFault text w = PrintsFront text w ⊎ TellsOnly WriteFault text w
IsTidied (Line line kind) text w = TellsOnly (Line line kind) text w
IsTidied TooManyEntries text w = TellsOnly TooManyEntries text w
IsTidied TooLarge text w = TellsOnly TooLarge text w
IsTidied Memory text w = TellsOnly Memory text w
IsTidied ReadFault text w = TellsOnly ReadFault text w

-- whatever the input, something is printed only if the end is Done or a fault of a writer
abbrev pub PrintsNothing : TextEnd → Option (List ℕ) → Option (List ℕ) → Type 0
PrintsNothing Done old new = Unit {0}
PrintsNothing WriteFault old new = Unit {0}
PrintsNothing (Line line kind) old new = Keeps old new
PrintsNothing TooManyEntries old new = Keeps old new
PrintsNothing TooLarge old new = Keeps old new
PrintsNothing Memory old new = Keeps old new
PrintsNothing ReadFault old new = Keeps old new
