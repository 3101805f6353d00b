-- How the reading of a text ends, and the line that reports a fault: choices of this project.
use Rattle.std.specs.Prelude.{ℕ, List, [], ◌∷◌, ◌++◌, codes, decimal}
use Rattle.pid_file.specs.LineKinds.{number_of, word_of}
use Rattle.pid_file.specs.declared.text_end.TextEnd.{TextEnd}
use Rattle.pid_file.specs.declared.text_end.TextEnd.TheVariants.{Done, Line, TooManyEntries}
use Rattle.pid_file.specs.declared.text_end.TextEnd.TheVariants.{TooLarge, Memory, ReadFault}
use Rattle.pid_file.specs.declared.text_end.TextEnd.TheVariants.{WriteFault}

-- a line's number, and the number and the word of its fault: line 3: 7 Duplicate
abbrev pub line_report : ℕ → ℕ → List ℕ → List ℕ
line_report line number word = codes "line " ++ decimal line ++ codes ": " ++ decimal number ++ 32
    ∷ word ++ 10 ∷ []

-- the line that reports a fault of a text or out of memory, with its LF; nothing for the other ends
abbrev pub fault_line : TextEnd → List ℕ
fault_line Done = []
fault_line (Line line kind) = line_report line (number_of kind) (word_of kind)
fault_line TooManyEntries = codes "too many entries\n"
fault_line TooLarge = codes "too large\n"
fault_line Memory = codes "no memory\n"
fault_line ReadFault = []
fault_line WriteFault = []

-- the exit status of a process that ends this way
abbrev pub status_of : TextEnd → ℕ
status_of Done = 0
status_of (Line line kind) = 1
status_of TooManyEntries = 1
status_of TooLarge = 1
status_of Memory = 3
status_of ReadFault = 3
status_of WriteFault = 3
