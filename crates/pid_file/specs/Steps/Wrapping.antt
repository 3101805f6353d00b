-- A reader or a writer of std as this crate wraps it.
use Rattle.std.specs.Prelude.{◌≡◌, ℕ, List, Option}
use Rattle.pid_file.specs.Steps.InputCalls.{HasReadOn}
use Rattle.pid_file.specs.declared.plain.Plain.{Plain}
use Rattle.pid_file.specs.declared.io.ReadFault.{ReadFault}
use Rattle.pid_file.specs.declared.io.WriteFault.{WriteFault}

-- the reader or the writer of std
abbrev pub wrapped : {T : Type 0} → Plain T → T
wrapped p = p.inner

-- the fault of a read, kept for good
abbrev pub kept_read_fault : {T : Type 0} → Plain T → Option ReadFault
kept_read_fault p = p.read_fault

-- the fault of a write, kept for good
abbrev pub kept_write_fault : {T : Type 0} → Plain T → Option WriteFault
kept_write_fault p = p.write_fault

-- how many reads were made, up to the greatest count
abbrev pub count_of_reads : {T : Type 0} → Plain T → ℕ
count_of_reads p = p.reads

-- what reads leave of it, by the bytes to come before and after; what was written stays
abbrev pub GoesOn : {T : Type 0} → Option (List ℕ) → Option (List ℕ) → Plain T → Plain T → Type 0
GoesOn old new a b = HasReadOn old new (kept_read_fault a) (kept_read_fault b) (count_of_reads a)
    (count_of_reads b) × (kept_write_fault b ≡ kept_write_fault a)
