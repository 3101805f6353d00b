-- The faults of an opening.
use Rattle.pid_journal.specs.declared.open_fault.OpenFault.{OpenFault}
use Rattle.pid_journal.specs.declared.open_fault.OpenFault.TheVariants.{Refused}

-- a fault of memory, of the registry, or of a file
abbrev pub IsRefused : OpenFault → Type 0
IsRefused (Refused refusal) = Unit {0}
IsRefused other = ⊥
