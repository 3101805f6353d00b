-- What a fault of the tables says: a choice of this project.
use Rattle.std.specs.Prelude.{ℕ}
use Rattle.pid_tables.specs.declared.rows.fault.TableFault.{TableFault}
use Rattle.pid_tables.specs.declared.rows.fault.TableFault.TheVariants.{Memory, Store, NewerSchema}
use Rattle.pid_tables.specs.declared.rows.fault.TableFault.TheVariants.{Damaged}

-- the number of a fault: a choice of this project
abbrev pub table_fault_number : TableFault → ℕ
table_fault_number Memory = 1
table_fault_number Store = 2
table_fault_number (NewerSchema n) = 3
table_fault_number Damaged = 4

-- nothing is said of the rows: there was no memory, or the store failed or refused
abbrev pub IsMemoryOrStore : TableFault → Type 0
IsMemoryOrStore Memory = Unit {0}
IsMemoryOrStore Store = Unit {0}
IsMemoryOrStore (NewerSchema n) = ⊥
IsMemoryOrStore Damaged = ⊥

-- it reports no later schema
abbrev pub IsNotNewerSchema : TableFault → Type 0
IsNotNewerSchema Memory = Unit {0}
IsNotNewerSchema Store = Unit {0}
IsNotNewerSchema (NewerSchema n) = ⊥
IsNotNewerSchema Damaged = Unit {0}
