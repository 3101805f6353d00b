-- Steps of Faults: what a fault of the database is answered as, a choice of this project.
use Rattle.sqlite.specs.declared.error.Error.{Error}
use Rattle.sqlite.specs.declared.error.Error.TheVariants.{SqliteFailure, SqlInputError}
use Rattle.sqlite.specs.declared.error.Error.TheVariants.{InvalidColumnIndex, InvalidColumnType}
use Rattle.sqlite.specs.declared.error.Error.TheVariants.{IntegralValueOutOfRange, Utf8Error}
use Rattle.sqlite.specs.declared.error.ErrorCode.TheVariants.{OutOfMemory}
use Rattle.pid_ident.specs.declared.word_fault.WordFault.{WordFault}
use Rattle.pid_tables.specs.declared.rows.fault.TableFault.{TableFault}
use Rattle.pid_tables.specs.declared.rows.fault.TableFault.TheVariants.{Memory, Store}
use Rattle.pid_tables.specs.declared.rows.fault.TableFault.TheVariants.{Damaged}
use Rattle.sqlite_resolve.specs.declared.error.CompileError.TheVariants as compile
use Rattle.pid_ident.specs.declared.word_fault.WordFault.TheVariants as words

-- There was no memory; or the tables or their values are not those of the schema; else the store
-- failed or refused.
abbrev pub fault_of_sql : Error → TableFault
fault_of_sql (SqliteFailure OutOfMemory) = Memory
fault_of_sql (SqlInputError compile.OutOfMemory) = Memory
fault_of_sql (SqlInputError e) = Damaged
fault_of_sql (InvalidColumnIndex at) = Damaged
fault_of_sql (InvalidColumnType at kind) = Damaged
fault_of_sql (IntegralValueOutOfRange at) = Damaged
fault_of_sql (Utf8Error at) = Damaged
fault_of_sql e = Store

-- a word in a row that breaks its rule is damage
abbrev pub fault_of_word : WordFault → TableFault
fault_of_word words.Bad = Damaged
fault_of_word words.Memory = Memory
