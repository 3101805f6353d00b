-- Why a question gets a fault.
use Rattle.std.proofs.Common.{◌≡◌, sym, subst}
use Rattle.pid_tables.specs.Rows.Clauses as clauses
use Rattle.pid_tables.specs.declared.rows.fault.TableFault.TheVariants.{Memory, Store}
use Rattle.pid_service.proofs.Words.{Damaged, Ghosts, IsCausedAs, NewerSchema, Refusal, refusal_for, TableFault}

module _ {S : Type 0} (database : Ghosts S) (old new : S) where
  pub caused_as : (fault : TableFault) → clauses.IsCaused database.state old new fault → IsCausedAs database.state old new (refusal_for fault)
  caused_as Memory cause = tt
  caused_as Store cause = cause
  caused_as (NewerSchema n) cause = absurd cause
  caused_as Damaged cause = absurd cause

  -- as the refusal that a fault of the tables is told by
  pub caused_by : (fault : TableFault) (told : Refusal) → told ≡ refusal_for fault → clauses.IsCaused database.state old new fault → IsCausedAs database.state old new told
  caused_by fault told same cause = subst (λ (e : Refusal). IsCausedAs database.state old new e) (sym same) (caused_as fault cause)
