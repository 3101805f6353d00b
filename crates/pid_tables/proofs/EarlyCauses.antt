-- Why an import is refused before its file is read.
use Rattle.std.proofs.Common.{◌≡◌, inl, Ok, Err, Result, sym, subst}
use Rattle.sqlite.specs.State.{State}
use Rattle.pid_moderation.specs.declared.command.Command.{Command}
use Rattle.pid_moderation.specs.declared.command.Reply.{Reply}
use Rattle.pid_moderation.specs.declared.refusal.Refusal.{Refusal}
use Rattle.pid_moderation.specs.BeforeFile.{SettlesImport}
use Rattle.pid_moderation.specs.History.{History}
use Rattle.pid_tables.specs.Rows.Causes.{IsCaused}
use Rattle.pid_tables.specs.declared.rows.fault.TableFault.{TableFault}
use Rattle.pid_tables.specs.declared.rows.fault.TableFault.TheVariants.{Memory, Store, NewerSchema, Damaged}
use Rattle.pid_tables.specs.Faults.{IsCausedRefusal, refusal_for}
use Rattle.pid_tables.specs.Judging.{HasOneOutcome, EarlyIsCaused}
use Rattle.pid_tables.specs.declared.judging.Early.TheVariants.{Answered}

caused_for : (old new : State) (fault : TableFault) → IsCaused old new fault → IsCausedRefusal old new (refusal_for fault)
caused_for old new Memory cause = tt
caused_for old new Store cause = cause
caused_for old new (NewerSchema n) cause = absurd cause
caused_for old new Damaged cause = absurd cause

-- a fault of the tables is answered for its own cause
pub caused_as : (old new : State) (fault : TableFault) (told : Refusal) → told ≡ refusal_for fault → IsCaused old new fault → IsCausedRefusal old new told
caused_as old new fault told same cause = subst (IsCausedRefusal old new) (sym same) (caused_for old new fault cause)

-- what settles an import is its one outcome
pub settled_once : (h : History) (command : Command) (r : Result Reply Refusal) → SettlesImport h command.account command.key r → HasOneOutcome h command r
settled_once h command (Ok reply) settles = settles
settled_once h command (Err e) settles = inl settles

-- and no refusal of it wants a cause
pub settled_caused : (old new : State) (h : History) (command : Command) (r : Result Reply Refusal) → SettlesImport h command.account command.key r → EarlyIsCaused old new h command (Answered r)
settled_caused old new h command (Ok reply) settles = tt
settled_caused old new h command (Err e) settles = inl settles
