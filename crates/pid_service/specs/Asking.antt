-- What a registry answers to a question: by the history that it shows, which it goes on showing.
use Rattle.std.specs.Prelude.{◌≡◌, ◌⊎◌, Bool, true, false, Option, Result}
use Rattle.std.specs.Prelude.{IfErr}
use Rattle.sqlite.specs.State.{State}
use Rattle.pid_moderation.specs.declared.refusal.Refusal.{Refusal}
use Rattle.pid_moderation.specs.declared.refusal.Refusal.TheVariants.{Failed, Memory, Store}
use Rattle.pid_moderation.specs.declared.refusal.Refusal.TheVariants.{NoSubmission}
use Rattle.pid_moderation.specs.History.{History}
use Rattle.pid_service_laws.specs.Questions.{IsAnswered, IsAnsweredIfThere}
use Rattle.pid_tables.specs.Rows.Clauses as clauses
use Rattle.pid_tables.specs.declared.database.Database.{Ghosts}
use Rattle.pid_tables.specs.declared.rows.fault.TableFault.TheVariants as faults
use Rattle.pid_service.specs.declared.registry.Registry.{Registry}
use Rattle.pid_service.specs.Histories.{IsMemoryOrStore, OverHistory, showing}
use Rattle.pid_service.specs.Registries.{OnlyReads, connection, is_live}

-- a live registry fails with `Memory` and `Store` alone, one that has failed with `Failed` alone
pub record MayGive (live : Bool) (e : Refusal) : Type 0 where
  pub alive : live ≡ true → IsMemoryOrStore e
  pub failed : live ≡ false → e ≡ Failed

module _ {S : Type 0} (state : S → State) where
  -- Memory may run out at any time. The store is the cause if the disk failed or refused in the
  -- call, if a fault had shut the connection before, or if a limit of steps was set.
  abbrev pub IsCausedAs : S → S → Refusal → Type 0
  IsCausedAs old new Memory = Unit {0}
  IsCausedAs old new Store = clauses.IsCaused state old new faults.Store
  IsCausedAs old new e = ⊥

module _ {S : Type 0} (database : Ghosts S) where
  -- the same of what a registry is asked
  abbrev pub FaultIsCaused : Registry S database → Registry S database → Refusal → Type 0
  FaultIsCaused old new e = IsCausedAs database.state (connection old) (connection new) e

  -- A question, answered as by any registry under moderation.
  pub record Answers {X : Type 0} (old new : Registry S database) (result : Result X Refusal)
      (Says : History → X → Type 0) : Type 0 where
    pub asked : IsAnswered (showing database) is_live old new result Says
    -- and, whatever its disk does:
    pub fault : IfErr result (MayGive (is_live old))
    pub lives : is_live new ≡ is_live old
    pub rests : OnlyReads database old new
    -- a fault has its cause
    pub caused : OverHistory database old new (λ h. IfErr result (λ e. FaultIsCaused old new e))

  -- A question for something that may not be there; then the answer is `NoSubmission`.
  pub record AnswersIfThere {X Y : Type 0} (old new : Registry S database)
      (result : Result X Refusal) (found : History → Option Y) (means : X → Y) : Type 0 where
    pub asked : IsAnsweredIfThere (showing database) is_live old new result found means
    pub fault : IfErr result (λ e. (e ≡ NoSubmission) ⊎ MayGive (is_live old) e)
    pub lives : is_live new ≡ is_live old
    pub rests : OnlyReads database old new
    pub caused : OverHistory database old new
        (λ h. IfErr result (λ e. (e ≡ NoSubmission) ⊎ FaultIsCaused old new e))
