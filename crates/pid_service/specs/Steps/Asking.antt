-- Steps of a question.
use Rattle.std.specs.Prelude.{◌≡◌, ◌⊎◌, false, Option, Some, Result, Ok, Err, IfErr, MatchResult}
use Rattle.pid_moderation.specs.declared.refusal.Refusal.{Refusal}
use Rattle.pid_moderation.specs.declared.refusal.Refusal.TheVariants.{Failed, NoSubmission}
use Rattle.pid_moderation.specs.History.{History}
use Rattle.pid_service_laws.specs.Questions.{IsMissing}
use Rattle.pid_moderation.specs.Views.{Views}
use Rattle.pid_tables.specs.Faults.{refusal_for}
use Rattle.pid_tables.specs.Rows.Clauses.{Reads}
use Rattle.pid_tables.specs.declared.database.Database.{Ghosts}
use Rattle.pid_tables.specs.declared.rows.fault.TableFault.{TableFault}
use Rattle.pid_service.specs.declared.registry.Registry.{Registry}
use Rattle.pid_tables.specs.declared.tables.Tables.{Tables}
use Rattle.pid_service.specs.Asking.{FaultIsCaused, MayGive}
use Rattle.pid_service.specs.Histories.{IsMemoryOrStore, OverHistory, Shows}
use Rattle.pid_service.specs.Registries.{OnlyReads, is_live}

-- what was found; or the refusal that a fault of the tables is answered as
abbrev pub answered_as : {X : Type 0} → Result X TableFault → Result X Refusal
answered_as (Ok found) = Ok found
answered_as (Err fault) = Err (refusal_for fault)

module _ {S : Type 0} (database : Ghosts S) where
  -- tables at rest were read, and this was found
  abbrev pub ReadsIn : {X : Type 0} → Tables S database → Tables S database
      → Result X TableFault → (Views → X → Type 0) → Type 0
  ReadsIn old new found Says = Reads database.state old.conn new.conn found Says

  -- the history that was shown is shown still, and the answer is by it
  abbrev pub TellsHistory : {X : Type 0} → Registry S database → Registry S database
      → Result X Refusal → (History → X → Type 0) → (History → Refusal → Type 0) → Type 0
  TellsHistory old new result Says Denies = OverHistory database old new
      (λ h. MatchResult result (Says h) (Denies h) × Shows database new h)

  -- A registry was read. One that has failed answers nothing else, and stays as it is.
  pub record Finds {X : Type 0} (old new : Registry S database) (result : Result X Refusal)
      (Says : History → X → Type 0) : Type 0 where
    pub failed : is_live old ≡ false → (result ≡ Err Failed) × (new ≡ old)
    pub fault : IfErr result (MayGive (is_live old))
    pub lives : is_live new ≡ is_live old
    pub rests : OnlyReads database old new
    pub told : TellsHistory old new result Says (λ h e. IsMemoryOrStore e)
    pub caused : OverHistory database old new
        (λ h. IfErr result (λ e. FaultIsCaused database old new e))

  -- the same of something that may not be there
  pub record FindsIfThere {X Y : Type 0} (old new : Registry S database) (result : Result X Refusal)
      (found : History → Option Y) (means : X → Y) : Type 0 where
    pub failed : is_live old ≡ false → (result ≡ Err Failed) × (new ≡ old)
    pub fault : IfErr result (λ e. (e ≡ NoSubmission) ⊎ MayGive (is_live old) e)
    pub lives : is_live new ≡ is_live old
    pub rests : OnlyReads database old new
    pub told : TellsHistory old new result (λ h x. found h ≡ Some (means x))
        (λ h e. IsMissing (found h) e)
    pub caused : OverHistory database old new
        (λ h. IfErr result (λ e. (e ≡ NoSubmission) ⊎ FaultIsCaused database old new e))

  -- It was asked questions alone: it is live or has failed as before, what was at rest stays as it
  -- was, and one that has failed is the same.
  pub record OnlyAsked (start now : Registry S database) : Type 0 where
    pub lives : is_live now ≡ is_live start
    pub rests : OnlyReads database start now
    pub failed : is_live start ≡ false → now ≡ start
