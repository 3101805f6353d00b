-- The calls that a script makes of a registry, as sessions have them: choices of this project.
use Rattle.std.specs.Prelude.{◌≡◌, ◌≤◌, ◌⊎◌, ℕ, List, length}
use Rattle.pid_moderation.specs.History.{Asked}
use Rattle.pid_service_laws.specs.CallLaws.{StaysClean}
use Rattle.pid_service_laws.specs.Calls.{Call, sent_in}
use Rattle.pid_service_laws.specs.Sessions.{commands_in}
use Rattle.pid_service_laws.specs.Registries.{Showing, CallsLead}

-- `seen` is how sessions see a registry
module _ {R : Type 0} (seen : Showing R) where
  -- calls in turn lead from the one registry to the other, so that these are part of one session
  pub record CallsGo (old new : R) : Type 0 where
    pub clean : StaysClean seen old new
    pub calls : List Call
    pub lead : CallsLead seen old calls new

  -- The same; they are at most so many, and the commands of theirs that got an outcome are these,
  -- the first one first.
  pub record CallsSend (old : R) (commands : List Asked) (most : ℕ) (new : R) : Type 0 where
    pub calls : List Call
    pub lead : CallsLead seen old calls new
    pub few : length calls ≤ most
    pub sent : commands ≡ commands_in (sent_in calls)

  -- the same of the first commands or of the second
  abbrev pub CallsSendEither : R → (first second : List Asked) → (most : ℕ) → R → Type 0
  CallsSendEither old first second most new =
      CallsSend old first most new ⊎ CallsSend old second most new
