-- Sessions of a registry under moderation, each from its opening to the end. Choices of this
-- project.
use Rattle.std.specs.Prelude.{◌≡◌, List, ⊤}
use Rattle.pid_service_laws.specs.Calls.{Call, nothing_sent}
use Rattle.pid_service_laws.specs.Registries.{CallsLead, Does}
use Rattle.pid_service_laws.specs.declared.registry_calls.RegistryCalls.{Ghosts}
use Rattle.pid_cli_jobs.specs.declared.job_end.JobEnd.{JobEnd}
use Rattle.pid_cli_jobs.specs.declared.unopened.Unopened.{Unopened as Reason}
use Rattle.pid_cli_jobs.specs.declared.unopened.Unopened.TheVariants.{Memory, Store, Damaged}
use Rattle.pid_cli_jobs.specs.Lines.{ReportsUnopened, Streams}

-- why there was no connection
abbrev pub IsOfDatabase : Reason → Type 0
IsOfDatabase Memory = ⊤
IsOfDatabase Store = ⊤
IsOfDatabase Damaged = ⊤
IsOfDatabase why = ⊥

module _ {R : Type 0} (registry : Ghosts R) where
  -- calls in turn lead from the one registry to the other, and each does what its contract says
  pub record IsPartOfSession (old new : R) : Type 0 where
    pub calls : List Call
    pub lead : CallsLead registry.showing old calls new

  -- What is asked for again and again was read: a call that sends nothing. The registry is live if
  -- it was.
  pub record IsPrepared (old new : R) : Type 0 where
    pub calls : Does registry.showing old nothing_sent new
    pub lives : registry.is_live new ≡ registry.is_live old

module _ {R : Type 0} (registry : Ghosts R) (IsOpened : R → Type 0) (IsUnopened : Reason → Type 0)
    (IsClosed : R → Type 0) where
  -- A registry was opened, calls led from there to its end, this was done by them, and it was
  -- closed, unless it had failed.
  pub record IsSession (Does : R → R → Type 0) : Type 0 where
    pub opened : R
    pub opens : IsOpened opened
    pub ended : R
    pub goes : IsPartOfSession registry opened ended
    pub does : Does opened ended
    pub closes : IsClosed ended

  -- A job is such a session; or none was opened, and then nothing was done but to report why.
  pub data Works (Does : Streams → JobEnd → R → R → Type 0) (w : Streams) (end : JobEnd)
      : Type 0 where
    Session : IsSession (Does w end) → Works Does w end
    Unopened : (why : Reason) → IsUnopened why → ReportsUnopened why w end → Works Does w end
