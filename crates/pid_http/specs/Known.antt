-- What is known of a registry between two requests of a stream, and of its session.
use Rattle.std.specs.Prelude.{◌≡◌, false, List, ◌++◌}
use Rattle.pid_service_laws.specs.declared.registry_calls.RegistryCalls.{Ghosts}
use Rattle.pid_moderation.specs.History.{History}
use Rattle.pid_service_laws.specs.Calls.{Call}
use Rattle.pid_service_laws.specs.Registries.{CallsLead}

pub data Known : Type 0 where
  -- it is live and shows this history, and so does all that a crash may leave
  Live : History → Known
  -- it failed at a command: what a crash may leave shows the history without the command, or the
  -- one with it
  Between : (before behind : History) → Known
  -- it had failed earlier
  Down : Known

module _ {R : Type 0} (registry : Ghosts R) where
  -- this is known of the registry
  abbrev pub IsKnownOf : R → Known → Type 0
  IsKnownOf r (Live h) = registry.showing.shows r h
  IsKnownOf r (Between before behind) = registry.showing.fails_between r before behind
  IsKnownOf r Down = registry.is_live r ≡ false

  -- Calls on the registry led from the one to the other, and each did what a session asks of a
  -- call: so they are a part of its session. One that has failed stays as it is.
  pub record LivesOn (old new : R) : Type 0 where
    pub rests : registry.is_live old ≡ false → new ≡ old
    pub calls : List Call
    pub lead : CallsLead registry.showing old calls new

  -- What is known of a registry within a session: how it was as that began, the calls since then,
  -- and what is known of it now.
  pub record SessionState : Type 0 where
    pub start : R
    pub calls : List Call
    pub known : Known

  -- the registry is as this says
  pub record IsSessionState (r : R) (t : SessionState) : Type 0 where
    pub is_known : IsKnownOf r t.known
    pub lead : CallsLead registry.showing t.start t.calls r

  -- more calls of the same session led from the one to the other, of which this holds
  pub record ByCalls (t u : SessionState) (Holds : List Call → Type 0) : Type 0 where
    pub same_session : u.start ≡ t.start
    pub more : List Call
    pub joined : u.calls ≡ t.calls ++ more
    pub holds : Holds more
