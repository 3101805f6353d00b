-- What calls keep of a disk, and the law that leads from calls to sessions, for any type of
-- registries. A choice of this project.
use Rattle.std.specs.Prelude.{List}
use Rattle.pid_moderation.specs.History.{History}
use Rattle.pid_service_laws.specs.Calls.{Call}
use Rattle.pid_service_laws.specs.Registries.{CallsLead, EndsSession, Showing}

module _ {R : Type 0} (w : Showing R) where
  -- a disk that has returned what was written up to the second has done so up to the first
  abbrev pub StaysClean : R → R → Type 0
  StaysClean old new = w.is_clean new → w.is_clean old

  -- Calls on a registry that shows a history are a session, with exactly the outcomes answered.
  abbrev pub CallsAreASession : Type 0
  CallsAreASession = (old new : R) (h : History) (calls : List Call)
      → w.shows old h
      → CallsLead w old calls new
      → w.is_clean new
      → EndsSession w h calls new
