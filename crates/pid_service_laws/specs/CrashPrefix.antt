-- The crash prefix: what an opening finds after sessions that ended anywhere. A choice of this
-- project.
use Rattle.std.specs.Prelude.{◌≡◌, ◌≤◌, ℕ, List}
use Rattle.std.specs.List.{AllZip, flat_map}
use Rattle.pid_moderation.specs.History.{Accepted, History, mark_of}
use Rattle.pid_moderation.specs.Judgement.{after_all}
use Rattle.pid_moderation.specs.Keys.{times_under}
use Rattle.pid_service_laws.specs.Sessions.{Session, AreSessions, prefix_of}
use Rattle.pid_service_laws.specs.Acknowledged.{HoldsSessions, IsAcceptedIn}
use Rattle.pid_service_laws.specs.KeptReplies.{IsKept, KeepsSessions}
use Rattle.pid_service_laws.specs.Calls.{Call, IsSessionOf}

-- From the history that the first opening showed, this one is the one after a prefix of the
-- commands of each session, joined in order. It has every acknowledged one, and has kept its mark.
pub record IsAfterPrefixes (start : History) (calls : List (List Call)) (h : History) : Type 0 where
  pub sessions : List Session
  -- the sessions are those of the calls, with the outcomes of the judgement
  pub are_of : AllZip IsSessionOf calls sessions
  pub judged : AreSessions start sessions
  pub joined : h ≡ after_all start (flat_map prefix_of sessions)
  pub marked : mark_of h ≡ mark_of start
  pub holds : HoldsSessions h sessions
  -- of an account under a key it holds at most one command, and every reply that was ever given
  -- there is that command's
  pub once : (account key : List ℕ) → times_under account key h ≤ 1
  pub kept : KeepsSessions h sessions
  pub own : (e : Accepted) → IsAcceptedIn e h → IsKept h e.asked.account e.asked.key e.reply
