-- What holds of all sessions, over stops at any place: cited by `laws`. A choice of this project.
use Rattle.std.specs.Prelude.{◌≡◌, ◌⊎◌, ◌≤◌, ℕ, true, List, [], ◌∷◌, ◌++◌, Some, Err}
use Rattle.std.specs.List.{flat_map}
use Rattle.pid_moderation.specs.declared.refusal.Refusal.{Refusal}
use Rattle.pid_moderation.specs.History.{Accepted, Asked, Begins, History, mark_of}
use Rattle.pid_moderation.specs.Judgement.{after, after_all, answer, judge}
use Rattle.pid_moderation.specs.Keys.{times_under}
use Rattle.pid_moderation.specs.Views.{views_of}
use Rattle.pid_service_laws.specs.Acknowledged.{IsIn, IsAcceptedIn}
use Rattle.pid_service_laws.specs.KeptReplies.{IsKept}
use Rattle.pid_service_laws.specs.Sessions.{InDoubt, Session, after_sessions, commands_in}
use Rattle.pid_service_laws.specs.Sessions.{prefix_of}

-- these are the commands with an outcome, and the one in doubt if it was written
abbrev pub IsOutcomesAndDoubt : Session → List Asked → Type 0
IsOutcomesAndDoubt session commands = (commands ≡ commands_in session.sent)
    ⊎ ((c : Asked) × (session.doubt ≡ InDoubt c true)
    × (commands ≡ commands_in session.sent ++ c ∷ []))

-- the prefixes of all sessions, joined in order
abbrev pub all_prefixes : List Session → List Asked
all_prefixes sessions = flat_map prefix_of sessions

-- the history that sessions leave, the first of which began with this mark and no command
abbrev pub history_left : ℕ → List Session → History
history_left mark sessions = after_sessions (Begins mark) sessions

-- What any sessions leave.
pub record JoinsPrefixes (mark : ℕ) (sessions : List Session) (h : History) : Type 0 where
  -- it is the history after the prefixes of all, joined in order
  pub joined : h ≡ after_all (Begins mark) (all_prefixes sessions)
  -- it keeps the mark with which it began
  pub marked : mark_of h ≡ mark
  -- it holds no command that was not sent
  pub only : (e : Accepted) → IsAcceptedIn e h → IsIn e.asked (all_prefixes sessions)
  -- it holds at most one command of an account under a key
  pub once : (account key : List ℕ) → times_under account key h ≤ 1
  -- and the reply to that one is the reply that is kept there
  pub own : (e : Accepted) → IsAcceptedIn e h → IsKept h e.asked.account e.asked.key e.reply

-- the command was sent under a key
abbrev pub HasKey : Asked → Type 0
HasKey c = (key : List ℕ) × (c.key ≡ Some key)

-- the command has the same outcome over both histories, and leads to the same
pub record EndsAlike (h g : History) (c : Asked) : Type 0 where
  pub outcome : answer (judge (views_of g) c) ≡ answer (judge (views_of h) c)
  pub history : after g c ≡ after h c

-- the command is refused over the history
abbrev pub IsRefusedOver : History → Asked → Refusal → Type 0
IsRefusedOver h c refusal = answer (judge (views_of h) c) ≡ Err refusal
