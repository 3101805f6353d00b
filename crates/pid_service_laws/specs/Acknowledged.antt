-- What a history holds. A command is acknowledged if it was replied to. A choice of this
-- project.
use Rattle.std.specs.Prelude.{◌≡◌, ◌⊎◌, ℕ, List, [], ◌∷◌, Some, Result, Ok, Err}
use Rattle.std.specs.List.{AllByRecursion}
use Rattle.pid_moderation.specs.declared.command.Reply.{Reply}
use Rattle.pid_moderation.specs.declared.refusal.Refusal.{Refusal}
use Rattle.pid_moderation.specs.History.{Asked, Accepted, Begins, More, History}
use Rattle.pid_service_laws.specs.Sessions.{Sent, Session}

-- it is one of the accepted commands
abbrev pub IsAcceptedIn : Accepted → History → Type 0
IsAcceptedIn e (Begins mark) = ⊥
IsAcceptedIn e (More x h) = (e ≡ x) ⊎ IsAcceptedIn e h

-- it is one of the commands
abbrev pub IsIn : Asked → List Asked → Type 0
IsIn c [] = ⊥
IsIn c (x ∷ cs) = (c ≡ x) ⊎ IsIn c cs

-- The command itself; or one of the same account under the same key, of which this one is a repeat.
abbrev pub IsSameOrRepeat : Asked → Asked → Type 0
IsSameOrRepeat a c = (a ≡ c) ⊎ ((key : List ℕ) × (a.account ≡ c.account) × (a.key ≡ Some key)
    × (c.key ≡ Some key))

-- the history holds the command that was acknowledged by this reply, with this reply
pub record HoldsReply (h : History) (c : Asked) (reply : Reply) : Type 0 where
  pub entry : Accepted
  pub stands : IsAcceptedIn entry h
  pub replied : entry.reply ≡ reply
  pub is_for : IsSameOrRepeat entry.asked c

-- a refusal acknowledges nothing
abbrev pub HoldsOutcome : History → Asked → Result Reply Refusal → Type 0
HoldsOutcome h c (Ok reply) = HoldsReply h c reply
HoldsOutcome h c (Err refusal) = Unit {0}

-- every acknowledged one of the commands
abbrev pub HoldsAll : History → List Sent → Type 0
HoldsAll h sent = AllByRecursion (λ s. HoldsOutcome h s.command s.outcome) sent

-- every acknowledged command of the sessions
abbrev pub HoldsSessions : History → List Session → Type 0
HoldsSessions h sessions = AllByRecursion (λ session. HoldsAll h session.sent) sessions
