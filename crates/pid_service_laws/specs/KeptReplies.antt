-- Every reply that an account ever got under a key is the one that is kept there. A choice of this
-- project.
use Rattle.std.specs.Prelude.{◌≡◌, ℕ, List, Option, Some, None, Result, Ok, Err}
use Rattle.std.specs.List.{AllByRecursion}
use Rattle.pid_moderation.specs.declared.command.Reply.{Reply}
use Rattle.pid_moderation.specs.declared.refusal.Refusal.{Refusal}
use Rattle.pid_moderation.specs.History.{History}
use Rattle.pid_moderation.specs.Views.{kept_of}
use Rattle.pid_service_laws.specs.Sessions.{Sent, Session}

-- the reply is the one that is kept for the account under the key; without a key nothing is kept
abbrev pub IsKept : History → List ℕ → Option (List ℕ) → Reply → Type 0
IsKept h account None reply = Unit {0}
IsKept h account (Some key) reply = kept_of account key h ≡ Some reply

-- a refusal is not kept
abbrev pub KeepsOutcome : History → List ℕ → Option (List ℕ) → Result Reply Refusal → Type 0
KeepsOutcome h account key (Ok reply) = IsKept h account key reply
KeepsOutcome h account key (Err refusal) = Unit {0}

-- every reply to the commands
abbrev pub KeepsSent : History → List Sent → Type 0
KeepsSent h sent = AllByRecursion
    (λ s. KeepsOutcome h s.command.account s.command.key s.outcome) sent

-- every reply of the sessions
abbrev pub KeepsSessions : History → List Session → Type 0
KeepsSessions h sessions = AllByRecursion (λ session. KeepsSent h session.sent) sessions
