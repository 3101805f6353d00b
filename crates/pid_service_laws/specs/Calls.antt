-- What calls on a registry send, by what they answer. A choice of this project.
use Rattle.std.specs.Prelude.{◌≡◌, ◌⊎◌, Bool, not, ◌&&◌, List, [], ◌∷◌, ◌++◌, length, slice_get}
use Rattle.std.specs.Prelude.{if◌then◌else◌, Option, Some, None, Result, Ok, Err}
use Rattle.std.specs.List.{AllByRecursion}
use Rattle.pid_moderation.specs.declared.command.Reply.{Reply}
use Rattle.pid_moderation.specs.declared.refusal.Refusal.{Refusal}
use Rattle.pid_moderation.specs.History.{Asked}
use Rattle.pid_service_laws.specs.Outcomes.{is_fault, is_outcome}
use Rattle.pid_service_laws.specs.Sessions.{Sent, Doubt, NoDoubt, InDoubt, Session}

-- what a call came to
pub record Call : Type 0 where
  -- the commands that have an outcome, the first one first
  pub sent : List Sent
  -- the command that met a fault of memory or of the store by which the registry failed, if one
  -- did; later ones were not reached
  pub stopped : Option Asked

-- a question, an export, or an import whose input failed; and every call on a registry that has
-- failed before
abbrev pub nothing_sent : Call
nothing_sent = record { sent = []; stopped = None }

-- A fault 16 or 17 stops at the next command if it left the registry failed; one that is still
-- live may be sent the command again. 18 stops at none, since the registry has failed before.
abbrev pub stopped_by : Option Refusal → (live : Bool) → Option Asked → Option Asked
stopped_by None live next = None
stopped_by (Some refusal) live next = if is_fault refusal && not live then next else None

-- the refusal, if it is one
abbrev pub refusal_answered : Result Reply Refusal → Option Refusal
refusal_answered (Ok reply) = None
refusal_answered (Err refusal) = Some refusal

-- a command that was answered so, by a registry that then was live, or had failed
abbrev pub obeyed : Asked → Result Reply Refusal → (live : Bool) → Call
obeyed c answer live = record {
  sent = if is_outcome answer then record { command = c; outcome = answer } ∷ [] else [];
  stopped = stopped_by (refusal_answered answer) live (Some c);
}

-- the first commands, with these outcomes
abbrev pub paired : List Asked → List (Result Reply Refusal) → List Sent
paired [] outcomes = []
paired (c ∷ cs) [] = []
paired (c ∷ cs) (outcome ∷ outcomes) = record { command = c; outcome = outcome }
    ∷ paired cs outcomes

-- a list of commands, of which the first ones have these outcomes, and the next one met the fault,
-- if there was one; the registry then was live, or had failed
abbrev pub ran : List Asked → List (Result Reply Refusal) → Option Refusal → (live : Bool) → Call
ran commands outcomes fault live = record {
  sent = paired commands outcomes;
  stopped = stopped_by fault live (slice_get commands (length outcomes));
}

-- what the calls of a session sent, in turn
abbrev pub sent_in : List Call → List Sent
sent_in [] = []
sent_in (call ∷ calls) = call.sent ++ sent_in calls

-- the calls sent nothing, and none stopped
abbrev pub AreNothing : List Call → Type 0
AreNothing calls = AllByRecursion (λ call. call ≡ nothing_sent) calls

-- the last of the calls that sent something, or stopped, stopped at this command
abbrev pub StopsAt : Asked → List Call → Type 0
StopsAt c [] = ⊥
StopsAt c (call ∷ calls) = ((call.stopped ≡ Some c) × AreNothing calls) ⊎ StopsAt c calls

-- the session that the calls are, with this doubt
abbrev pub session_of : List Call → Doubt → Session
session_of calls doubt = record { sent = sent_in calls; doubt = doubt }

-- The command in doubt is the one at which the calls stopped. If none is named, nothing is asked: a
-- command in doubt that was not written may be left out, as the prefix of the session is the same.
abbrev pub IsDoubtOf : List Call → Doubt → Type 0
IsDoubtOf calls NoDoubt = Unit {0}
IsDoubtOf calls (InDoubt c stands) = StopsAt c calls

-- these are the calls of that session: it has exactly their outcomes, in order
abbrev pub IsSessionOf : List Call → Session → Type 0
IsSessionOf calls session = (session.sent ≡ sent_in calls) × IsDoubtOf calls session.doubt
