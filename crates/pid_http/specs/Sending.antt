-- What the requests of a stream send a registry within its session. Choices of this project.
use Rattle.std.specs.Prelude.{◌≡◌, ◌⊎◌, ℕ, List, [], ◌∷◌, ◌++◌, Option, Some, None}
use Rattle.pid_service_laws.specs.declared.registry_calls.RegistryCalls.{Ghosts}
use Rattle.pid_service_laws.specs.Calls.{Call, StopsAt, sent_in}
use Rattle.pid_service_laws.specs.Sessions.{after_sent, commands_in}
use Rattle.pid_moderation.specs.History.{Asked, History}
use Rattle.pid_moderation.specs.Judgement.{after}
use Rattle.pid_http_stream.specs.Requests.{Request, IsRequest}
use Rattle.pid_http.specs.Answering.{command_sent, meaning_of}
use Rattle.pid_http_stream.specs.Serving.{IsServed, Outside}
use Rattle.pid_http_stream.specs.declared.stream.StreamEnd.{StreamEnd}
use Rattle.pid_http.specs.Known.{Known, Live, Between, SessionState, ByCalls}
use Rattle.pid_http.specs.Serving.{serving}

-- the command, if there is one
abbrev pub if_any : Option Asked → List Asked
if_any None = []
if_any (Some command) = command ∷ []

-- the commands that requests ask for, in their order
abbrev pub commands_asked : List Request → List Asked
commands_asked [] = []
commands_asked (request ∷ requests) = if_any (command_sent (meaning_of request))
    ++ commands_asked requests

-- these are some of all of them, in their order
abbrev pub AreSomeOf : List Asked → List Asked → Type 0
AreSomeOf some [] = some ≡ []
AreSomeOf some (command ∷ all) = AreSomeOf some all
    ⊎ ((others : List Asked) × (some ≡ command ∷ others) × AreSomeOf others all)

-- The calls sent some of the commands, in their order, and the registry shows the history after
-- these. Or they stopped at a later one of the commands, at which it failed: what a crash may leave
-- shows the history after those that were sent, or after that one too.
abbrev pub SendsSome : History → List Asked → List Call → Known → Type 0
SendsSome h commands calls k =
    (AreSomeOf (commands_in (sent_in calls)) commands × (k ≡ Live (after_sent h (sent_in calls))))
    ⊎ ((c : Asked) × StopsAt c calls × AreSomeOf (commands_in (sent_in calls) ++ c ∷ []) commands
    × (k ≡ Between (after_sent h (sent_in calls)) (after (after_sent h (sent_in calls)) c)))

-- the stream begins with the requests, one after the other
abbrev pub StandInFront : List ℕ → List Request → Type 0
StandInFront stream [] = Unit {0}
StandInFront stream (request ∷ requests) = (behind : List ℕ) × IsRequest stream request behind
    × StandInFront behind requests

-- the first requests of the stream sent some of their commands
pub record SendsOf {R : Type 0} (registry : Ghosts R) (h : History) (t u : SessionState registry)
    (stream : List ℕ) : Type 0 where
  pub requests : List Request
  pub stand : StandInFront stream requests
  pub sends : ByCalls registry t u (λ calls. SendsSome h (commands_asked requests) calls u.known)

-- A stream that was served of a registry that showed a history sent it, whichever way it ended,
-- commands of the first requests of the stream.
abbrev pub StreamsSend : {R : Type 0} (registry : Ghosts R) → Type 0
StreamsSend registry = (o : Outside (SessionState registry)) (h : History) (stream : List ℕ)
    (left : Option (List ℕ)) (end : StreamEnd) (count : ℕ) → o.handler.known ≡ Live h
    → IsServed (serving registry) o stream left end count
    → SendsOf registry h o.handler o.handler_after stream
