-- What is said of a stream of requests over a registry.
use Rattle.std.specs.Prelude.{List, ℕ, Option, IfSome, ⊤}
use Rattle.pid_service_laws.specs.declared.registry_calls.RegistryCalls.{Ghosts}
use Rattle.pid_http_stream.specs.Leading.{Leads}
use Rattle.pid_http_stream.specs.OneStream.{Answering}
use Rattle.pid_http.specs.Known.{IsSessionState, LivesOn, SessionState}
use Rattle.pid_http.specs.Serving.{serving}

-- a registry as what answers requests
abbrev pub over : {R : Type 0} (registry : Ghosts R) → Answering R (SessionState registry)
over registry = record {
  becomes = LivesOn registry;
  is_good = registry.showing.is_clean;
  stands = IsSessionState registry;
  conduct = serving registry;
  cannot_go_on = λ _. ⊤;
}

-- While the disk returns what was written, and if the bytes to come are known, this holds of what
-- is known of the registry before and after, and of these bytes.
abbrev pub OverStream : {R : Type 0} (registry : Ghosts R) → R → R
    → Option (List ℕ) → (SessionState registry → SessionState registry → List ℕ → Type 0) → Type 0
OverStream registry old new to_come Holds = Leads registry.showing.is_clean (IsSessionState registry) old new
    (λ t u. IfSome to_come (λ stream. Holds t u stream))
