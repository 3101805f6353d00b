-- A whole stream: its requests one after another (pipelining, RFC 9112, section 9.3.2), and how it
-- ends.
use Rattle.std.specs.Prelude.{◌≡◌, ℕ, ◌⊎◌, Bool, true, false, List, [], ◌∷◌}
use Rattle.pid_http_stream.specs.Connections.{asks_to_close}
use Rattle.pid_http_stream.specs.Endings.{HasFault}
use Rattle.pid_http_stream.specs.Leftovers.{IsLeftover}
use Rattle.pid_http_stream.specs.Requests.{Request, IsRequest, fields_of}
use Rattle.pid_http_stream.specs.declared.refusal.StreamFault.{StreamFault}

-- the stream ends after the reply to this request
abbrev pub closes : Request → Bool
closes request = asks_to_close request.head.minor (fields_of request.head)

-- how a stream ends after its last request
pub data Ending : Type 0 where
  -- nothing is left
  clean : Ending
  -- the last request asked for it
  closed : Ending
  -- what is left is refused
  faulty : StreamFault → Ending

-- what is left after the last request ends the stream so
abbrev pub EndsStream : List ℕ → Ending → Type 0
EndsStream rest clean = IsLeftover rest
EndsStream rest closed = ⊥
EndsStream rest (faulty fault) = HasFault rest fault

-- the stream begins with these requests, none of which closes it, and has this rest after them
abbrev pub Fronts : List ℕ → List Request → List ℕ → Type 0
Fronts stream [] rest = stream ≡ rest
Fronts stream (request ∷ requests) rest =
    (behind : List ℕ) × IsRequest stream request behind × (closes request ≡ false)
    × Fronts behind requests rest

-- the whole stream is these requests, and ends so
abbrev pub Splits : List ℕ → List Request → Ending → Type 0
Splits stream [] ending = EndsStream stream ending
Splits stream (request ∷ requests) ending =
    (behind : List ℕ) × IsRequest stream request behind
    × (((closes request ≡ true) × (requests ≡ []) × (ending ≡ closed))
    ⊎ ((closes request ≡ false) × Splits behind requests ending))
