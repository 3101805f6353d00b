-- Laws on streams, over the definitions alone.
use Rattle.std.specs.Prelude.{◌≡◌, ℕ, ◌++◌, List}
use Rattle.pid_http_stream.specs.Requests.{Request, IsRequest}
use Rattle.pid_http_stream.specs.Streams.{Ending, Splits}

-- a stream splits in one way: it has one list of requests, and one ending
abbrev pub StreamsAreUnique : Type 0
StreamsAreUnique = (stream : List ℕ) (requests others : List Request) (ending other : Ending)
    → Splits stream requests ending → Splits stream others other
    → (requests ≡ others) × (ending ≡ other)

-- a request found in a prefix of a stream is found in all that goes on from there
abbrev pub RequestsStay : Type 0
RequestsStay = (front more : List ℕ) (request : Request) (behind : List ℕ)
    → IsRequest front request behind → IsRequest (front ++ more) request (behind ++ more)
