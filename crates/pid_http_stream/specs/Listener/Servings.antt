-- How the serving of connections ends.
use Rattle.std.specs.Prelude.{◌≡◌, ◌↔◌, ℕ, ◌<◌, ◌≤◌, Bool, true, false}
use Rattle.pid_http_stream.specs.declared.listener.serving.ServingEnd.{ServingEnd}
use Rattle.pid_http_stream.specs.declared.listener.serving.ServingEnd.TheVariants.{All, NotLive}
use Rattle.pid_http_stream.specs.declared.listener.serving.ServingEnd.TheVariants.{AcceptFault}

-- how many streams were begun, of so many connections
abbrev pub CountsStreams : ServingEnd → ℕ → ℕ → Type 0
CountsStreams All connections streams = streams ≡ connections
CountsStreams NotLive connections streams = streams ≤ connections
CountsStreams AcceptFault connections streams = streams < connections

-- Whether the server was live before so many streams, and is live after them. One that is not live
-- at the end was given a stream exactly if it was live before.
abbrev pub IsLiveAt : ServingEnd → ℕ → Bool × Bool → Type 0
IsLiveAt All streams live = (live.0 ≡ true) × (live.1 ≡ true)
IsLiveAt NotLive streams live = (live.0 ≡ true ↔ 0 < streams) × (live.1 ≡ false)
IsLiveAt AcceptFault streams live = (live.0 ≡ true) × (live.1 ≡ true)
