-- What the serving of one connection does.
use Rattle.pid_http_stream.specs.Listener.Streams.{IsGivenMore}
use Rattle.pid_http_stream.specs.declared.listener.server.StreamServer.{Ghosts}

-- a server was given one stream
pub record ServesOne {S : Type 0} (server : Ghosts S) (old new : S) : Type 0 where
  pub goes : server.goes old new
  pub counted : IsGivenMore 1 (server.given old) (server.given new)
