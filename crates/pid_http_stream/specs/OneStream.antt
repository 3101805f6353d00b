-- What the serving of one stream says: of what answers it, of its reader and of its writer.
use Rattle.std.specs.Prelude.{ℕ, IfSome}
use Rattle.pid_file.specs.declared.io.Output.{Ghosts as Writing}
use Rattle.pid_ident.specs.declared.incoming.Incoming.{Ghosts as Reading}
use Rattle.pid_http_stream.specs.Causes.{EndsFor}
use Rattle.pid_http_stream.specs.Conducts.{Conduct}
use Rattle.pid_http_stream.specs.Leading.{Leads}
use Rattle.pid_http_stream.specs.Moments.{AllSince}
use Rattle.pid_http_stream.specs.Reads.{reader_at}
use Rattle.pid_http_stream.specs.Serving.{IsCaughtUp, IsServed, outside}
use Rattle.pid_http_stream.specs.declared.handler.Handler.{Ghosts}
use Rattle.pid_http_stream.specs.declared.stream.Served.{Served}

-- what answers requests, by what is said of it as of a `Handler`
pub record Answering (A V : Type 0) : Type 1 where
  pub becomes : A → A → Type 0
  pub is_good : A → Type 0
  pub stands : A → V → Type 0
  pub conduct : Conduct V
  pub cannot_go_on : A → Type 0

abbrev pub answering : {H Q U : Type 0} (handler : Ghosts H Q U) → Answering H handler.View
answering handler = record {
  becomes = handler.becomes;
  is_good = handler.is_good;
  stands = handler.stands;
  conduct = handler.conduct;
  cannot_go_on = handler.cannot_go_on;
}

-- A stream was served in at most so many reads: by what answers it, its reader and its writer, each
-- as it was before and is after.
pub record ServesStream {A V I W : Type 0} (answerer : Answering A V) (reader : Reading I W)
    (writer : Writing W) (handler : A × A) (input : I × I) (output : W × W) (turns : ℕ)
    (result : Served)
    : Type 0 where
  -- Whatever the bytes are and wherever it ends, what answers it becomes what calls may make of it,
  -- and the reader what reads may.
  pub becomes : answerer.becomes handler.0 handler.1
  pub goes : reader.goes input.0 input.1
  -- the bytes that were written are the replies to the requests of the stream
  pub served : Leads answerer.is_good answerer.stands handler.0 handler.1
      (λ v w. IfSome (reader.to_come input.0) (λ stream. IsServed answerer.conduct
      (outside v w (writer.taken output.0) (writer.taken output.1))
      stream (reader.to_come input.1) result.end result.answered))
  -- whenever the reader was read, the requests that had come were answered, and the writer had
  -- taken the replies
  pub caught_up : Leads answerer.is_good answerer.stands handler.0 handler.1
      (λ v _. IfSome (reader.to_come input.0) (λ stream. AllSince
      (IsCaughtUp answerer.conduct v (writer.taken output.0) stream)
      (reader.moments input.0) (reader.moments input.1)))
  pub ended : EndsFor result.end (record {
    before = reader_at reader input.0;
    after = reader_at reader input.1;
    write_fault = writer.write_fault output.1;
    stuck = answerer.cannot_go_on handler.1;
    turns = turns;
  })
