use Rattle.pid_http_stream.proofs.BodyReads.{if_any}
use Rattle.pid_http.proofs.Imports.{ended}
use Rattle.pid_http.proofs.importing.refuse.Goals as goal

pub returns-in-Ok : goal.returns-in-Ok
returns-in-Ok g c =
    let r = c.in-Ok.ensures.read in record {
      read = record { goes = c.skip_input.ensures.goes; whole = if_any c.made.result _ r.2.at_end };
      ended = λ e. ended _ _ r.0 r.1 e;
      replied = c.made.ensures _ c.refusal_reply.ensures;
    }

pub returns-in-Err : goal.returns-in-Err
returns-in-Err g c =
    let r = c.in-Err.ensures.read in record {
      read = record { goes = c.skip_input.ensures.goes; whole = tt };
      ended = λ e. ended _ _ r.0 r.1 e;
      replied = tt;
    }
