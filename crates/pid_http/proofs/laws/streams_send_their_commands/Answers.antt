use Rattle.pid_http.proofs.Streams.{served_sends}
use Rattle.pid_http.proofs.laws.streams_send_their_commands.Goals as goal

pub returns : goal.returns
returns g c = served_sends g.R.RegistryCalls c.judgements_are_outcomes.ensures c.requests_stay.ensures
