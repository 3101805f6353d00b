use Rattle.std.proofs.Common.{rules, ◌≡◌, subst}
use Rattle.pid_http_stream.specs.OneStream.{ServesStream}
use Rattle.pid_http.specs.Streams.{over}
use Rattle.pid_http.proofs.stream.serve_with.Goals as goal

pub returns : goal.returns
returns g c =
    let e = c.serve_stream.ensures in
    let end = c.serve_stream.new in
    let name = e.becomes.0 in
    let same : end.handler.registry.now ≡ c.registry-1.given.0 = search rules in
    subst (λ registry. ServesStream (over g.R.RegistryCalls) g.I.Incoming g.W.Output (c.args.registry.now, registry) (c.args.reader.now, end.input) (c.args.writer.now, end.output) c.args.turns c.serve_stream.result) same
    (record {
      becomes = e.becomes.1;
      goes = e.goes;
      served = record { good = e.served.good; leads = λ good t is. e.served.leads good t is };
      caught_up = record { good = e.caught_up.good; leads = λ good t is. e.caught_up.leads good t is };
      ended = e.ended;
    })
