use Rattle.std.proofs.Common.{refl, sym, ap}
use Rattle.pid_http.specs.Answering.{meaning_for}
use Rattle.pid_http.proofs.dispatch.sender_for.Goals as goal

pub returns-in-Refused : goal.returns-in-Refused
returns-in-Refused c h at body = rw c.in-Refused.is refl

pub returns-in-Asks : goal.returns-in-Asks
returns-in-Asks c h at body = rw c.in-Asks.is refl

pub returns-in-Obeys : goal.returns-in-Obeys
returns-in-Obeys c h at body = ap (λ s. meaning_for c.args.request.now s body) (sym (c.sender_of.ensures h at))
