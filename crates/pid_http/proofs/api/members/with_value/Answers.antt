use Rattle.serde_json.specs.View.{members_view}
use Rattle.pid_http.proofs.OfApi.MemberSteps.{grown}
use Rattle.pid_http.proofs.api.members.with_value.Goals as goal

pub returns-in-Ok : goal.returns-in-Ok
returns-in-Ok c = λ ms json has is. grown c.put_value.result (λ m. members_view m.entries) c.args.key.now (members_view c.in-Ok.members.entries) ms _ json c.put_value.ensures is (rw c.in-Ok.is at has)

pub returns-in-Err : goal.returns-in-Err
returns-in-Err c = λ ms json has is. tt
