use Rattle.std.proofs.Common.{ap, true}
use Rattle.serde_json.specs.View.{members_view}
use Rattle.pid_http.proofs.OfApi.MemberSteps.{view_truth}
use Rattle.pid_http.proofs.api.outcome.numbered_value.Goals as goal

pub returns : goal.returns
returns c =
    let m1 = c.with_value-members.ensures _ _ (ap members_view c.new.ensures.empty) c.from.ensures in
    let m2 = c.with_value-members-2.ensures _ _ m1 (view_truth true) in
    c.object_of.ensures _ m2
