use Rattle.std.proofs.Common.{ap, false, refl}
use Rattle.serde_json.specs.View.{members_view}
use Rattle.pid_http.proofs.OfApi.MemberSteps.{view_truth}
use Rattle.pid_http.proofs.api.outcome.refusal_value.Goals as goal

pub returns : goal.returns
returns c =
    let m1 = c.with_value-members.ensures _ _ (ap members_view c.new.ensures.empty) (view_truth false) in
    let m2 = c.with_value-members-2.ensures _ _ m1 c.from.ensures in
    let m3 = c.with_text-members.ensures _ _ m2 refl in
    c.object_of.ensures _ m3
