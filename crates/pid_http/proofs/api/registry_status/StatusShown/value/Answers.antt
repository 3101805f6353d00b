use Rattle.std.proofs.Common.{ap}
use Rattle.serde_json.specs.View.{members_view}
use Rattle.pid_http.proofs.api.registry_status.StatusShown.value.Goals as goal

pub returns : goal.returns
returns c =
    let m1 = c.with_value-members.ensures _ _ (ap members_view c.new.ensures.empty) c.from.ensures in
    let m2 = c.with_value-members-2.ensures _ _ m1 c.from-2.ensures in
    let m3 = c.with_value-members-3.ensures _ _ m2 c.from-3.ensures in
    let m4 = c.with_value-members-4.ensures _ _ m3 c.from-4.ensures in
    let m5 = c.with_value-members-5.ensures _ _ m4 c.from-5.ensures in
    c.object_of.ensures _ m5
