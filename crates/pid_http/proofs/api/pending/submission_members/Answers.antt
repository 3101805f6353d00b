use Rattle.std.proofs.Common.{ap}
use Rattle.serde_json.specs.View.{members_view}
use Rattle.pid_http.proofs.api.pending.submission_members.Goals as goal

pub returns : goal.returns
returns c =
    let m1 = c.with_text-members.ensures _ _ (ap members_view c.new.ensures.empty) c.as_str.ensures.text in
    let m2 = c.with_proposal-members.ensures _ m1 in
    let m3 = c.with_value-members.ensures _ _ m2 c.from.ensures in
    c.with_path.ensures _ m3
