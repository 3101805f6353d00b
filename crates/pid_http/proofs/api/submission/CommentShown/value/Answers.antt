use Rattle.std.proofs.Common.{ap}
use Rattle.serde_json.specs.View.{members_view}
use Rattle.pid_http.proofs.api.submission.CommentShown.value.Goals as goal

pub returns : goal.returns
returns c =
    let m1 = c.with_text-members.ensures _ _ (ap members_view c.new.ensures.empty) c.as_str.ensures.text in
    let m2 = c.with_text-members-2.ensures _ _ m1 c.as_str-2.ensures.text in
    c.object_of.ensures _ m2
