use Rattle.pid_http.proofs.api.submissions.ListedShown.value.Goals as goal

pub returns : goal.returns
returns c =
    let m1 = c.with_text-members.ensures _ _ c.submission_members-members.ensures c.decider.ensures in
    let m2 = c.with_text-members-2.ensures _ _ m1 c.reason.ensures in
    let m3 = c.with_value-members.ensures _ _ m2 c.from.ensures in
    let m4 = c.with_text-members-3.ensures _ _ m3 c.state_name.ensures in
    c.object_of.ensures _ m4
