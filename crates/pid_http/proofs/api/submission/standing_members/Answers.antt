use Rattle.pid_http.proofs.api.submission.standing_members.Goals as goal

pub returns : goal.returns
returns c =
    let m1 = c.with_text-members.ensures _ _ c.submission_members-members.ensures c.decider.ensures in
    let m2 = c.with_text-members-2.ensures _ _ m1 c.as_str.ensures.text in
    c.with_text.ensures _ _ m2 c.reason.ensures
