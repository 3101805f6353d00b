use Rattle.pid_http.proofs.api.pending.QueuedShown.value.Goals as goal

pub returns : goal.returns
returns c =
    let m1 = c.with_text-members.ensures _ _ c.submission_members-members.ensures c.as_str.ensures.text in
    let m2 = c.with_now-members.ensures _ m1 in
    let m3 = c.with_value-members.ensures _ _ m2 c.from.ensures in
    c.object_of.ensures _ m3
