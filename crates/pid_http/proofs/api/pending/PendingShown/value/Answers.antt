use Rattle.pid_http.proofs.api.pending.PendingShown.value.Goals as goal

pub returns : goal.returns
returns c =
    c.object_of.ensures _ c.submission_members-members.ensures
