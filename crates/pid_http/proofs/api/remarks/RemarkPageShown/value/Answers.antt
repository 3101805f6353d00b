use Rattle.std.proofs.Common.{ap, ◌∙◌}
use Rattle.std.specs.Prelude.{map}
use Rattle.pid_moderation.specs.RemarkPages.{placed_of}
use Rattle.pid_http.specs.Api.Replying.{rows_data}
use Rattle.pid_http.specs.Api.SubmissionAnswers.{placed_data}
use Rattle.pid_http.proofs.api.remarks.RemarkPageShown.value.Goals as goal

pub returns : goal.returns
returns c =
    let rows = c.in_ok-remarks.ensures ∙ ap (λ items. rows_data placed_data (map placed_of items)) c.as_slice.ensures.value in
    let m1 = c.with_value-members.ensures _ _ c.standing_members-members.ensures c.from.ensures in
    let m2 = c.with_value-members-2.ensures _ _ m1 rows in
    let m3 = c.with_text-members.ensures _ _ m2 c.state_name.ensures in
    c.object_of.ensures _ m3
