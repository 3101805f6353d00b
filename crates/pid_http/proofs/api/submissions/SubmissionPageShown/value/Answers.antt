use Rattle.std.proofs.Common.{ap, ◌∙◌}
use Rattle.serde_json.specs.View.{members_view}
use Rattle.std.specs.Prelude.{map}
use Rattle.pid_moderation.specs.SubmissionPages.{listed_of}
use Rattle.pid_http.specs.Api.Replying.{rows_data}
use Rattle.pid_http.specs.Api.SubmissionAnswers.{listed_data}
use Rattle.pid_http.proofs.api.submissions.SubmissionPageShown.value.Goals as goal

pub returns : goal.returns
returns c =
    let rows = c.in_ok-submissions.ensures ∙ ap (λ items. rows_data listed_data (map listed_of items)) c.as_slice.ensures.value in
    let m1 = c.with_value-members.ensures _ _ (ap members_view c.new.ensures.empty) c.from.ensures in
    let m2 = c.with_value-members-2.ensures _ _ m1 rows in
    c.object_of.ensures _ m2
