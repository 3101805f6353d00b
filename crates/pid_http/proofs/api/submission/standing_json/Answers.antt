use Rattle.std.proofs.Common.{◌≡◌, string_bytes, rules, ◌∙◌}
use Rattle.std.specs.String.{string_len}
use Rattle.serde_json.specs.Data.{no_members, object}
use Rattle.serde_json.specs.Written.{compact_text}
use Rattle.pid_moderation.specs.Submissions.{standing_of}
use Rattle.pid_http.proofs.OfApi.Floats.{standing_has_none}
use Rattle.pid_http.specs.Api.SubmissionAnswers.{standing_members}
use Rattle.pid_http.proofs.OfApi.ObjectTexts.{popped}
use Rattle.pid_http.proofs.api.submission.standing_json.Goals as goal

pub returns : goal.returns
returns c =
    let printed : string_bytes c.in_ok-text.text ≡ compact_text (object (standing_members c.args.number (standing_of c.args.submission.now) no_members)) =
    c.in_ok-text.ensures _ (c.in_ok-value.ensures _ c.standing_members.ensures) (standing_has_none c.args.number (standing_of c.args.submission.now)) in
    popped (string_len c.in_ok-text.text) _ _ (standing_members c.args.number (standing_of c.args.submission.now) no_members) (search rules) printed c.pop.ensures.ascii_bytes ∙ printed
