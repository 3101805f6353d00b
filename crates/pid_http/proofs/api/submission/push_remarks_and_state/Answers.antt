use Rattle.std.proofs.Common.{ℕ, List, ◌++◌, codes, map, refl, ap, ◌∙◌, string_bytes}
use Rattle.serde_json.specs.Data.{string}
use Rattle.serde_json.specs.Written.{compact_text}
use Rattle.pid_moderation.specs.Submissions.{remark_of}
use Rattle.pid_http.specs.Api.Replying.{rows_data}
use Rattle.pid_http.specs.Api.SubmissionAnswers.{remark_data, state_word}
use Rattle.pid_http.proofs.api.submission.push_remarks_and_state.Goals as goal

pub returns : goal.returns
returns c =
    let list : List ℕ = compact_text (rows_data remark_data (map remark_of c.args.discussion.now.remarks.items)) in
    let word : List ℕ = compact_text (string (state_word c.args.discussion.now.submission.state)) in
    let listed = c.in_ok-push_rows.ensures ∙ ap (λ items. string_bytes c.push_str.new.self ++ compact_text (rows_data remark_data (map remark_of items))) c.as_slice.ensures.value in
    let stated = c.in_ok-push_value.ensures _ (c.in_ok-state.ensures ∙ ap string c.state_name.ensures) refl in
    c.in_ok-push_str-3.ensures.bytes ∙ ap (λ t. t ++ codes "}") (stated ∙ ap (λ t. t ++ word)
    (c.in_ok-push_str-2.ensures.bytes ∙ ap (λ t. t ++ codes ",\"state\":") (listed ∙ ap (λ t. t ++ list) c.in_ok-push_str.ensures.bytes)))
