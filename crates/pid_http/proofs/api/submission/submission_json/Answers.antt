use Rattle.std.proofs.Common.{◌≡◌, ℕ, List, ◌++◌, codes, true, map, refl, ◌∙◌, ap, append_assoc, string_bytes}
use Rattle.serde_json.specs.Data.{Members, object, string, member, no_members}
use Rattle.serde_json.specs.Written.{compact_text, members_text}
use Rattle.serde_json.proofs.OnLiterals.{serde_json_on_literals}
use Rattle.pid_moderation.specs.Views.{Remark}
use Rattle.pid_moderation.specs.Submissions.{Standing, remark_of, standing_of}
use Rattle.pid_http.specs.Api.Replying.{rows_data}
use Rattle.pid_http.specs.Api.SubmissionAnswers.{remark_data, standing_members, state_word}
use Rattle.pid_http.specs.Api.SubmissionAnswers.{submission_data}
use Rattle.pid_http.proofs.OfApi.ObjectTexts.{extended}
use Rattle.pid_http.proofs.api.submission.submission_json.Goals as goal

-- what stands behind the other members
last_members : List Remark → Standing → Members
last_members remarks s = member (codes "remarks") (rows_data remark_data remarks) (member (codes "state") (string (state_word s.state)) no_members)

last_text : (remarks : List Remark) (s : Standing)
    → codes ",\"remarks\":" ++ (compact_text (rows_data remark_data remarks) ++ (codes ",\"state\":" ++ (compact_text (string (state_word s.state)) ++ codes "}")))
    ≡ members_text true (last_members remarks s)
unfolding last_members serde_json_on_literals
last_text remarks s = refl

regrouped : (a b c d e f : List ℕ) → a ++ b ++ c ++ d ++ e ++ f ≡ a ++ (b ++ (c ++ (d ++ (e ++ f))))
regrouped a b c d e f = simp append_assoc refl

assembled : (n : ℕ) (s : Standing) (remarks : List Remark) (text : List ℕ) → text ++ codes "}" ≡ compact_text (object (standing_members n s no_members))
    → text ++ codes ",\"remarks\":" ++ compact_text (rows_data remark_data remarks) ++ codes ",\"state\":" ++ compact_text (string (state_word s.state)) ++ codes "}"
    ≡ compact_text (submission_data n (s, remarks))
unfolding last_members
assembled n s remarks text is =
    regrouped text (codes ",\"remarks\":") (compact_text (rows_data remark_data remarks)) (codes ",\"state\":") (compact_text (string (state_word s.state))) (codes "}")
    ∙ (ap (λ t. text ++ t) (last_text remarks s) ∙ extended (standing_members n s no_members) (last_members remarks s) text is)

pub returns : goal.returns
returns c =
    c.in_ok-push_remarks_and_state.ensures
    ∙ assembled c.args.number (standing_of c.args.discussion.now.submission) (map remark_of c.args.discussion.now.remarks.items) (string_bytes c.in_ok-text.text) c.in_ok-text.ensures
