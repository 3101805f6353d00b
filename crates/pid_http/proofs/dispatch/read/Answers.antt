use Rattle.std.proofs.Common.{◌≡◌, ℕ, List, Option, refl}
use Rattle.std.specs.Option.{option_map_or}
use Rattle.pid_ident.specs.PathTexts.{path_text}
use Rattle.pid_file.specs.declared.path.Path.{Path}
use Rattle.pid_moderation.specs.Items.{name_at}
use Rattle.pid_moderation.specs.Views.{items_of}
use Rattle.pid_http_stream.specs.Replies.{Answer}
use Rattle.pid_http.specs.Api.ItemAnswers.{item_answer}
use Rattle.pid_http.specs.Api.Outcomes.{missing_answer}
use Rattle.pid_http.specs.declared.api.format.Format.{Format}
use Rattle.pid_http.specs.Answering.{Asks}
use Rattle.pid_http.specs.declared.api.question.Question.TheVariants as questions
use Rattle.pid_http.proofs.Meeting.{IsQuestion, question_met, replied, shows}
use Rattle.pid_http.proofs.dispatch.read.Goals as goal

abbrev item_or_missing : Path → Format → Option (List ℕ) → Answer
item_or_missing path format name = option_map_or (λ (n : List ℕ). item_answer format (path_text path, n)) name (missing_answer format)

question : (path : Path) (format : Format) → IsQuestion format (item_or_missing path format) (λ h name. name ≡ name_at (path_text path) (items_of h)) (Asks (questions.Read path) format)
question path format = shows format (item_or_missing path format) (λ name. name) (λ h. name_at (path_text path) (items_of h)) (questions.Read path) (λ h. refl) refl

pub returns-in-Ok-Some : goal.returns-in-Ok-Some
returns-in-Ok-Some g c =
    replied _ _ _ _ _ _ c.item_reply.ensures (question_met _ g.met.R.RegistryCalls.lives _ _ _ _ _ _ _ (question c.args.path c.args.format) (rw c.in-Ok-Some.field-0-is at c.in-Ok-Some.ensures))

pub returns-in-Ok-None : goal.returns-in-Ok-None
returns-in-Ok-None g c =
    replied _ _ _ _ _ _ c.missing_reply.ensures (question_met _ g.met.R.RegistryCalls.lives _ _ _ _ _ _ _ (question c.args.path c.args.format) (rw c.in-Ok-None.field-0-is at c.in-Ok-None.ensures))

pub returns-in-Err : goal.returns-in-Err
returns-in-Err g c =
    replied _ _ _ _ _ _ c.refusal_reply.ensures (question_met _ g.met.R.RegistryCalls.lives _ _ _ _ _ _ _ (question c.args.path c.args.format) c.in-Err.ensures)
