-- What a request comes to: an answer that is known without the registry, or something that it is
-- asked for; and the answers over a history. Choices of this project.
use Rattle.std.specs.Prelude.{ℕ, List, Option, Some, None, Result, Ok, Err, ◌≡◌, if◌then◌else◌}
use Rattle.pid_moderation.specs.Files.{asks, file_reading}
use Rattle.pid_moderation.specs.BeforeFile.{import_of}
use Rattle.pid_moderation.specs.History.{Asked, History}
use Rattle.pid_moderation.specs.declared.command.Command.{Command}
use Rattle.pid_moderation.specs.declared.refusal.Refusal.{Refusal}
use Rattle.pid_moderation.specs.declared.refusal.Refusal.TheVariants.{BadText, NoSubmission, Memory}
use Rattle.pid_http_stream.specs.Replies.{Answer, answer_with}
use Rattle.pid_http_stream.specs.Requests.{Request, fields_of}
use Rattle.pid_http_stream.specs.declared.handler.Wanted.TheVariants.{Buffered, Streamed}
use Rattle.pid_http.specs.Api.Commands.{command_made}
use Rattle.pid_http.specs.Api.Questions.{Asking, question}
use Rattle.pid_http.specs.Api.Senders.{Sending, sender}
use Rattle.pid_http.specs.declared.api.format.Format.{Format}
use Rattle.pid_http.specs.declared.api.format.Format.TheVariants.{Json}
use Rattle.pid_http.specs.declared.api.question.Question.{Question}
use Rattle.pid_http.specs.declared.api.request.Request.{Request as Wants}
use Rattle.pid_http.specs.Api.Outcomes.{early_answer, outcome_answer, missing_answer}
use Rattle.std.specs.Option.{option_map, option_map_or}
use Rattle.pid_ident.specs.PathTexts.{path_text}
use Rattle.pid_file.specs.declared.path.Path.{Path}
use Rattle.pid_lookup.specs.Answers.{answer_of}
use Rattle.pid_lookup.specs.Flags.{is_bad}
use Rattle.pid_moderation.specs.Items.{Items, name_at}
use Rattle.pid_moderation.specs.Judgement.{answer, judge}
use Rattle.pid_moderation.specs.Views.{items_of, rank_of, views_of}
use Rattle.pid_moderation.specs.Writes.{tree_of}
use Rattle.pid_moderation.specs.Submissions.{discussion_in}
use Rattle.pid_moderation.specs.ChangePages.{changes_in, start_text}
use Rattle.pid_moderation.specs.Children.{children_of}
use Rattle.pid_moderation.specs.PendingPages.{pending_in}
use Rattle.pid_moderation.specs.QueuePages.{queue_in}
use Rattle.pid_moderation.specs.RegistryStatus.{status_of_registry}
use Rattle.pid_moderation.specs.RemarkPages.{remark_page_in}
use Rattle.pid_service_laws.specs.Searching.{sought_page}
use Rattle.pid_moderation.specs.declared.lists.TheConstants.{PAGE}
use Rattle.pid_file.specs.Printing.{print}
use Rattle.pid_http_stream.specs.declared.reply_head.Content.TheVariants.{Text}
use Rattle.pid_http.specs.Api.ItemAnswers.{changes_data, changes_text, item_answer, item_data}
use Rattle.pid_http.specs.Api.ItemAnswers.{child_line}
use Rattle.pid_http.specs.Api.LookupAnswers.{lookup_answer}
use Rattle.pid_http.specs.Api.SubmissionAnswers.{pending_data, pending_line, queued_data}
use Rattle.pid_http.specs.Api.SubmissionAnswers.{queued_line, remarks_data, remarks_text}
use Rattle.pid_http.specs.Api.SubmissionAnswers.{submission_answer, submissions_data}
use Rattle.pid_http.specs.Api.SubmissionAnswers.{submissions_text}
use Rattle.pid_http.specs.Api.Replying.{list_answer, shown_answer}
use Rattle.pid_http.specs.Api.RankAnswers.{rank_answer}
use Rattle.pid_http.specs.Api.StatusAnswers.{status_data, status_text}
use Rattle.pid_http.specs.declared.api.question.Question.TheVariants as questions
use Rattle.pid_http.specs.declared.api.route_table.Pages.TheVariants as pages
use Rattle.pid_http.specs.declared.api.route_table.Whole.TheVariants as wholes
use Rattle.pid_http.specs.declared.api.request.Request.TheVariants as wants
use Rattle.pid_lookup.specs.declared.answering.LookupRefusal.TheVariants as lookups

pub data RequestMeaning : Type 0 where
  -- nothing is asked of the registry: this is the answer
  Answered : Answer → RequestMeaning
  -- nor here: the sender or the form of a command is refused
  Denied : Refusal → Format → RequestMeaning
  -- a command
  Obeys : Asked → Format → RequestMeaning
  -- a question
  Asks : Question → Format → RequestMeaning

-- the command that the registry is to obey, if it is one
abbrev pub command_sent : RequestMeaning → Option Asked
command_sent (Obeys command format) = Some command
command_sent meaning = None

-- the format in which it is refused: a look-up has none, and is refused in JSON
abbrev pub format_of : RequestMeaning → Format
format_of (Answered given) = Json
format_of (Denied refusal format) = format
format_of (Obeys command format) = format
format_of (Asks (questions.Lookup flags args size) format) = Json
format_of (Asks question format) = format

-- the answer that is known without the registry; none if that is asked
abbrev pub known_answer : RequestMeaning → Option Answer
known_answer (Answered given) = Some given
known_answer (Denied refusal format) = Some (outcome_answer format (Err refusal))
known_answer meaning = None

-- a command, or the first check that it fails
abbrev pub command_meaning : Format → Result Command Refusal → RequestMeaning
command_meaning format (Ok command) = Obeys (asks command) format
command_meaning format (Err refusal) = Denied refusal format

-- an import of a sender with this file
abbrev pub import_meaning : Format → Option Sending → List ℕ → RequestMeaning
import_meaning format None file = Denied BadText format
import_meaning format (Some s) file = Obeys (import_of s.account s.key (file_reading file)) format

-- the sender is judged before the body
abbrev pub sent : Format → (Sending → Result Command Refusal) → Option Sending → RequestMeaning
sent format command None = Denied BadText format
sent format command (Some s) = command_meaning format (command s)

-- what a request comes to whose body is in memory: commands alone have a sender
abbrev pub meaning_for : Wants → Option Sending → List ℕ → RequestMeaning
meaning_for (wants.Refused early) s body = Answered (early_answer early)
meaning_for (wants.Asks question format) s body = Asks question format
meaning_for (wants.Obeys verb format) s body = sent format
    (λ sending. command_made verb sending body) s

-- what a head and the body after it come to
abbrev pub meaning_asked : Asking → Option Sending → List ℕ → RequestMeaning
meaning_asked (Buffered asked) s body = meaning_for asked s body
meaning_asked (Streamed format) s body = import_meaning format s body

-- what a request comes to
unfoldable pub meaning_of : Request → RequestMeaning
meaning_of request = meaning_asked (question request.head.method request.head.target)
    (sender (fields_of request.head)) request.body

-- the items right below a path, if one is at that; without a path those at the top
abbrev pub children_below : Option Path → Items → Option Items
children_below None items = Some (children_of None items)
children_below (Some path) items = option_map (λ name. children_of (Some (path_text path)) items)
    (name_at (path_text path) items)

-- the answer to a question over a history
abbrev pub answer_to : History → Question → Format → Answer
answer_to h (questions.Whole wholes.Export) format = answer_with 200 Text (print (tree_of h))
answer_to h (questions.Whole wholes.Status) format = shown_answer status_data status_text format
    (status_of_registry h)
answer_to h (questions.Read path) format = option_map_or
    (λ name. item_answer format (path_text path, name)) (name_at (path_text path) (items_of h))
    (missing_answer format)
answer_to h (questions.Children above) format = option_map_or
    (list_answer item_data child_line format) (children_below above (items_of h))
    (missing_answer format)
answer_to h (questions.Lookup flags args size) format = lookup_answer (if is_bad flags
    then Err lookups.BadFlags else Ok (answer_of (tree_of h) flags args size))
answer_to h (questions.Submission number) format = option_map_or (submission_answer format number)
    (discussion_in (views_of h) number) (outcome_answer format (Err NoSubmission))
answer_to h (questions.Remarks number after) format = option_map_or
    (shown_answer remarks_data remarks_text format)
    (remark_page_in PAGE number after (views_of h)) (outcome_answer format (Err NoSubmission))
answer_to h (questions.Pages pages.Pending after) format = list_answer pending_data pending_line
    format (pending_in PAGE after (views_of h))
answer_to h (questions.Changes since after) format = shown_answer changes_data changes_text
    format
    (changes_in PAGE since (start_text after) (views_of h))
answer_to h (questions.Pages pages.Queue after) format = list_answer queued_data queued_line format
    (queue_in PAGE after (views_of h))
answer_to h (questions.Submissions path author before) format = shown_answer
    submissions_data submissions_text format
    (sought_page (record { path = path; author = author; before = before })
    (views_of h))
answer_to h (questions.Rank who) format = rank_answer format who (rank_of who h)

-- the answer over a history
unfoldable pub answer_over : History → RequestMeaning → Answer
answer_over h (Answered given) = given
answer_over h (Denied refusal format) = outcome_answer format (Err refusal)
answer_over h (Obeys command format) = outcome_answer format (answer (judge (views_of h) command))
answer_over h (Asks question format) = answer_to h question format

-- the registry was asked, and refused it for this reason
abbrev pub IsMeaningRefused : RequestMeaning → Refusal → Answer → Type 0
IsMeaningRefused meaning refusal given = (known_answer meaning ≡ None)
    × (given ≡ outcome_answer (format_of meaning) (Err refusal))

-- Memory ran out for a command's sender or form, before the registry was asked.
abbrev pub LacksForm : RequestMeaning → Answer → Type 0
LacksForm (Denied refusal format) given = given ≡ outcome_answer format (Err Memory)
LacksForm (Obeys command format) given = given ≡ outcome_answer format (Err Memory)
LacksForm meaning given = ⊥
