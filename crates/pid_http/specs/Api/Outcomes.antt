-- The answers to commands: a status (RFC 9110, section 15), and the outcome as JSON or as the reply
-- line of scripts; and those to requests that come to no call, where a method that is not allowed is
-- answered with those that are (section 15.5.6). Choices of this project.
use Rattle.std.specs.Prelude.{ℕ, true, false, List, codes, Result, Ok, Err, []}
use Rattle.serde_json.specs.Written.{compact_text}
use Rattle.serde_json.specs.Data.{Data, number, unsigned, string, boolean, object, member}
use Rattle.serde_json.specs.Data.{no_members}
use Rattle.pid_lookup.specs.Unanswered.{unanswered_number, unanswered_word, unanswered_line}
use Rattle.pid_lookup.specs.declared.unanswered.Unanswered.{Unanswered}
use Rattle.pid_lookup.specs.declared.unanswered.Unanswered.TheVariants.{NoItem}
use Rattle.pid_moderation.specs.Refusals.{refusal_number, refusal_word}
use Rattle.pid_moderation.specs.ReplyLines.{outcome_line}
use Rattle.pid_moderation.specs.declared.command.Reply.{Reply}
use Rattle.pid_moderation.specs.declared.command.Reply.TheVariants.{Done, Numbered, Counts}
use Rattle.pid_moderation.specs.declared.refusal.FileFault.TheVariants.{Line, TooMany}
use Rattle.pid_moderation.specs.declared.refusal.Refusal.{Refusal}
use Rattle.pid_http_stream.specs.Replies.{Answer, answer_with}
use Rattle.pid_http_stream.specs.StreamFaults.{refusal_data}
use Rattle.pid_http_stream.specs.declared.reply_head.Content.TheVariants.{Json, AllowGet, AllowPost}
use Rattle.pid_http_stream.specs.declared.reply_head.Content.TheVariants.{AllowBoth}
use Rattle.pid_http.specs.Api.Replying.{answer_in}
use Rattle.pid_http.specs.declared.api.format.Format.{Format}
use Rattle.pid_http.specs.declared.api.early.RefusedEarly.{RefusedEarly}
use Rattle.pid_ident.specs.LineKinds as line_kinds
use Rattle.pid_http.specs.declared.api.format.Format.TheVariants as formats
use Rattle.pid_moderation.specs.declared.refusal.Refusal.TheVariants as refusals
use Rattle.pid_http.specs.declared.api.early.RefusedEarly.TheVariants as early

-- ill-formed; not allowed to this account; not there; against how things stand; a faulty file;
-- full, or failed
abbrev pub status_of_refusal : Refusal → ℕ
status_of_refusal refusals.BadPath = 400
status_of_refusal refusals.BadName = 400
status_of_refusal refusals.BadText = 400
status_of_refusal refusals.NoAccount = 403
status_of_refusal refusals.RankTooLow = 403
status_of_refusal refusals.NoSubmission = 404
status_of_refusal refusals.NotPending = 409
status_of_refusal refusals.NotAuthor = 403
status_of_refusal refusals.OwnDecision = 403
status_of_refusal refusals.ParentMissing = 409
status_of_refusal refusals.HasChildren = 409
status_of_refusal refusals.NothingToDo = 409
status_of_refusal (refusals.FileFault fault) = 422
status_of_refusal refusals.Full = 503
status_of_refusal refusals.Memory = 503
status_of_refusal refusals.Store = 503
status_of_refusal refusals.Failed = 503
status_of_refusal refusals.Changed = 409

-- an accepted command is 200 OK
abbrev pub status_of_outcome : Result Reply Refusal → ℕ
status_of_outcome (Ok reply) = 200
status_of_outcome (Err refusal) = status_of_refusal refusal

-- {"kind":7,"line":3,"ok":false,"refused":14,"word":"FileFault"}
abbrev pub fault_data : ℕ → ℕ → Data
fault_data line kind =
    object (member (codes "kind") (number (unsigned kind))
    (member (codes "line") (number (unsigned line)) (member (codes "ok") (boolean false)
    (member (codes "refused") (number (unsigned 14))
    (member (codes "word") (string (codes "FileFault")) no_members)))))

-- what was answered, or why it was refused: {"ok":true}; {"num":1,"ok":true};
-- {"added":1,"ok":true,"renamed":0,"same":0}. A fault of the file has its line and its kind; too many
-- entries have none.
abbrev pub outcome_data : Result Reply Refusal → Data
outcome_data (Ok Done) = object (member (codes "ok") (boolean true) no_members)
outcome_data (Ok (Numbered n)) = object (member (codes "num") (number (unsigned n))
    (member (codes "ok") (boolean true) no_members))
outcome_data (Ok (Counts added renamed same)) =
    object (member (codes "added") (number (unsigned added)) (member (codes "ok") (boolean true)
    (member (codes "renamed") (number (unsigned renamed))
    (member (codes "same") (number (unsigned same)) no_members))))
outcome_data (Err (refusals.FileFault (Line line kind))) = fault_data line
    (line_kinds.number_of kind)
outcome_data (Err (refusals.FileFault TooMany)) = fault_data 0 0
outcome_data (Err refusal) = refusal_data (refusal_number refusal) (refusal_word refusal)

-- the answer to a command
abbrev pub outcome_answer : Format → Result Reply Refusal → Answer
outcome_answer format outcome = answer_in format (status_of_outcome outcome) (outcome_data outcome)
    (outcome_line outcome)

-- the answer with a refusal that is none of a command, as JSON
abbrev pub refused_answer : ℕ → ℕ → List ℕ → Answer
refused_answer status n word = answer_with status Json (compact_text (refusal_data n word))

-- {"ok":false,"refused":25,"word":"NoItem"}
abbrev pub unanswered_data : Unanswered → Data
unanswered_data why = refusal_data (unanswered_number why) (unanswered_word why)

-- the answer to a question that has none
abbrev pub unanswered_answer : ℕ → Unanswered → Answer
unanswered_answer status why = refused_answer status (unanswered_number why) (unanswered_word why)

-- the answer if no item is at a path
abbrev pub missing_answer : Format → Answer
missing_answer format = answer_in format 404 (unanswered_data NoItem) (unanswered_line NoItem)

-- the methods of the route; or the refusal
abbrev pub early_answer : RefusedEarly → Answer
early_answer early.AnotherMethod = answer_with 405 AllowBoth []
early_answer early.WantsGet = answer_with 405 AllowGet []
early_answer early.WantsPost = answer_with 405 AllowPost []
early_answer early.BadTarget = refused_answer 400 28 (codes "BadTarget")
early_answer early.NoRoute = refused_answer 404 24 (codes "NoRoute")
early_answer early.BadQuery = outcome_answer formats.Json (Err refusals.BadText)
early_answer (early.BadValue refusal format) = outcome_answer format (Err refusal)
