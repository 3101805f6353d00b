-- The answer to a look-up: the text that libpci's `pci_lookup_name` returns, byte for byte. Its
-- refusals are choices of this project.
use Rattle.std.specs.Prelude.{Result, Ok, Err}
use Rattle.pid_lookup.specs.declared.answer.Answer.{Answer as Found}
use Rattle.pid_lookup.specs.declared.answer.Answer.TheVariants.{Text, NoAnswer}
use Rattle.pid_lookup.specs.declared.answering.LookupRefusal.{LookupRefusal}
use Rattle.pid_lookup.specs.declared.answering.LookupRefusal.TheVariants.{BadFlags, Names, Memory}
use Rattle.pid_lookup.specs.declared.unanswered.Unanswered.TheVariants as whys
use Rattle.pid_moderation.specs.declared.refusal.Refusal.{Refusal}
use Rattle.pid_moderation.specs.declared.refusal.Refusal.TheVariants as refusals
use Rattle.pid_http_stream.specs.Replies.{Answer, answer_with}
use Rattle.pid_http_stream.specs.declared.reply_head.Content.TheVariants.{Bytes}
use Rattle.pid_http.specs.Api.Outcomes.{unanswered_answer, outcome_answer}
use Rattle.pid_http.specs.declared.api.format.Format.TheVariants as formats

-- the text, with nothing after it; if there is none, why not
abbrev pub lookup_answer : Result Found (LookupRefusal Refusal) → Answer
lookup_answer (Ok (Text text)) = answer_with 200 Bytes text
lookup_answer (Ok NoAnswer) = unanswered_answer 404 whys.NoAnswer
lookup_answer (Err BadFlags) = unanswered_answer 400 whys.BadFlags
lookup_answer (Err (Names refusal)) = outcome_answer formats.Json (Err refusal)
lookup_answer (Err Memory) = outcome_answer formats.Json (Err refusals.Memory)
