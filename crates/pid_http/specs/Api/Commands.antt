-- The command that a request makes: its sender's, by the form in its body. Choices of this project.
use Rattle.std.specs.Prelude.{ℕ, not, List, ◌∷◌, Option, Some, None, Result, Ok, Err}
use Rattle.std.specs.Str.{is_utf8}
use Rattle.pid_form.specs.FormFields.{fields_in}
use Rattle.pid_moderation.specs.CheckTables.{first_failing}
use Rattle.pid_moderation.specs.Forms.{form_checks, command_said}
use Rattle.pid_moderation.specs.declared.command.Command.{Command}
use Rattle.pid_moderation.specs.declared.refusal.Refusal.{Refusal}
use Rattle.pid_moderation.specs.declared.refusal.Refusal.TheVariants.{BadText}
use Rattle.pid_moderation.specs.declared.verb.Verb.{Verb}
use Rattle.pid_http.specs.Api.Senders.{Sending}

-- a refusal if there is one, else the command that was said
abbrev pub unless_refused : Option Refusal → Option Command → Result Command Refusal
unless_refused (Some refusal) said = Err refusal
unless_refused None None = Err BadText
unless_refused None (Some command) = Ok command

-- the command of a sender, or the first check that fails: the body is text, and then those of its
-- form
unfoldable pub command_made : Verb → Sending → List ℕ → Result Command Refusal
command_made verb s body = unless_refused
    (first_failing ((not (is_utf8 body), BadText)
    ∷ form_checks verb s.account s.key (fields_in body)))
    (command_said verb s.account s.key (fields_in body))
