-- The command that a form makes.
use Rattle.std.proofs.Common.{◌≡◌, ◌≢◌, ℕ, true, false, List, Option, Result, Ok, Err, refl, sym, ap, ◌∙◌}
use Rattle.std.specs.Prelude.{IfOk, IfErr}
use Rattle.std.specs.Str.{is_utf8}
use Rattle.pid_form.specs.FormFields.{fields_in}
use Rattle.pid_moderation.specs.CheckTables.{first_failing}
use Rattle.pid_moderation.specs.Fields.{Fields}
use Rattle.pid_moderation.specs.Forms.{form_checks, command_said, SaysByChecks}
use Rattle.pid_moderation.specs.declared.command.Command.{Command}
use Rattle.pid_moderation.specs.declared.refusal.Refusal.{Refusal}
use Rattle.pid_moderation.specs.declared.refusal.Refusal.TheVariants.{BadText, Memory}
use Rattle.pid_moderation.specs.declared.verb.Verb.{Verb}
use Rattle.pid_http.specs.Api.Commands.{command_made, unless_refused}
use Rattle.pid_http.specs.Api.Senders.{Sending}

-- a body that is no text
pub no_form : (verb : Verb) (s : Sending) (body : List ℕ) → is_utf8 body ≡ false → command_made verb s body ≡ Err BadText
unfolding command_made
no_form verb s body e = rw e refl

made : (verb : Verb) (s : Sending) (body : List ℕ) → is_utf8 body ≡ true → command_made verb s body ≡ unless_refused (first_failing (form_checks verb s.account s.key (fields_in body))) (command_said verb s.account s.key (fields_in body))
unfolding command_made
made verb s body e = rw e refl

pub form_ok : (verb : Verb) (s : Sending) (body : List ℕ) (fields : Fields) (result : Result Command Refusal) → is_utf8 body ≡ true → fields ≡ fields_in body
    → SaysByChecks (form_checks verb s.account s.key fields) (command_said verb s.account s.key fields) result → IfOk result (λ c. command_made verb s body ≡ Ok c)
form_ok verb s body fields (Ok command) text same said =
    made verb s body text ∙ sym (ap (λ (l : Fields). unless_refused (first_failing (form_checks verb s.account s.key l)) (command_said verb s.account s.key l)) same) ∙ (λ i. unless_refused (said.0 i) (said.1 i))
form_ok verb s body fields (Err refusal) text same said = tt

pub form_err : (verb : Verb) (s : Sending) (body : List ℕ) (fields : Fields) (result : Result Command Refusal) → is_utf8 body ≡ true → fields ≡ fields_in body
    → SaysByChecks (form_checks verb s.account s.key fields) (command_said verb s.account s.key fields) result → IfErr result (λ e. e ≢ Memory → command_made verb s body ≡ Err e)
form_err verb s body fields (Ok command) text same said = tt
form_err verb s body fields (Err refusal) text same said = λ never.
    made verb s body text ∙ sym (ap (λ (l : Fields). unless_refused (first_failing (form_checks verb s.account s.key l)) (command_said verb s.account s.key l)) same) ∙ ap (λ (o : Option Refusal). unless_refused o (command_said verb s.account s.key fields)) (said never)
