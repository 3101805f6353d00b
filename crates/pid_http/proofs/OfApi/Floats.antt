-- No answer has a float.
use Rattle.std.proofs.Common.{◌≡◌, false, ℕ, refl, Result, Ok, Err}
use Rattle.serde_json.specs.Data.{no_members}
use Rattle.serde_json.specs.Written.{has_float, members_have_float}
use Rattle.pid_moderation.specs.declared.command.Reply.{Reply}
use Rattle.pid_moderation.specs.declared.command.Reply.TheVariants.{Done, Numbered, Counts}
use Rattle.pid_moderation.specs.declared.refusal.FileFault.TheVariants.{Line, TooMany}
use Rattle.pid_moderation.specs.declared.refusal.Refusal.{Refusal}
use Rattle.pid_moderation.specs.declared.refusal.Refusal.TheVariants.{FileFault}
use Rattle.pid_moderation.specs.Submissions.{Standing}
use Rattle.pid_http.specs.Api.Outcomes.{outcome_data}
use Rattle.pid_http.specs.Api.Steps.NoFloats.{proposed_has_none}
use Rattle.pid_http.specs.Api.SubmissionAnswers.{standing_members}

pub outcome_has_none : (outcome : Result Reply Refusal) → has_float (outcome_data outcome) ≡ false
outcome_has_none (Ok Done) = refl
outcome_has_none (Ok (Numbered n)) = refl
outcome_has_none (Ok (Counts added renamed same)) = refl
outcome_has_none (Err (FileFault (Line line kind))) = refl
outcome_has_none (Err (FileFault TooMany)) = refl
outcome_has_none (Err _) = refl

pub standing_has_none : (n : ℕ) (s : Standing) → members_have_float (standing_members n s no_members) ≡ false
standing_has_none n s = rw (proposed_has_none s.submitted.proposal) refl
