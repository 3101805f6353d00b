use Rattle.std.proofs.Common.{◌≡◌, ℕ, Some, None, Option, refl, sym, ap, ◌∙◌}
use Rattle.std.specs.Option.{option_map}
use Rattle.pid_moderation.specs.declared.facts.NamedSubmission.{NamedSubmission}
use Rattle.pid_moderation.specs.FactsOfViews.{named as named_in}
use Rattle.pid_moderation.specs.Submissions.{Standing, standing_in, standing_of}
use Rattle.pid_moderation.specs.Views.{Views, Submitted, submission_at}
use Rattle.pid_tables.proofs.tables.Tables.submission_facts.Goals as goal

pub returns-in-Err : goal.returns-in-Err
returns-in-Err g c = record { rests = c.standing.ensures.rests; told = λ clean v rest. c.in-Err.ensures.told clean v rest }

-- a submission as it stands
abbrev as_named : Option Standing → Option NamedSubmission
as_named = option_map (λ (s : Standing). record { author = s.submitted.author; path = s.submitted.path; proposal = s.submitted.proposal; state = s.state })

named_as : (v : Views) (n : ℕ) → as_named (standing_in v n) ≡ named_in v n
named_as v n = go (submission_at n v.submits)
  where
    go : (o : Option Submitted) → as_named (option_map (λ (s : Submitted). record { submitted = s; state = v.state n }) o)
        ≡ option_map (λ (s : Submitted). record { author = s.author; path = s.path; proposal = s.proposal; state = v.state n }) o
    go None = refl
    go (Some s) = refl

pub returns-in-Ok-None : goal.returns-in-Ok-None
returns-in-Ok-None g c = record {
  rests = c.standing.ensures.rests;
  told = λ clean v rest. ap as_named (sym (ap (option_map standing_of) c.in-Ok-None.field-0-is) ∙ c.in-Ok-None.ensures.told clean v rest) ∙ named_as v c.args.number;
}

pub returns-in-Ok-Some : goal.returns-in-Ok-Some
returns-in-Ok-Some g c = record {
  rests = c.standing.ensures.rests;
  told = λ clean v rest. ap as_named (sym (ap (option_map standing_of) c.in-Ok-Some.field-0-is) ∙ c.in-Ok-Some.ensures.told clean v rest) ∙ named_as v c.args.number;
}
