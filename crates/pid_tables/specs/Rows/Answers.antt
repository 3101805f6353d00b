-- The rows that queries by keys answer.
use Rattle.std.specs.Prelude.{[], ◌∷◌}
use Rattle.sqlite.specs.declared.types.Value.TheVariants.{Text}
use Rattle.sqlite.specs.Order.{Row}
use Rattle.pid_ident.specs.PathTexts.{path_text}
use Rattle.pid_tables.specs.Rows.TableRows.{number, form_of, name_of, state_number}
use Rattle.pid_moderation.specs.Submissions.{Standing, decider_of, reason_of}

-- a submission as it stands, without its number
abbrev pub standing_row : Standing → Row
standing_row s = Text s.submitted.author ∷ Text (path_text s.submitted.path)
    ∷ number (form_of s.submitted.proposal) ∷ Text (name_of s.submitted.proposal)
    ∷ Text s.submitted.note ∷ number (state_number s.state)
    ∷ Text (decider_of s.submitted.author s.state) ∷ Text (reason_of s.state) ∷ []
