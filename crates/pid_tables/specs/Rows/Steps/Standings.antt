-- What a row of a submission reads to.
use Rattle.std.specs.Prelude.{◌≡◌}
use Rattle.sqlite.specs.declared.types.Value.TheVariants.{Text}
use Rattle.sqlite.specs.Order.{Row, column}
use Rattle.pid_ident.specs.PathTexts.{IsPath, path_text}
use Rattle.pid_moderation.specs.declared.lists.Submission.{Submission}
use Rattle.pid_tables.specs.Rows.TableRows.{number, form_of, name_of, state_number}
use Rattle.pid_moderation.specs.Submissions.{decider_of, reason_of}

-- the columns of the row are those of the submission
pub record ReadsTo (row : Row) (s : Submission) : Type 0 where
  pub in_range : IsPath s.path
  pub author : column row 0 ≡ Text s.author
  pub path : column row 1 ≡ Text (path_text s.path)
  pub form : column row 2 ≡ number (form_of s.proposal)
  pub name : column row 3 ≡ Text (name_of s.proposal)
  pub note : column row 4 ≡ Text s.note
  pub state : column row 5 ≡ number (state_number s.state)
  pub decider : column row 6 ≡ Text (decider_of s.author s.state)
  pub reason : column row 7 ≡ Text (reason_of s.state)
