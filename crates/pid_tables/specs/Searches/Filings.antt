-- The paths and the authors of submissions.
use Rattle.std.specs.Prelude.{ℕ, List, map}
use Rattle.pid_ident.specs.PathTexts.{path_text}
use Rattle.pid_moderation.specs.Views.{Views, Submitted}

-- the text of its path, and its author
abbrev pub filed_as : Submitted → List ℕ × List ℕ
filed_as s = (path_text s.path, s.author)

-- those of all submissions, in the order of their numbers
abbrev pub filings_in : Views → List (List ℕ × List ℕ)
filings_in v = map filed_as v.submits
