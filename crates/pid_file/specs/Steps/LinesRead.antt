-- What one more line comes to. Serves private functions alone; no promise rests on it.
use Rattle.std.specs.Prelude.{◌≡◌, ℕ, List, [], ◌∷◌, Option, Some, None, Result, MatchResult}
use Rattle.pid_file.specs.declared.entry_line.NamedPath.{NamedPath}
use Rattle.pid_file.specs.declared.lines_read.LinesRead.{LinesRead}
use Rattle.pid_file.specs.declared.refusal.ReadRefusal.{ReadRefusal}
use Rattle.pid_file.specs.PathTexts.{path_text}
use Rattle.pid_file.specs.Numbered.{Numbered, numbered_at}
use Rattle.pid_file.specs.Refusals.{IsRefusal}
use Rattle.pid_file.specs.LinesRead.{Shows}
use Rattle.pid_file.specs.Steps.LineEnds.{refusal_at}

-- the entry that is given, if any
abbrev pub given : Option (ℕ × NamedPath) → List Numbered
given None = []
given (Some e) = (e.0, (path_text e.1.path, e.1.name.now)) ∷ []

-- what is kept shows the line too, which is not refused, and its entry is given; or its refusal, or
-- out of memory
abbrev pub AdmitsLine : LinesRead → List (List ℕ) → List ℕ
    → Result (Option (ℕ × NamedPath)) ReadRefusal → Type 0
AdmitsLine new earlier line result = MatchResult result
    (λ o. Shows new (line ∷ earlier) × (refusal_at earlier line ≡ None)
    × (given o ≡ numbered_at earlier line))
    (λ r. IsRefusal r (refusal_at earlier line))
