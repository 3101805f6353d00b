-- What is kept of a text of which some chunks have come. Callers need not open it.
use Rattle.std.specs.Prelude.{◌≡◌, ℕ, List, reverse, None}
use Rattle.pid_file.specs.declared.open_text.OpenText.{OpenText}
use Rattle.pid_file.specs.Reading.{refusal_of}
use Rattle.pid_file.specs.LinesRead.{Shows}
use Rattle.pid_file.specs.WholeLines.{open_part, whole_lines}

-- these bytes came, none of their whole lines was refused, and what is kept of the lines shows them
pub record IsLeftOpen (t : OpenText) (text : List ℕ) : Type 0 where
  pub open_line : t.line.items ≡ open_part text
  pub good : refusal_of (whole_lines text) ≡ None
  pub shown : Shows t.progress (reverse (whole_lines text))
