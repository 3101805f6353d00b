-- The way along which the lines of a text lead.
use Rattle.std.specs.Prelude.{◌≡◌, ℕ, Bool, List, ◌++◌}
use Rattle.pid_moderation.specs.History.{History}
use Rattle.pid_script.specs.Replies.{history_after}
use Rattle.pid_journal.specs.Journals.{AreTrue, AreSegments, lines_in}

-- It is the history after some of the first lines.
pub record IsAlong (start : History) (lines : List (List ℕ)) (h : History) : Type 0 where
  pub before : List (List ℕ)
  pub later : List (List ℕ)
  pub parts : lines ≡ before ++ later
  pub so_far : history_after start before ≡ h

-- The history is one on the way along which the lines lead: the one after some of the first ones.
pub record IsOnWay (start : History) (noted : Bool) (lines : List (List ℕ)) (h : History) : Type 0 where
  pub told : AreTrue start noted lines
  pub before : List (List ℕ)
  pub later : List (List ℕ)
  pub parts : lines ≡ before ++ later
  pub so_far : history_after start before ≡ h

-- The same along which segments lead.
pub record IsInSegments (text : ℕ → List ℕ) (start : History) (names : List ℕ) (h : History) : Type 0 where
  pub told : AreSegments text start names
  pub before : List (List ℕ)
  pub later : List (List ℕ)
  pub parts : lines_in text names ≡ before ++ later
  pub so_far : history_after start before ≡ h
