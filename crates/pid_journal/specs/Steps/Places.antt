-- Where in a journal a registry stands.
use Rattle.std.specs.Prelude.{◌≡◌, ◌<◌, ◌≤◌, ℕ, true, false, List, [], ◌∷◌, ◌++◌, Some, None}
use Rattle.std.specs.Prelude.{Result, MatchResult}
use Rattle.pid_file.specs.WholeLines.{ended_pieces, open_part, whole_lines}
use Rattle.pid_moderation.specs.History.{History}
use Rattle.pid_moderation.specs.Revisions.{IsMarked}
use Rattle.pid_moderation.specs.Views.{revision_of}
use Rattle.pid_script.specs.Replies.{history_after}
use Rattle.pid_script.specs.ScriptLines.{is_idle_line}
use Rattle.pid_journal.specs.declared.counts.Counts.{Counts}
use Rattle.pid_journal.specs.declared.open_fault.OpenFault.{OpenFault}
use Rattle.pid_journal.specs.declared.placing.Place.{Place}
use Rattle.pid_journal.specs.declared.placing.LineCounts.{LineCounts}
use Rattle.pid_journal.specs.declared.placing.LineCounts.TheVariants.{Holds, Nothing, Other}
use Rattle.pid_journal.specs.declared.placing.Step.{Step}
use Rattle.pid_journal.specs.declared.placing.Step.TheVariants.{Here, Behind, Nowhere, Unnoted}
use Rattle.pid_journal.specs.Journals.{counts_held, counts_said}
use Rattle.pid_journal.specs.Steps.Notes.{after_line}
use Rattle.pid_journal.specs.Steps.Ways.{IsOnWay}
use Rattle.pid_journal.specs.Steps.Faults.{IsRefused}

-- the text ends so, after whole lines
pub record IsEndOf (text rest : List ℕ) : Type 0 where
  pub front : List ℕ
  pub parts : text ≡ front ++ rest
  pub whole : open_part front ≡ []

-- the same, and no line more is whole
pub record IsOpenEnd (text rest : List ℕ) : Type 0 where
  pub end : IsEndOf text rest
  pub torn : ended_pieces rest ≡ []

-- a line says this
abbrev pub IsSaid : List ℕ → LineCounts → Type 0
IsSaid line (Holds counts) = counts_said line ≡ Some counts
IsSaid line Nothing = (counts_said line ≡ None) × (is_idle_line line ≡ true)
IsSaid line Other = is_idle_line line ≡ false

-- From the history so far the lines to come lead over the one that the registry shows.
pub record IsPlaced (shown h : History) (place : Place) (lines : List (List ℕ)) : Type 0 where
  pub marked : IsMarked h
  pub way : IsOnWay h place.noted lines shown
  pub most : revision_of h ≤ place.most
  pub older : place.noted ≡ true → place.most < revision_of shown

abbrev pub LeadsToPlace : Step → (shown h : History) → List ℕ → List (List ℕ) → Type 0
LeadsToPlace Here shown h line lines = after_line h line ≡ shown
LeadsToPlace (Behind place) shown h line lines = IsPlaced shown (after_line h line) place lines
LeadsToPlace Nowhere shown h line lines = ⊥
LeadsToPlace Unnoted shown h line lines = Unit {0}

abbrev pub IsNextPlace : LineCounts → Counts → Place → Step → Type 0
IsNextPlace said now place step = (shown h : History) (line : List ℕ) (lines : List (List ℕ))
    → counts_held shown ≡ now → IsSaid line said → IsPlaced shown h place (line ∷ lines)
    → LeadsToPlace step shown h line lines

-- Some first lines of the text lead to the history shown, and the others are those of the rest.
pub record IsAt (start shown : History) (text rest : List ℕ) : Type 0 where
  pub far : List (List ℕ)
  pub parts : whole_lines text ≡ far ++ whole_lines rest
  pub so_far : history_after start far ≡ shown

abbrev pub FindsPlace : {X : Type 0} → List ℕ → Counts → ℕ → Result X OpenFault → (X → List ℕ)
    → Type 0
FindsPlace text now begin result rest_of = (start shown : History) → IsMarked start
    → revision_of start ≡ begin → counts_held shown ≡ now
    → IsOnWay start false (whole_lines text) shown
    → MatchResult result (λ x. IsAt start shown text (rest_of x)) IsRefused
