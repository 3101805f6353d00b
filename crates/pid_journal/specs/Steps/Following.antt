-- Lines of a journal, obeyed by a registry.
use Rattle.std.specs.Prelude.{◌⊎◌, ℕ, List, Result, MatchResult}
use Rattle.pid_file.specs.WholeLines.{whole_lines}
use Rattle.pid_moderation.specs.History.{History}
use Rattle.pid_moderation.specs.declared.refusal.Refusal.{Refusal}
use Rattle.pid_script.specs.Replies.{history_after}
use Rattle.pid_service_laws.specs.Registries.{Showing}
use Rattle.pid_journal.specs.Openings.{StopsAtOne}
use Rattle.pid_journal.specs.Steps.Notes.{after_line}
use Rattle.pid_journal.specs.Steps.Ways.{IsAlong}

module _ {R : Type 0} (w : Showing R) where
  -- a fault at a line: the history before it or the one after it, or failed between the two
  abbrev pub FaultsAtLine : R → History → List ℕ → Type 0
  FaultsAtLine new h line = w.shows new h
      ⊎ (w.shows new (after_line h line) ⊎ w.fails_between new h (after_line h line))

  abbrev pub FollowsLine : {X : Type 0} → R → R → List ℕ → Result X Refusal → Type 0
  FollowsLine old new line result = w.is_clean new → (h : History) → w.shows old h
      → MatchResult result (λ x. w.shows new (after_line h line)) (λ e. FaultsAtLine new h line)

  abbrev pub FollowsLines : {X : Type 0} → R → R → List ℕ → Result X Refusal → Type 0
  FollowsLines old new text result = w.is_clean new → (h : History) → w.shows old h
      → MatchResult result (λ x. w.shows new (history_after h (whole_lines text)))
      (λ e. StopsAtOne w (IsAlong h (whole_lines text)) new)
