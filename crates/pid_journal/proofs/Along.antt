-- What a fault leaves of a registry that obeys lines: a history on the way.
use Rattle.std.proofs.Common.{◌≡◌, inl, inr, ℕ, Bool, List, [], ◌∷◌, ◌++◌, length, take, drop, refl, sym, ap, ◌∙◌, append_assoc, append-nil, take-append-drop, take_at}
use Rattle.pid_file.specs.WholeLines.{whole_lines}
use Rattle.pid_moderation.specs.History.{History}
use Rattle.pid_script.specs.Replies.{history_after}
use Rattle.pid_service_laws.specs.Registries.{Showing}
use Rattle.pid_journal.specs.Openings.{StopsAtOne}
use Rattle.pid_journal.specs.Journals.{AreSegments, IsPassed, lines_in}
use Rattle.pid_journal.specs.Steps.Following.{FaultsAtLine}
use Rattle.pid_journal.specs.Steps.Places.{IsAt}
use Rattle.pid_journal.specs.Steps.Ways.{IsAlong, IsInSegments, IsOnWay}
use Rattle.pid_journal.specs.Steps.Notes.{after_line}
use Rattle.pid_journal.proofs.Appending.{history_both, line_alone}

-- HISTORIES

pub way_along : (h g : History) (noted : Bool) (lines : List (List ℕ)) → IsOnWay h noted lines g → IsAlong h lines g
way_along h g noted lines way = record { before = way.before; later = way.later; parts = way.parts; so_far = way.so_far }

pub segments_along : (text : ℕ → List ℕ) (h g : History) (names : List ℕ) → IsInSegments text h names g → IsAlong h (lines_in text names) g
segments_along text h g names way = record { before = way.before; later = way.later; parts = way.parts; so_far = way.so_far }

pub passed_along : (h g : History) (lines : List (List ℕ)) → IsAlong h lines g → IsPassed h lines g
passed_along h g lines along =
    let count = length along.before in
    let first : take count lines ≡ along.before = ap (λ (ls : List (List ℕ)). take count ls) along.parts ∙ take_at along.before along.later count refl in
    (count, ap (history_after h) first ∙ along.so_far)

pub in_segments : (text : ℕ → List ℕ) (h g : History) (names : List ℕ) → AreSegments text h names → IsPassed h (lines_in text names) g → IsInSegments text h names g
in_segments text h g names told passed = record {
  told = told;
  before = take passed.0 (lines_in text names);
  later = drop passed.0 (lines_in text names);
  parts = sym (take-append-drop passed.0 (lines_in text names));
  so_far = passed.1;
}

-- the lines are some in the middle of all
pub along_all : (start h g : History) (all front lines later : List (List ℕ)) → all ≡ front ++ (lines ++ later) → history_after start front ≡ h → IsAlong h lines g → IsAlong start all g
along_all start h g all front lines later is at along = record {
  before = front ++ along.before;
  later = along.later ++ later;
  parts =
      is ∙ ap (λ (ls : List (List ℕ)). front ++ (ls ++ later)) along.parts
      ∙ ap (λ (ls : List (List ℕ)). front ++ ls) (append_assoc along.before along.later later)
      ∙ sym (append_assoc front along.before (along.later ++ later));
  so_far = history_both start front along.before ∙ ap (λ (x : History). history_after x along.before) at ∙ along.so_far;
}

-- the lines of the rest are the last ones
pub along_rest : (start shown g : History) (text rest : List ℕ) → IsAt start shown text rest → IsAlong shown (whole_lines rest) g → IsAlong start (whole_lines text) g
along_rest start shown g text rest at along =
    along_all start shown g (whole_lines text) at.far (whole_lines rest) []
    (at.parts ∙ ap (λ (ls : List (List ℕ)). at.far ++ ls) (sym (append-nil (whole_lines rest)))) at.so_far along

-- REGISTRIES

module _ {R : Type 0} (w : Showing R) where
  pub stops_as : (r : R) (P Q : History → Type 0) → ((h : History) → P h → Q h) → StopsAtOne w P r → StopsAtOne w Q r
  stops_as r P Q means (h, next, one, two, stops) = (h, next, means h one, means next two, stops)

  pub stops_at : (r : R) (P : History → Type 0) (h : History) → w.shows r h → P h → StopsAtOne w P r
  stops_at r P h shown is = (h, h, is, is, inl shown)

  -- all lines were obeyed
  pub stops_after : (r : R) (h : History) (lines : List (List ℕ)) → w.shows r (history_after h lines) → StopsAtOne w (IsAlong h lines) r
  stops_after r h lines shown = stops_at r (IsAlong h lines) (history_after h lines) shown (record { before = lines; later = []; parts = sym (append-nil lines); so_far = refl })

  -- a fault came at one of them
  pub record FaultsWithin (new : R) (h : History) (lines : List (List ℕ)) : Type 0 where
    pub before : List (List ℕ)
    pub line : List ℕ
    pub later : List (List ℕ)
    pub parts : lines ≡ before ++ line ∷ later
    pub stops : FaultsAtLine w new (history_after h before) line

  pub stops_within : (r : R) (h : History) (lines : List (List ℕ)) → FaultsWithin r h lines → StopsAtOne w (IsAlong h lines) r
  stops_within r h lines faults =
      let here : IsAlong h lines (history_after h faults.before) = record { before = faults.before; later = faults.line ∷ faults.later; parts = faults.parts; so_far = refl } in
      let next : IsAlong h lines (after_line (history_after h faults.before) faults.line) = record {
        before = faults.before ++ faults.line ∷ [];
        later = faults.later;
        parts = faults.parts ∙ sym (append_assoc faults.before (faults.line ∷ []) faults.later);
        so_far = history_both h faults.before (faults.line ∷ []) ∙ line_alone (history_after h faults.before) faults.line;
      } in
      elim faults.stops [
        | inl shown ↦ stops_at r (IsAlong h lines) (history_after h faults.before) shown here
        | inr (inl shown) ↦ stops_at r (IsAlong h lines) (after_line (history_after h faults.before) faults.line) shown next
        | inr (inr fails) ↦ (history_after h faults.before, after_line (history_after h faults.before) faults.line, here, next, inr fails)
      ]
