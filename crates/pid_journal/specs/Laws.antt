-- What a journal says at each exit of each call, and after a stop: cited by `laws`. A choice of this
-- project.
use Rattle.std.specs.Prelude.{◌≡◌, ◌⊎◌, ℕ, List, [], ◌∷◌, ◌++◌, Some}
use Rattle.pid_file.specs.Lines.{lines_of}
use Rattle.pid_moderation.specs.History.{Asked, History}
use Rattle.pid_moderation.specs.Judgement.{answer, judge}
use Rattle.pid_moderation.specs.ReplyLines.{outcome_line}
use Rattle.pid_moderation.specs.Views.{revision_of, views_of}
use Rattle.pid_script.specs.Replies.{history_after, replies}
use Rattle.pid_journal.specs.Journals.{counts_held, IsEntry, IsNote, JournalLeads}
use Rattle.pid_journal.specs.Journals.{AreSegments, IsPassed, lines_in}
use Rattle.pid_journal.specs.Doubts.{IsInDoubt}

-- An entry more is answered as its command is over the history so far, and a mark is answered nothing.
abbrev pub EntriesAreAnswered : Type 0
EntriesAreAnswered = (start h : History) (text more : List ℕ) → JournalLeads start text h
    → ((c : Asked) → IsEntry more (counts_held h) c → replies start (lines_of (text ++ more))
    ≡ replies start (lines_of text) ++ outcome_line (answer (judge (views_of h) c)))
    × (IsNote more (counts_held h) [] → replies start (lines_of (text ++ more)) ≡ replies start (lines_of text))

-- A journal that stops in its last segment, maybe within an entry, is still one. On its way is the history before
-- that entry, and its lines lead there, or to the one after it, as they do if it is whole.
abbrev pub StopsLeaveTheWay : Type 0
StopsLeaveTheWay = (start h next : History) (text : ℕ → List ℕ) (front : List ℕ) (name : ℕ)
    → AreSegments text start front → let begin = history_after start (lines_in text front) in
    revision_of begin ≡ name → (doubt : IsInDoubt begin (Some (text name)) h next)
    → let lines = lines_in text (front ++ name ∷ []) in let end = history_after start lines in
    AreSegments text start (front ++ name ∷ []) × IsPassed start lines h
    × (text name ≡ doubt.text ++ doubt.more → end ≡ next) × ((end ≡ h) ⊎ (end ≡ next))
