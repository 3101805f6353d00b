-- What the lines, the entries and the marks of a journal leave, step by step.
use Rattle.std.specs.Prelude.{◌≡◌, ◌⊎◌, ℕ, Bool, false, ◌||◌, if◌then◌else◌, List, [], ◌++◌, Option, Some, is_some}
use Rattle.pid_moderation.specs.History.{Asked, History}
use Rattle.pid_moderation.specs.Judgement.{after, after_all}
use Rattle.pid_moderation.specs.RegistryStatus.{RegistryStatus}
use Rattle.pid_script.specs.Replies.{command_of}
use Rattle.pid_script.specs.ScriptLines.{ask_of, is_idle_line}
use Rattle.pid_journal.specs.declared.counts.Counts.{Counts}
use Rattle.pid_journal.specs.Journals.{counts_held, counts_said, IsEntry, IsNote}

-- the counts of a status
abbrev pub counts_in : RegistryStatus → Counts
counts_in s =
    record { revision = s.revision; accounts = s.accounts; items = s.items; submissions = s.submissions }

-- the history after a line
abbrev pub after_line : History → List ℕ → History
after_line h line = after_all h (command_of (ask_of line))

-- whether a command may come next
abbrev pub noted_after : Bool → List ℕ → Bool
noted_after noted line = if is_idle_line line then is_some (counts_said line) || noted else false

abbrev pub IsMark : List ℕ → Counts → Type 0
IsMark text counts = IsNote text counts []

-- The text is an entry whose command leads from the one history to the other. Or they are the same,
-- and it is a mark, or there is none.
abbrev pub EntryLeads : List ℕ → (h next : History) → Type 0
EntryLeads text h next = ((c : Asked) × IsEntry text (counts_held h) c × (next ≡ after h c))
    ⊎ (((text ≡ []) ⊎ IsMark text (counts_held h)) × (next ≡ h))

-- bytes were appended, or none of them
abbrev pub MayBeAdded : (old now : Option (List ℕ)) → List ℕ → Type 0
MayBeAdded old now bytes = (front : List ℕ) → old ≡ Some front
    → (now ≡ Some front) ⊎ (now ≡ Some (front ++ bytes))
