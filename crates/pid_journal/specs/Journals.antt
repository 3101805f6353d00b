-- What a journal says: it is a script, in which a comment above each command says what the registry
-- held before it, and a mark below it what the registry held then. Choices of this project.
use Rattle.std.specs.Prelude.{◌≡◌, ℕ, Bool, false, true, ◌||◌, ◌&&◌, ◌==◌, if◌then◌else◌, List, [], ◌∷◌, codes, take}
use Rattle.std.specs.Prelude.{flat_map, slice_index, Option, Some, None, IfSome, is_some, option_and_then, option_map}
use Rattle.std.specs.Str.{bytes_eq, is_utf8}
use Rattle.pid_file.specs.Lines.{lines_of}
use Rattle.pid_file.specs.WholeLines.{whole_lines, open_part}
use Rattle.pid_form.specs.Fields.{Fields, value}
use Rattle.pid_form.specs.FormFields.{fields_in}
use Rattle.pid_form.specs.Numbers.{number_up_to}
use Rattle.pid_moderation.specs.History.{Asked, History}
use Rattle.pid_moderation.specs.Judgement.{after_all}
use Rattle.pid_moderation.specs.RegistryStatus.{status_of_registry}
use Rattle.pid_moderation.specs.Views.{revision_of}
use Rattle.pid_script.specs.Replies.{command_of, history_after}
use Rattle.pid_script.specs.ScriptLines.{AsksNothing, ask_of, is_idle_line}
use Rattle.pid_journal.specs.declared.counts.Counts.{Counts}

-- COMMENTS

-- the counts of a history
unfoldable pub counts_held : History → Counts
counts_held h = let s = status_of_registry h in
    record { revision = s.revision; accounts = s.accounts; items = s.items; submissions = s.submissions }

-- the number of 64 bits in a field, in at most 20 digits
abbrev pub count_at : List ℕ → Fields → Option ℕ
count_at name fields = option_and_then (λ text. if bytes_eq text (codes "0") then Some 0
    else number_up_to 18446744073709551615 20 text) (value name fields)

abbrev pub counts_in_fields : Fields → Option Counts
counts_in_fields fields = option_and_then (λ r. option_and_then (λ a. option_and_then (λ i. option_map (λ s.
    record { revision = r; accounts = a; items = i; submissions = s })
    (count_at (codes "submissions") fields)) (count_at (codes "items") fields))
    (count_at (codes "accounts") fields)) (count_at (codes "revision") fields)

-- what a line says, if it is a comment (35 is #), in whose form all four are
unfoldable pub counts_said : List ℕ → Option Counts
counts_said line = if slice_index line 0 == 35 && is_utf8 line then counts_in_fields (fields_in line) else None

-- LINES

-- Lines that say counts say those of the history so far, and what is no comment comes below one (`noted`) of its own.
abbrev pub AreTrue : History → Bool → List (List ℕ) → Type 0
AreTrue h noted [] = Unit {0}
AreTrue h noted (line ∷ lines) = IfSome (counts_said line) (λ counts. counts ≡ counts_held h)
    × (is_idle_line line ≡ false → noted ≡ true) × AreTrue (after_all h (command_of (ask_of line)))
    (if is_idle_line line then is_some (counts_said line) || noted else false) lines

-- The text is whole lines, their comments are true, and as a script it leads from the one history to the other.
abbrev pub JournalLeads : History → List ℕ → History → Type 0
JournalLeads start text h = (open_part text ≡ []) × AreTrue start false (lines_of text)
    × (history_after start (lines_of text) ≡ h)

-- The text is a comment that says these counts, and a line below it: of a mark it is empty.
abbrev pub IsNote : List ℕ → Counts → (line : List ℕ) → Type 0
IsNote text counts line = (open_part text ≡ []) × (comment : List ℕ) × (whole_lines text ≡ comment ∷ line ∷ [])
    × (counts_said comment ≡ Some counts) × (ask_of comment ≡ AsksNothing)

-- An entry has the line of a command there.
abbrev pub IsEntry : List ℕ → Counts → Asked → Type 0
IsEntry text counts c = (line : List ℕ) × IsNote text counts line × (command_of (ask_of line) ≡ c ∷ [])

-- SEGMENTS

-- the lines of segments in turn, whose texts go by their names
abbrev pub lines_in : (ℕ → List ℕ) → List ℕ → List (List ℕ)
lines_in text names = flat_map (λ name. whole_lines (text name)) names

-- Each segment begins at the revision that is its name, its comments are true, and the next one goes on at its end.
abbrev pub AreSegments : (ℕ → List ℕ) → History → List ℕ → Type 0
AreSegments text h [] = Unit {0}
AreSegments text h (name ∷ names) = (revision_of h ≡ name) × AreTrue h false (whole_lines (text name))
    × AreSegments text (history_after h (whole_lines (text name))) names

-- The history is one along the lines: the one after some of the first.
abbrev pub IsPassed : History → List (List ℕ) → History → Type 0
IsPassed start lines h = (n : ℕ) × (history_after start (take n lines) ≡ h)
