-- The replies to the lines of a script, and the history after them: choices of this project.
use Rattle.std.specs.Prelude.{ℕ, ◌+◌, Bool, true, false, if◌then◌else◌, List, [], ◌∷◌, ◌++◌, Option}
use Rattle.std.specs.Prelude.{Some, None, is_some, codes, Result, Ok, Err, is_ok}
use Rattle.pid_file.specs.declared.path.Path.{Path}
use Rattle.pid_ident.specs.PathTexts.{path_text}
use Rattle.pid_moderation.specs.Files.{asks}
use Rattle.pid_lookup.specs.declared.answer.Answer.{Answer}
use Rattle.pid_lookup.specs.declared.answer.Answer.TheVariants.{Text, NoAnswer}
use Rattle.pid_lookup.specs.Answers.{answer_of}
use Rattle.pid_lookup.specs.Flags.{is_bad}
use Rattle.pid_lookup.specs.Unanswered.{unanswered_line}
use Rattle.pid_lookup.specs.declared.unanswered.Unanswered.TheVariants as unanswered
use Rattle.pid_file.specs.Printing.{print}
use Rattle.pid_moderation.specs.declared.command.Command.{Command}
use Rattle.pid_moderation.specs.declared.refusal.Refusal.{Refusal}
use Rattle.pid_moderation.specs.declared.refusal.Refusal.TheVariants.{BadText}
use Rattle.pid_moderation.specs.History.{Asked, History}
use Rattle.pid_moderation.specs.Items.{name_at}
use Rattle.pid_moderation.specs.Judgement.{answer, judge, after_all}
use Rattle.pid_moderation.specs.ReplyLines.{refused_line, outcome_line}
use Rattle.pid_moderation.specs.Views.{views_of, items_of}
use Rattle.pid_moderation.specs.Writes.{tree_of}
use Rattle.pid_lookup.specs.Fields.{Lookup}
use Rattle.pid_script.specs.Asking.{command_in_form, path_asked, lookup_in_form}
use Rattle.pid_script.specs.ScriptLines.{Ask, AsksNothing, AsksCommand, AsksExport, AsksName}
use Rattle.pid_script.specs.ScriptLines.{AsksLookup, Unclear, TooLong, ask_of}

-- the reply for a path without a name
abbrev pub NO_ITEM : List ℕ
NO_ITEM = unanswered_line unanswered.NoItem

-- the reply to bad flags
abbrev pub BAD_FLAGS : List ℕ
BAD_FLAGS = unanswered_line unanswered.BadFlags

-- the name of a path
abbrev pub name_line : Option (List ℕ) → List ℕ
name_line None = NO_ITEM
name_line (Some name) = codes "name " ++ name ++ codes "\n"

-- the answer of a look-up
abbrev pub answer_line : Answer → List ℕ
answer_line NoAnswer = unanswered_line unanswered.NoAnswer
answer_line (Text text) = codes "text " ++ text ++ codes "\n"

-- the outcome of a command over a history
abbrev pub outcome_of : Result Command Refusal → History → List ℕ
outcome_of (Err refusal) h = refused_line refusal
outcome_of (Ok command) h = outcome_line (answer (judge (views_of h) (asks command)))

-- what a path that is asked for is called
abbrev pub name_reply : Result Path Refusal → History → List ℕ
name_reply (Err refusal) h = refused_line refusal
name_reply (Ok path) h = name_line (name_at (path_text path) (items_of h))

-- what a look-up is answered
abbrev pub looked_up : Option Lookup → History → List ℕ
looked_up None h = refused_line BadText
looked_up (Some l) h = if is_bad l.flags then BAD_FLAGS else answer_line
    (answer_of (tree_of h) l.flags l.args l.size)

-- the reply to what a line asks, over the history so far
abbrev pub line_reply : Ask → History → List ℕ
line_reply AsksNothing h = []
line_reply (AsksCommand verb account fields) h = outcome_of (command_in_form verb account fields) h
line_reply AsksExport h = print (tree_of h)
line_reply (AsksName fields) h = name_reply (path_asked fields) h
line_reply (AsksLookup fields) h = looked_up (lookup_in_form fields) h
line_reply Unclear h = refused_line BadText
line_reply TooLong h = refused_line BadText

-- the command that a form says, as the history keeps it; a form that says none sends none
abbrev pub those_sent : Result Command Refusal → List Asked
those_sent (Err refusal) = []
those_sent (Ok command) = asks command ∷ []

-- whether the registry is asked for the reply: a line that keeps its form
abbrev pub is_call : Ask → Bool
is_call (AsksCommand verb account fields) = is_ok (command_in_form verb account fields)
is_call AsksExport = true
is_call (AsksName fields) = is_ok (path_asked fields)
is_call (AsksLookup fields) = is_some (lookup_in_form fields)
is_call AsksNothing = false
is_call Unclear = false
is_call TooLong = false

-- the command of a line that keeps the form
abbrev pub command_of : Ask → List Asked
command_of (AsksCommand verb account fields) = those_sent (command_in_form verb account fields)
command_of AsksNothing = []
command_of AsksExport = []
command_of (AsksName fields) = []
command_of (AsksLookup fields) = []
command_of Unclear = []
command_of TooLong = []

-- the most calls of a registry that the reply to a line takes
abbrev pub calls_for : Ask → ℕ
calls_for ask = if is_call ask then 1 else 0

-- the same of the replies to lines
abbrev pub calls_for_lines : List (List ℕ) → ℕ
calls_for_lines [] = 0
calls_for_lines (line ∷ lines) = calls_for (ask_of line) + calls_for_lines lines

-- the commands of lines, in turn
abbrev pub commands_of_lines : List (List ℕ) → List Asked
commands_of_lines [] = []
commands_of_lines (line ∷ lines) = command_of (ask_of line) ++ commands_of_lines lines

-- the history after lines
abbrev pub history_after : History → List (List ℕ) → History
history_after h lines = after_all h (commands_of_lines lines)

-- the replies to lines, each over the history that the lines before it lead to
abbrev pub replies : History → List (List ℕ) → List ℕ
replies h [] = []
replies h (line ∷ lines) = line_reply (ask_of line) h ++ replies
    (after_all h (command_of (ask_of line))) lines
