-- Why a question has no answer, for causes that refuse no command: the number, the word and the
-- line of each. Choices of this project.
use Rattle.std.specs.Prelude.{ℕ, List, codes}
use Rattle.pid_lookup.specs.declared.unanswered.Unanswered.{Unanswered}
use Rattle.pid_lookup.specs.declared.unanswered.Unanswered.TheVariants.{NoItem, BadFlags, NoAnswer}

-- its number, after those of commands
abbrev pub unanswered_number : Unanswered → ℕ
unanswered_number NoItem = 25
unanswered_number BadFlags = 26
unanswered_number NoAnswer = 27

-- its word
abbrev pub unanswered_word : Unanswered → List ℕ
unanswered_word NoItem = codes "NoItem"
unanswered_word BadFlags = codes "BadFlags"
unanswered_word NoAnswer = codes "NoAnswer"

-- its line: as that of a command that is refused, and `none` if a look-up has no answer
abbrev pub unanswered_line : Unanswered → List ℕ
unanswered_line NoItem = codes "refused 25 NoItem\n"
unanswered_line BadFlags = codes "refused 26 BadFlags\n"
unanswered_line NoAnswer = codes "none\n"
