-- The line that answers a command: a choice of this project.
use Rattle.std.specs.Prelude.{ℕ, List, [], ◌++◌, codes, decimal, Result, Ok, Err}
use Rattle.pid_file.specs.LineKinds as line_kinds
use Rattle.pid_moderation.specs.declared.command.Reply.{Reply}
use Rattle.pid_moderation.specs.declared.command.Reply.TheVariants.{Done, Numbered, Counts}
use Rattle.pid_moderation.specs.declared.refusal.FileFault.{FileFault}
use Rattle.pid_moderation.specs.declared.refusal.FileFault.TheVariants.{Line, TooMany}
use Rattle.pid_moderation.specs.declared.refusal.Refusal.{Refusal}
use Rattle.pid_moderation.specs.declared.refusal.Refusal.TheVariants as refusals
use Rattle.pid_moderation.specs.Refusals.{refusal_number, refusal_word}

abbrev pub accepted_line : Reply → List ℕ
accepted_line Done = codes "ok\n"
accepted_line (Numbered n) = codes "ok " ++ decimal n ++ codes "\n"
accepted_line (Counts added renamed same) = codes "ok added=" ++ decimal added ++ codes " renamed="
    ++ decimal renamed ++ codes " same=" ++ decimal same ++ codes "\n"

abbrev pub fault_words : FileFault → List ℕ
fault_words (Line line kind) = codes "line=" ++ decimal line ++ codes " kind=" ++ decimal
    (line_kinds.number_of kind) ++ codes " " ++ line_kinds.word_of kind
fault_words TooMany = codes "too many entries"

-- what is said of a fault of the file
abbrev pub details : Refusal → List ℕ
details (refusals.FileFault fault) = codes " " ++ fault_words fault
details refusal = []

abbrev pub refused_line : Refusal → List ℕ
refused_line refusal = codes "refused " ++ decimal (refusal_number refusal) ++ codes " "
    ++ refusal_word refusal ++ details refusal ++ codes "\n"

abbrev pub outcome_line : Result Reply Refusal → List ℕ
outcome_line (Ok reply) = accepted_line reply
outcome_line (Err refusal) = refused_line refusal
