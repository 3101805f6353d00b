-- The lines that a job prints, and the status with which it ends: choices of this project.
use Rattle.std.specs.Prelude.{◌≡◌, ℕ, Bool, true, false, List, ◌++◌, codes, decimal, Result, Ok, Err}
use Rattle.std.specs.Io.KnownBytes.{Appends, Keeps}
use Rattle.pid_file.specs.TextEnds.{fault_line}
use Rattle.pid_file.specs.Steps.TextEnds.{failed_line}
use Rattle.pid_file.specs.Writing.{FailsWithin, TriesLine, WriterUse, use_of}
use Rattle.pid_file.specs.declared.io.Output as outputs
use Rattle.pid_file.specs.declared.text_end.TextEnd.TheVariants.{Memory}
use Rattle.pid_lookup.specs.declared.answer.Answer.{Answer}
use Rattle.pid_lookup.specs.declared.answer.Answer.TheVariants as answers
use Rattle.pid_lookup.specs.declared.answering.LookupRefusal.{LookupRefusal}
use Rattle.pid_lookup.specs.declared.answering.LookupRefusal.TheVariants as look_ups
use Rattle.pid_lookup.specs.declared.unanswered.Unanswered.TheVariants as unanswered
use Rattle.pid_lookup.specs.Unanswered.{unanswered_line}
use Rattle.pid_moderation.specs.ReplyLines.{outcome_line}
use Rattle.pid_moderation.specs.declared.command.Reply.{Reply}
use Rattle.pid_moderation.specs.declared.refusal.Refusal.{Refusal}
use Rattle.pid_moderation.specs.declared.refusal.Refusal.TheVariants as refusals
use Rattle.pid_cli_jobs.specs.declared.job_end.JobEnd.{JobEnd}
use Rattle.pid_cli_jobs.specs.declared.job_end.JobEnd.TheVariants.{Exited, Refused, FileFailed}
use Rattle.pid_cli_jobs.specs.declared.unopened.Unopened.{Unopened}
use Rattle.pid_cli_jobs.specs.declared.unopened.Unopened.TheVariants as unopened

-- the status after the reply to a command: 0 if it was accepted, 3 if memory, the store or the
-- registry failed, else 1
abbrev pub reply_status : Result Reply Refusal → ℕ
reply_status (Ok reply) = 0
reply_status (Err refusals.Memory) = 3
reply_status (Err refusals.Store) = 3
reply_status (Err refusals.Failed) = 3
reply_status (Err refusal) = 1

-- a word and a count
abbrev pub count_line : List ℕ → ℕ → List ℕ
count_line word count = word ++ decimal count ++ codes "\n"

-- the line of why a registry was not opened; after a newer schema comes its number
abbrev pub unopened_word : Unopened → List ℕ
unopened_word unopened.Memory = codes "open: Memory\n"
unopened_word unopened.Store = codes "open: Store\n"
unopened_word unopened.Damaged = codes "open: Damaged\n"
unopened_word (unopened.NewerSchema schema) = codes "open: NewerSchema "
unopened_word unopened.AnotherJournal = codes "journal: Another\n"
unopened_word unopened.SegmentsMissing = codes "journal: Missing\n"
unopened_word unopened.JournalFailed = codes "journal: failed\n"

abbrev pub unopened_line : Unopened → List ℕ
unopened_line (unopened.NewerSchema schema) = unopened_word (unopened.NewerSchema schema)
    ++ decimal schema ++ codes "\n"
unopened_line why = unopened_word why

-- what became of the output, and of the writer of faults
pub record Streams : Type 0 where
  pub output : WriterUse
  pub faults : WriterUse

abbrev pub streams : WriterUse → WriterUse → Streams
streams output faults = record { output = output; faults = faults }

-- what a call made of both, by how they were before and after it
abbrev pub streams_used : {O F : Type 0} → outputs.Ghosts O → outputs.Ghosts F → O → O → F → F
    → Streams
streams_used output faults to printed errors reported =
    streams (use_of output to printed) (use_of faults errors reported)

-- nothing was printed; nothing was reported
abbrev pub IsUnprinted : Streams → Type 0
IsUnprinted w = w.output.after ≡ w.output.before

abbrev pub IsUnreported : Streams → Type 0
IsUnreported w = w.faults.after ≡ w.faults.before

-- A job that prints this line and then ends with this status: the writer took the whole line, or it
-- failed within it.
abbrev pub PrintsLine : JobEnd → WriterUse → List ℕ → ℕ → Type 0
PrintsLine (Exited status) w line wanted = (status ≡ wanted) × Appends w.before w.after line
PrintsLine FileFailed w line wanted = FailsWithin w line
PrintsLine (Refused refusal) w line wanted = ⊥

-- one that prints no more, and reports nothing; the line of a reply
abbrev pub PrintsOnly : List ℕ → ℕ → Streams → JobEnd → Type 0
PrintsOnly line status w end = PrintsLine end w.output line status × IsUnreported w

abbrev pub PrintsReply : Result Reply Refusal → Streams → JobEnd → Type 0
PrintsReply reply = PrintsOnly (outcome_line reply) (reply_status reply)

-- a job that reports this line and ends with status 3; one that prints nothing, too
abbrev pub Reports : List ℕ → WriterUse → JobEnd → Type 0
Reports line w end = TriesLine w line × (end ≡ Exited 3)

abbrev pub ReportsOnly : List ℕ → Streams → JobEnd → Type 0
ReportsOnly line w end = IsUnprinted w × Reports line w.faults end

-- out of memory, and why a registry was not opened
abbrev pub ReportsMemory : Streams → JobEnd → Type 0
ReportsMemory = ReportsOnly (fault_line Memory)

abbrev pub ReportsUnopened : Unopened → Streams → JobEnd → Type 0
ReportsUnopened why = ReportsOnly (unopened_line why)

-- a file failed, which is still to be reported
abbrev pub FailsSilently : Streams → JobEnd → Type 0
FailsSilently w end = (end ≡ FileFailed) × IsUnprinted w × IsUnreported w

-- What becomes of the answer to a look-up, or of its refusal: its line, and the status after it.
-- Out of memory nothing is printed, and that is reported.
abbrev pub PrintsAnswer : {X : Type 0} → Result Answer (LookupRefusal X) → Streams → JobEnd → Type 0
PrintsAnswer (Ok (answers.Text text)) = PrintsOnly (codes "text " ++ text ++ codes "\n") 0
PrintsAnswer (Ok answers.NoAnswer) = PrintsOnly (unanswered_line unanswered.NoAnswer) 1
PrintsAnswer (Err look_ups.BadFlags) = PrintsOnly (unanswered_line unanswered.BadFlags) 1
PrintsAnswer (Err look_ups.Memory) = ReportsMemory
PrintsAnswer (Err (look_ups.Names fault)) = ReportsMemory

-- the exit status
abbrev pub exit_status : JobEnd → ℕ
exit_status (Exited status) = status
exit_status (Refused refusal) = 3
exit_status FileFailed = 3

-- What is reported at the end: that an export was refused; that a file failed, unless the output's
-- reader has gone away.
abbrev pub ReportsLast : JobEnd → Bool → WriterUse → Type 0
ReportsLast (Exited status) is_unread w = w.after ≡ w.before
ReportsLast (Refused refusal) is_unread w = TriesLine w (outcome_line (Err refusal))
ReportsLast FileFailed true w = Keeps w.before w.after
ReportsLast FileFailed false w = TriesLine w failed_line
