-- What a script comes to: the replies to its lines, and how it ends. All are choices of this
-- project.
use Rattle.std.specs.Prelude.{◌≡◌, ◌≤◌, ◌<◌, ◌+◌, ◌-◌, ◌*◌, ◌^◌, min, length, ℕ, false}
use Rattle.std.specs.Prelude.{List, [], ◌∷◌, ◌++◌, None, Some, IfSome, IsSome, Option}
use Rattle.pid_file.specs.declared.io.ReadFault.{ReadFault as InputFault}
use Rattle.pid_file.specs.declared.io.WriteFault.{WriteFault as OutputFault}
use Rattle.std.specs.Io.KnownBytes.{Appends, Consumes}
use Rattle.std.specs.List.{AllByRecursion}
use Rattle.pid_file.specs.declared.io.Output as outputs
use Rattle.pid_ident.specs.declared.incoming.Incoming as incoming
use Rattle.pid_ident.specs.Sending.{SendsFront}
use Rattle.pid_ident.specs.Moments.{Moment}
use Rattle.pid_reader.specs.Lines.{drop_cr, lines_of}
use Rattle.pid_reader.specs.WholeLines.{whole_lines, open_part}
use Rattle.pid_moderation.specs.History.{History}
use Rattle.pid_service_laws.specs.declared.registry_calls.RegistryCalls.{Ghosts}
use Rattle.pid_script.specs.declared.script_end.ScriptEnd.{ScriptEnd}
use Rattle.pid_script.specs.declared.script_end.ScriptEnd.TheVariants.{Done, ReadFault, WriteFault}
use Rattle.pid_script.specs.declared.script_end.ScriptEnd.TheVariants.{TooLong, Stopped}
use Rattle.pid_script.specs.declared.script_end.ScriptEnd.TheVariants.{TurnsSpent}
use Rattle.pid_script.specs.ScriptLines as asks
use Rattle.pid_script.specs.ScriptLines.{LONGEST, ask_of}
use Rattle.pid_script.specs.Calling.{CallsGo, CallsSend, CallsSendEither}
use Rattle.pid_script.specs.Replies.{replies, command_of, calls_for_lines, commands_of_lines}
use Rattle.pid_script.specs.Replies.{history_after, is_call}
use Rattle.pid_script.specs.RegistryStates.{Becomes, BecomesEither, OverStanding, StopsAfter}
use Rattle.pid_script.specs.StopLines.{IsStopInPlace}

-- the room of one read, in bytes
abbrev pub BUFFER_ROOM : ℕ
BUFFER_ROOM = 65536

-- what is known of the reader and the writer when a script has ended
pub record ReaderAndWriter : Type 0 where
  -- the faults that they keep
  pub read_fault : Option InputFault
  pub write_fault : Option OutputFault
  -- how many reads might be made
  pub turns : ℕ
  -- the reader's count of reads before the script, and after it
  pub reads : ℕ
  pub reads_now : ℕ
  -- the bytes to come before the script, and after it
  pub come : Option (List ℕ)
  pub come_now : Option (List ℕ)
  -- the moments at which it was read before the script, and after it, if it keeps account of them
  pub moments : Option (List Moment)
  pub moments_now : Option (List Moment)

-- the same, of a reader before and after, and of a writer after
abbrev pub reader_and_writer : {I W : Type 0} → incoming.Ghosts I W → outputs.Ghosts W → I → I → W
    → ℕ → ReaderAndWriter
reader_and_writer reader writer old new out turns = record {
  read_fault = reader.read_fault new;
  write_fault = writer.write_fault out;
  turns = turns;
  reads = reader.reads old;
  reads_now = reader.reads new;
  come = reader.to_come old;
  come_now = reader.to_come new;
  moments = reader.moments old;
  moments_now = reader.moments new;
}

-- it holds of all but the last, of which nothing is said
abbrev pub AllButLast : {A : Type 0} → (A → Type 0) → List A → Type 0
AllButLast P [] = Unit {0}
AllButLast P (x ∷ []) = Unit {0}
AllButLast P (x ∷ y ∷ xs) = P x × AllButLast P (y ∷ xs)

-- at this moment something was still to come, as far as that is known
abbrev pub HasMore : Moment → Type 0
HasMore m = m.to_come ≡ Some [] → ⊥

-- So many moments came to an account, and this holds of the list of them. If none is kept any more
-- nothing is said.
abbrev pub Notes : ℕ → (List Moment → Type 0) → (earlier now : Option (List Moment)) → Type 0
Notes made Holds earlier None = Unit {0}
Notes made Holds None (Some now) = ⊥
Notes made Holds (Some earlier) (Some now) = (later : List Moment) × (now ≡ earlier ++ later)
    × (length later ≡ made) × Holds later

-- a script made all the reads that it might, and none of them is known to have found the end
pub record SpendsReads (made : ℕ) (taken : List ℕ) (s : ReaderAndWriter) : Type 0 where
  pub all : made ≡ s.turns
  -- no more were made than bytes came
  pub each : made ≤ length taken
  -- an account has a moment for each, at which something was still to come
  pub noted : Notes made (AllByRecursion HasMore) s.moments s.moments_now

-- how many reads a script made, and what they took
pub record MakesReads (end : ScriptEnd) (s : ReaderAndWriter) : Type 0 where
  -- they are no more than might be, and the reader counts them, up to its greatest number
  pub made : ℕ
  pub within : made ≤ s.turns
  pub counted : s.reads < 2 ^ 64 → s.reads_now ≡ min (s.reads + made) (2 ^ 64 - 1)
  -- they took at most 65,536 bytes for each of them, and at most one more was made than bytes came
  pub taken : List ℕ
  pub consumed : Consumes s.come s.come_now taken
  pub room : length taken ≤ made * BUFFER_ROOM
  pub some : made ≤ length taken + 1
  -- an account has a moment for each, and at each but the last one something was still to come
  pub noted : Notes made (AllButLast HasMore) s.moments s.moments_now
  -- if the script ended by its reads, they were all that it might make
  pub spent : end ≡ TurnsSpent → SpendsReads made taken s

-- a script ended so
pub record EndsWith (end : ScriptEnd) (s : ReaderAndWriter) : Type 0 where
  -- a fault that it ended by is kept
  pub read_fault : end ≡ ReadFault → IsSome s.read_fault
  pub write_fault : end ≡ WriteFault → IsSome s.write_fault
  -- a read that fails ends it
  pub failed : 0 < s.turns → IsSome s.read_fault → end ≡ ReadFault
  pub reads : MakesReads end s

-- a line is not too long
abbrev pub IsNotTooLong : List ℕ → Type 0
IsNotTooLong line = ask_of line ≡ asks.TooLong → ⊥

-- a line asks nothing of the registry
abbrev pub CallsNot : List ℕ → Type 0
CallsNot line = is_call (ask_of line) ≡ false

-- a line is no command
abbrev pub CommandsNot : List ℕ → Type 0
CommandsNot line = command_of (ask_of line) ≡ []

-- none of the lines is too long
abbrev pub NoneTooLong : List (List ℕ) → Type 0
NoneTooLong lines = AllByRecursion IsNotTooLong lines

-- none of the lines asks something of the registry
abbrev pub NoneCalls : List (List ℕ) → Type 0
NoneCalls lines = AllByRecursion CallsNot lines

-- Lines in three parts, if a writer failed: those whose replies were out; those that wait, of
-- which only the last may be a command; and those that were not read.
pub record WriterCut (lines : List (List ℕ)) : Type 0 where
  pub before : List (List ℕ)
  pub waiting : List (List ℕ)
  pub behind : List (List ℕ)
  pub parts : lines ≡ before ++ (waiting ++ behind)
  pub quiet : AllButLast CommandsNot waiting

-- the lines of such a cut that were read
abbrev pub lines_read : {lines : List (List ℕ)} → WriterCut lines → List (List ℕ)
lines_read cut = cut.before ++ cut.waiting

-- the registry before the script and after it, and what the writer had taken before and has taken
-- now
pub record Passage (R : Type 0) : Type 0 where
  pub old : R
  pub new : R
  pub taken : Option (List ℕ)
  pub taken_now : Option (List ℕ)

-- a passage of the script between two moments
abbrev pub passage : {R : Type 0} → R → R → Option (List ℕ) → Option (List ℕ) → Passage R
passage old new taken taken_now = record {
  old = old;
  new = new;
  taken = taken;
  taken_now = taken_now;
}

module _ {R : Type 0} (registry : Ghosts R) where
  -- while the disk returns what was written, this holds of the history that the registry showed, of
  -- the passage and of the text, if that is known
  abbrev pub OverText : Passage R → Option (List ℕ) → (History → Passage R → List ℕ → Type 0)
      → Type 0
  OverText p known Holds = OverStanding registry p.old p.new (λ h. IfSome known (Holds h p))

  -- Each of the lines got its reply, and the registry shows the history after them; one that had
  -- failed was asked nothing. The commands of the lines are those that calls sent, and what was done
  -- is no more than that many calls do for which the lines ask.
  pub record AnswersLines (h : History) (p : Passage R) (lines : List (List ℕ)) : Type 0 where
    pub fits : NoneTooLong lines
    pub told : Appends p.taken p.taken_now (replies h lines)
    pub leaves : Becomes registry p.old h p.new (history_after h lines)
    pub lives : registry.is_live p.old ≡ false → NoneCalls lines
    pub calls : CallsSend registry.showing p.old (commands_of_lines lines)
        (calls_for_lines lines) p.new

  -- The lines before one got their replies. In place of its reply, or after what was begun of it,
  -- the line of a refusal comes last; and the registry shows the history before the line, or has
  -- failed at its command, which may have been written. The commands that calls sent are those of
  -- the lines before, and what was done is no more than that many calls do for which these and the
  -- line ask.
  pub record StopsAtLine (h : History) (p : Passage R) (lines : List (List ℕ)) : Type 0 where
    pub before : List (List ℕ)
    pub line : List ℕ
    pub behind : List (List ℕ)
    pub parts : lines ≡ before ++ line ∷ behind
    pub fits : NoneTooLong before
    pub lives : registry.is_live p.old ≡ false → NoneCalls before
    pub text : List ℕ
    pub stop : IsStopInPlace registry p.old h (history_after h before) (ask_of line) text
    pub told : Appends p.taken p.taken_now (replies h before ++ text)
    pub leaves : StopsAfter registry p.old h p.new (history_after h before)
        (command_of (ask_of line))
    pub calls : CallsSend registry.showing p.old (commands_of_lines before)
        (calls_for_lines (before ++ line ∷ [])) p.new

  -- A line stopped the script, and it is not too long as far as it was read: the lines of what was
  -- read are those that got their replies, then this part of it, or all of it, and maybe more.
  pub record EndsStopped (h : History) (p : Passage R) (text : List ℕ)
      (rest : Option (List ℕ)) : Type 0 where
    pub stops : StopsAtLine h p (lines_of text)
    pub front : List ℕ
    pub read : Consumes (Some text) rest front
    pub part : List ℕ
    pub behind : List (List ℕ)
    pub parts : lines_of front ≡ stops.before ++ part ∷ behind
    pub fits : IsNotTooLong part

  -- the lines before one got their replies, and that one is too long, and was refused as such
  pub record EndsTooLong (h : History) (p : Passage R) (lines : List (List ℕ)) : Type 0 where
    pub before : List (List ℕ)
    pub line : List ℕ
    pub behind : List (List ℕ)
    pub parts : lines ≡ before ++ line ∷ behind
    pub long : ask_of line ≡ asks.TooLong
    pub fits : NoneTooLong before
    pub lives : registry.is_live p.old ≡ false → NoneCalls before
    pub told : Appends p.taken p.taken_now (replies h (before ++ line ∷ []))
    pub leaves : Becomes registry p.old h p.new (history_after h before)
    pub calls : CallsSend registry.showing p.old (commands_of_lines before)
        (calls_for_lines (before ++ line ∷ [])) p.new

  -- the text for lines: the reply to each, or the text of a stop in place of the last one
  pub data IsTextFor (r : R) (first at : History) (lines : List (List ℕ))
      (text : List ℕ) : Type 0 where
    Replied : text ≡ replies at lines → IsTextFor r first at lines text
    StoppedLast : (before : List (List ℕ)) (line stop : List ℕ) → lines ≡ before ++ line ∷ []
        → IsStopInPlace registry r first (history_after at before) (ask_of line) stop
        → text ≡ replies at before ++ stop
        → IsTextFor r first at lines text

  -- the replies to the lines before went out whole, and of the text for those that wait a prefix,
  -- and not all
  pub record SendsUpTo (h : History) (p : Passage R) (before waiting : List (List ℕ)) : Type 0 where
    -- what the writer had taken with the replies to the lines before
    pub between : Option (List ℕ)
    pub told : Appends p.taken between (replies h before)
    pub text : List ℕ
    pub is : IsTextFor p.old h (history_after h before) waiting text
    pub front : SendsFront between p.taken_now text

  -- The writer failed before the replies to the lines that wait were out. The registry shows the
  -- history before these lines, or after them.
  pub record FailsToWrite (h : History) (p : Passage R) (lines : List (List ℕ)) : Type 0 where
    pub cut : WriterCut lines
    pub sent : SendsUpTo h p cut.before cut.waiting
    -- all lines but the last were answered: none of them is too long, and a registry that had
    -- failed was asked nothing by them
    pub fits : AllButLast IsNotTooLong (lines_read cut)
    pub lives : registry.is_live p.old ≡ false → AllButLast CallsNot (lines_read cut)
    pub leaves : BecomesEither registry p.old h p.new (history_after h cut.before)
        (history_after h (lines_read cut))
    pub calls : CallsSendEither registry.showing p.old (commands_of_lines cut.before)
        (commands_of_lines (lines_read cut)) (calls_for_lines (lines_read cut)) p.new

  -- part of the text was read, and its whole lines got their replies; what came after them is no
  -- more than the longest line, a CR at its end not counted
  pub record IsCutOff (h : History) (p : Passage R) (text : List ℕ)
      (rest : Option (List ℕ)) : Type 0 where
    pub front : List ℕ
    pub read : Consumes (Some text) rest front
    pub short : length (drop_cr (open_part front)) ≤ LONGEST
    pub answers : AnswersLines h p (whole_lines front)

  -- The text was read at this moment: the lines that had come whole had got their replies, and the
  -- writer had taken these and nothing more. Calls lead on from a registry with the history after
  -- these lines.
  pub record IsUpToDate (h : History) (p : Passage R) (text : List ℕ)
      (m : Moment) : Type 0 where
    pub between : R
    pub answers : IsCutOff h (passage p.old between p.taken m.taken) text m.to_come
    pub goes_on : CallsGo registry.showing between p.new

  -- a script with this text, of which this rest was not read
  abbrev pub IsScript : ScriptEnd → History → Passage R → List ℕ → Option (List ℕ) → Type 0
  IsScript Done h p text rest = AnswersLines h p (lines_of text)
  IsScript TooLong h p text rest = EndsTooLong h p (lines_of text)
  IsScript Stopped h p text rest = EndsStopped h p text rest
  IsScript WriteFault h p text rest = FailsToWrite h p (lines_of text)
  IsScript ReadFault h p text rest = IsCutOff h p text rest
  IsScript TurnsSpent h p text rest = IsCutOff h p text rest
