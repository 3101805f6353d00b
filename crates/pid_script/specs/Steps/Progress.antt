-- How far a script has come within the text that was read.
use Rattle.std.specs.Prelude.{◌≡◌, ◌≤◌, ◌+◌, ℕ, List, [], ◌++◌, length, Option, Some, Result, Ok, Err, false}
use Rattle.std.specs.Prelude.{IfErr, IsSome, OnOk}
use Rattle.std.specs.Io.KnownBytes.{Appends}
use Rattle.pid_reader.specs.Lines.{drop_cr, lines_of}
use Rattle.pid_reader.specs.WholeLines.{whole_lines, open_part}
use Rattle.pid_moderation.specs.History.{History}
use Rattle.pid_script.specs.declared.line_end.LineEnd.{LineEnd}
use Rattle.pid_script.specs.declared.line_end.LineEnd.TheVariants as line_ends
use Rattle.pid_service_laws.specs.declared.registry_calls.RegistryCalls.{Ghosts}
use Rattle.pid_script.specs.declared.script_end.ScriptEnd.{ScriptEnd}
use Rattle.pid_script.specs.declared.script_end.ScriptEnd.TheVariants.{Done, WriteFault, TooLong}
use Rattle.pid_script.specs.declared.script_end.ScriptEnd.TheVariants.{Stopped}
use Rattle.pid_script.specs.Calling.{CallsGo, CallsSend}
use Rattle.pid_script.specs.Replies.{replies, calls_for_lines, commands_of_lines}
use Rattle.pid_script.specs.Replies.{history_after}
use Rattle.pid_script.specs.ScriptLines.{LONGEST}
use Rattle.pid_script.specs.Steps.Output.{MOST_HELD, Out}
use Rattle.pid_script.specs.Scripts.{NoneTooLong, NoneCalls, passage, AnswersLines, EndsStopped}
use Rattle.pid_script.specs.Scripts.{EndsTooLong, FailsToWrite}
use Rattle.pid_script.specs.RegistryStates.{Becomes, ShowsOrHasFailed}

module _ {R : Type 0} (registry : Ghosts R) where
  -- The lines were answered. Of the replies to those that wait, none of which is a command, some
  -- bytes went out, and the rest is held, in the room that there is.
  pub record Answered (h : History) (start : Option (List ℕ)) (old new : R) (now : Out)
      (lines : List (List ℕ)) : Type 0 where
    pub before : List (List ℕ)
    pub waiting : List (List ℕ)
    pub parts : lines ≡ before ++ waiting
    pub asked : commands_of_lines waiting ≡ []
    pub between : Option (List ℕ)
    pub told : Appends start between (replies h before)
    pub sent : List ℕ
    pub went : Appends between now.taken sent
    pub rest : sent ++ now.held ≡ replies (history_after h before) waiting
    pub room : length now.held ≤ MOST_HELD
    pub fits : NoneTooLong lines
    pub leaves : Becomes registry old h new (history_after h lines)
    pub lives : registry.is_live old ≡ false → NoneCalls lines
    pub calls : CallsSend registry.showing old (commands_of_lines lines) (calls_for_lines lines) new

  -- the whole lines of a prefix of the text were answered, and what comes after them is kept, which
  -- is no more than the longest line and its CR
  pub record HasAnswered (h : History) (start : Option (List ℕ)) (old new : R) (now : Out)
      (kept front : List ℕ) : Type 0 where
    pub open_line : kept ≡ open_part front
    pub short : length (drop_cr kept) ≤ LONGEST
    pub answered : Answered h start old new now (whole_lines front)

  -- a line of a text ended it, of which this rest was not read
  abbrev pub Ended : LineEnd → History → Option (List ℕ) → R → R → Out → (text rest : List ℕ)
      → Type 0
  Ended line_ends.Stopped h start old new now text rest = EndsStopped registry h
      (passage old new start now.taken) text (Some rest)
  Ended line_ends.WriteFault h start old new now text rest = FailsToWrite registry h
      (passage old new start now.taken) (lines_of text)
  Ended line_ends.TooLong h start old new now text rest = EndsTooLong registry h
      (passage old new start now.taken) (lines_of text)

  -- a text was answered, or why not
  abbrev pub EndsText : Result (Unit {0}) LineEnd → History → Option (List ℕ) → R → R → Out → List ℕ
      → Type 0
  EndsText (Ok x) h start old new now text =
      AnswersLines registry h (passage old new start now.taken) (lines_of text)
  EndsText (Err end) h start old new now text = Ended end h start old new now text []

  -- whatever the text before is that was answered so far, over whatever history
  abbrev pub FromAnswered : R → R → Out → List ℕ
      → (History → Option (List ℕ) → R → List ℕ → Type 0) → Type 0
  FromAnswered old new was kept Holds = registry.showing.is_clean new → (h : History)
      (start : Option (List ℕ)) (first : R) (text : List ℕ) → ShowsOrHasFailed registry first h
      → HasAnswered h start first old was kept text → Holds h start first text

  -- the text goes on with a piece, and it is answered so far too
  abbrev pub AnswersPiece : Result (Unit {0}) LineEnd → R → R → Out → Out → (kept kept_after
      piece : List ℕ) → Type 0
  AnswersPiece result old new was now kept kept_after piece = FromAnswered old new was kept
      (λ h start first text. OnOk result
      (HasAnswered h start first new now kept_after (text ++ piece)))

  -- a line of the piece ended it, whatever more comes
  abbrev pub EndsInPiece : Result (Unit {0}) LineEnd → R → R → Out → Out → (kept piece : List ℕ)
      → Type 0
  EndsInPiece result old new was now kept piece = registry.showing.is_clean new → (h : History)
      (start : Option (List ℕ)) (first : R) (text more : List ℕ)
      → ShowsOrHasFailed registry first h → HasAnswered h start first old was kept text
      → IfErr result (λ e. Ended e h start first new now ((text ++ piece) ++ more) more)

  -- what the lines of a piece leave
  pub record TakesPiece (result : Result (Unit {0}) LineEnd) (old new : R) (was now : Out)
      (kept kept_after piece : List ℕ) : Type 0 where
    pub calls : CallsGo registry.showing old new
    pub empty : OnOk result (now.held ≡ [])
    pub answered : AnswersPiece result old new was now kept kept_after piece
    pub ended : EndsInPiece result old new was now kept piece
    -- a fault of the writer is kept
    pub fault : result ≡ Err line_ends.WriteFault → IsSome now.fault

  -- the text has ended, and its last line is answered, or ended it
  abbrev pub EndsAll : Result (Unit {0}) LineEnd → R → R → Out → Out → List ℕ → Type 0
  EndsAll result old new was now kept = FromAnswered old new was kept
      (λ h start first text. EndsText result h start first new now text)

  -- what that leaves
  pub record TakesEnd (result : Result (Unit {0}) LineEnd) (old new : R) (was now : Out)
      (kept : List ℕ) : Type 0 where
    pub calls : CallsGo registry.showing old new
    pub ends : EndsAll result old new was now kept
    -- a fault of the writer is kept
    pub fault : result ≡ Err line_ends.WriteFault → IsSome now.fault

-- the end of a script that such an end makes
abbrev pub script_end : Result (Unit {0}) LineEnd → ScriptEnd
script_end (Ok x) = Done
script_end (Err line_ends.Stopped) = Stopped
script_end (Err line_ends.WriteFault) = WriteFault
script_end (Err line_ends.TooLong) = TooLong
